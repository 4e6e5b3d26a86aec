use Rattle.std.proofs.Common.{◌≡◌, ◌++◌, map, drop}
use Rattle.mr_counting.specs.Telling.{link_said, node_rows}
use Rattle.mr_counting.proofs.proxy_telling.push_pool.Given as goal

-- the rows of the nodes so far, and behind them those of the others
abbrev pub invariant-loop-name : goal.invariant-loop-name
invariant-loop-name l =
    map link_said l.rows.items ++ node_rows l.number (drop l.name-index l.pool) l.rest
    ≡ map link_said l.initial.rows.items ++ node_rows l.number l.pool l.nodes
