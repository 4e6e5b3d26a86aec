use Rattle.std.proofs.Common.{◌≡◌, ◌++◌, map, drop}
use Rattle.mr_counting.specs.Telling.{link_said, link_rows}
use Rattle.mr_counting.proofs.proxy_telling.link_rows.Given as goal

-- the rows of the pools so far, and behind them those of the others
abbrev pub invariant-loop-pool : goal.invariant-loop-pool
invariant-loop-pool l = record {
  rows : map link_said l.rows.items ++ link_rows l.number (drop l.pool-index l.pools) l.rest ≡ link_rows 0 l.pools l.nodes;
  number : l.number ≡ l.pool-index;
}
