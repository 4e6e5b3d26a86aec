use Rattle.std.proofs.Common.{◌≡◌, ◌++◌, All, drop}
use Rattle.mr_looks.specs.Looking.{HasCountsToldBy, all_named, nodes_from}
use Rattle.mr_looks.proofs.looking.nodes_seen.Given as goal

-- the nodes so far, and the pools of the rest
abbrev pub invariant-loop-number : goal.invariant-loop-number
invariant-loop-number g l = record {
  named : all_named l.nodes.items ++ nodes_from l.number (drop l.number l.pool-items) ≡ nodes_from 0 l.pool-items;
  told : All (HasCountsToldBy l.posts) l.nodes.items;
}
