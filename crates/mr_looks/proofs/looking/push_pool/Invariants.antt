use Rattle.std.proofs.Common.{◌≡◌, ◌++◌, All, drop}
use Rattle.mr_looks.specs.Looking.{HasCountsToldBy, all_named, nodes_of_pool}
use Rattle.mr_looks.proofs.looking.push_pool.Given as goal

-- the nodes so far, and the names of the rest
abbrev pub invariant-loop-name : goal.invariant-loop-name
invariant-loop-name g l = record {
  named : all_named l.nodes.items ++ nodes_of_pool l.number (drop l.name-index l.name-items) ≡ all_named l.initial.nodes.items ++ nodes_of_pool l.number l.name-items;
  told : All (HasCountsToldBy l.posts) l.initial.nodes.items → All (HasCountsToldBy l.posts) l.nodes.items;
}
