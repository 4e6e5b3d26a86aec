use Rattle.std.proofs.Common.{◌≡◌, drop}
use Rattle.mr_loop.specs.steps.Clearing.{full_of_keys}
use Rattle.mr_loop.proofs.clearing.full_of_keys.Given as goal

-- the keys so far have places
abbrev pub invariant-loop-key : goal.invariant-loop-key
invariant-loop-key l = full_of_keys l.most l.routing l.pool l.keys l.links ≡ full_of_keys l.most l.routing l.pool (drop l.key-index l.keys) l.links
