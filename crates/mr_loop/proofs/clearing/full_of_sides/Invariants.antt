use Rattle.std.proofs.Common.{◌≡◌, drop}
use Rattle.mr_loop.specs.steps.Clearing.{full_of_sides}
use Rattle.mr_loop.proofs.clearing.full_of_sides.Given as goal

-- the sides so far have places
abbrev pub invariant-loop-side : goal.invariant-loop-side
invariant-loop-side l = full_of_sides l.most l.routing l.hop l.sides l.key l.links ≡ full_of_sides l.most l.routing l.hop (drop l.side-index l.sides) l.key l.links
