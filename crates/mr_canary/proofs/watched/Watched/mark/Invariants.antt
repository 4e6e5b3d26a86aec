use Rattle.std.proofs.Common.{◌≡◌, ◌++◌, map, take, drop}
use Rattle.mr_canary.specs.steps.Watched.{marked}
use Rattle.mr_canary.proofs.watched.Watched.mark.Given as goal

-- those so far are marked
abbrev pub invariant-loop-kept : goal.invariant-loop-kept
invariant-loop-kept l = l.kept-items ≡ map (marked l.value l.place) (take l.kept-index l.fn.self.kept) ++ drop l.kept-index l.fn.self.kept
