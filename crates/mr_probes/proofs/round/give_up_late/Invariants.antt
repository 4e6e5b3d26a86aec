use Rattle.std.proofs.Common.{◌≡◌}
use Rattle.std.specs.List.{range_with_len}
use Rattle.mr_probes.specs.CanaryView.{GivesUpThrough, canary_of}
use Rattle.mr_probes.specs.declared.course.Course.{Course}
use Rattle.mr_probes.proofs.round.give_up_late.Given as goal

abbrev pub invariant-loop-place : goal.invariant-loop-place
invariant-loop-place l = (course : Course) → course.give_up ≡ l.give_up
    → GivesUpThrough l.now (range_with_len 0 l.place) (canary_of l.fn.clients l.fn.notebook course) (canary_of l.clients l.notebook course)
