use Rattle.std.proofs.Common.{◌-◌}
use Rattle.std.specs.List.{range_with_len}
use Rattle.mr_probes.specs.CanaryView.{AsksThrough, canary_of}
use Rattle.mr_probes.proofs.round.ask_between.Given as goal

abbrev pub invariant-loop-place : goal.invariant-loop-place
invariant-loop-place l = AsksThrough l.now (range_with_len l.from (l.place - l.from)) (canary_of l.fn.clients l.fn.notebook l.fn.course) (canary_of l.clients l.notebook l.course)
