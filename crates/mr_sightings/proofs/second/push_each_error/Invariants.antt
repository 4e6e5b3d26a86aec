use Rattle.std.proofs.Common.{◌≡◌, ◌++◌, drop, codes}
use Rattle.mr_sightings.specs.Second.{each_error}
use Rattle.mr_sightings.proofs.second.push_each_error.Given as goal

abbrev pub invariant-loop-reason : goal.invariant-loop-reason
invariant-loop-reason l =
    l.text.items ++ each_error l.before (drop l.reason-index l.reasons) l.troubles ≡ l.initial.text.items ++ each_error (codes ": ") l.reasons l.troubles
