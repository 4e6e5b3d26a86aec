use Rattle.std.proofs.Common.{◌≡◌, drop}
use Rattle.std.specs.Prelude.{fold}
use Rattle.mr_counting.specs.Counting.{sum_of}
use Rattle.mr_sightings.specs.Second.{errors_of}
use Rattle.mr_sightings.proofs.second.errors_of.Given as goal

abbrev pub invariant-loop-count : goal.invariant-loop-count
invariant-loop-count l = fold sum_of l.errors (drop l.count-index l.troubles) ≡ errors_of l.troubles
