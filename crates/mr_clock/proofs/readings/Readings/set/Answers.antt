use Rattle.std.proofs.Common.{ap, arith}
use Rattle.mr_clock.specs.Readings.{spread_of}
use Rattle.mr_clock.proofs.ReadingLemmas.{are_within}
use Rattle.mr_clock.proofs.readings.Readings.set.Goals as goal

pub invariant_of-self : goal.invariant_of-self
invariant_of-self c = are_within _ _ (omega (arith, ap spread_of c.deref.ensures.value, c.spread_of.ensures, c.max-self-inside.ensures))
