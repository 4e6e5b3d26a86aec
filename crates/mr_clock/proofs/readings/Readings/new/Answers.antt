use Rattle.std.proofs.Common.{ap, arith}
use Rattle.mr_clock.specs.Readings.{spread_of}
use Rattle.mr_clock.proofs.ReadingLemmas.{are_within}
use Rattle.mr_clock.proofs.readings.Readings.new.Goals as goal

pub invariant_of-result : goal.invariant_of-result
invariant_of-result c = are_within _ c.args.readings.items (omega (arith, ap spread_of c.deref.ensures.value, c.spread_of-spread.ensures))
