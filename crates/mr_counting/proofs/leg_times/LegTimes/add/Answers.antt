use Rattle.std.proofs.Common.{◌≡◌, ◌+◌, ◌<◌, ◌≤◌, ◌∙◌, length, refl, ap, arith}
use Rattle.mr_counting.specs.Sums.{sums_of}
use Rattle.mr_counting.specs.declared.leg_times.LegTimes.{LegTimes}
use Rattle.mr_counting.proofs.SumLemmas.{sums_step, sums_end}
use Rattle.mr_counting.proofs.leg_times.LegTimes.add.Goals as goal

pub loop-place-preserved : goal.loop-place-preserved
loop-place-preserved c =
    let within : c.loop-place.place < length c.args.self.now.counts = omega arith in
    let within' : c.loop-place.place < length c.args.more.now.counts = omega arith in
    record {
      summed = rw (c.sum_of.ensures, c.loop-place.invariant.summed)
          (sums_step c.loop-place.place (c.loop-place.place + 1) c.args.self.now.counts c.args.more.now.counts 0 0 refl within within');
      micros = c.loop-place.invariant.micros;
    }

pub returns : goal.returns
returns c =
    let past : length c.args.self.now.counts ≤ c.loop-place.place = omega arith in
    let summed = c.loop-place.invariant.summed ∙ sums_end c.loop-place.place c.args.self.now.counts c.args.more.now.counts past in
    let micros = c.loop-place.invariant.micros in
    rw (c.sum_of-self.ensures, summed, micros) refl
