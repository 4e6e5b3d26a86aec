use Rattle.std.proofs.Common.{◌+◌, ◌<◌, ◌≤◌, ◌∙◌, length, refl, arith}
use Rattle.mr_sightings.proofs.SumLemmas.{sums_step, sums_end}
use Rattle.mr_sightings.proofs.tally.add_each.Goals as goal

pub loop-place-preserved : goal.loop-place-preserved
loop-place-preserved c =
    let within : c.loop-place.place < length c.args.counts.now = omega arith in
    let within' : c.loop-place.place < length c.args.more.now = omega arith in
    rw (c.sum_of.ensures, c.loop-place.invariant)
    (sums_step c.loop-place.place (c.loop-place.place + 1) c.args.counts.now c.args.more.now 0 0 refl within within')

pub returns : goal.returns
returns c =
    let past : length c.args.counts.now ≤ c.loop-place.place = omega arith in
    c.loop-place.invariant ∙ sums_end c.loop-place.place c.args.counts.now c.args.more.now past
