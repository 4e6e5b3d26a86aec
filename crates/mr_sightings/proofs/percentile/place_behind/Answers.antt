use Rattle.std.proofs.Common.{◌∙◌, ◌<◌, ◌≤◌, add-one, length, get_or, sym, arith}
use Rattle.mr_sightings.proofs.PercentileLemmas.{answer_here, answer_behind}
use Rattle.mr_sightings.proofs.percentile.place_behind.Goals as goal

pub returns-then-left-here-clause-place : goal.returns-then-left-here-clause-place
returns-then-left-here-clause-place c =
    let within : c.loop-count.count-index < length c.args.counts.now = omega arith in
    let here : c.loop-count.left < get_or c.args.counts.now c.loop-count.count-index 0 = omega arith in
    sym (answer_here c.args.counts.now c.loop-count.count-index c.loop-count.place c.loop-count.left 0 within here) ∙ c.loop-count.invariant.answer

pub loop-count-preserved : goal.loop-count-preserved
loop-count-preserved c =
    let within : c.loop-count.count-index < length c.args.counts.now = omega arith in
    let behind : get_or c.args.counts.now c.loop-count.count-index 0 ≤ c.loop-count.left = omega arith in
    record {
      place = omega arith;
      answer = rw (c.from-here.ensures, add-one c.loop-count.count-index)
          (sym (answer_behind c.args.counts.now c.loop-count.count-index c.loop-count.place c.loop-count.left 0 within behind)
          ∙ c.loop-count.invariant.answer);
    }
