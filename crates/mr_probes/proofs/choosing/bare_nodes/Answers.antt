use Rattle.std.proofs.Common.{◌∙◌, ◌+◌, ℕ, sym, ap, arith, sum_by}
use Rattle.std.specs.List.{range_with_len}
use Rattle.mr_probes.specs.Choosing.{bare_in}
use Rattle.mr_probes.proofs.ChoosingLemmas.{sum_more}
use Rattle.mr_probes.proofs.choosing.bare_nodes.Goals as goal

pub loop-number-preserved : goal.loop-number-preserved
loop-number-preserved c =
    let i = c.loop-number.invariant in
    let f = bare_in c.args.routing.now c.args.keys.now in
    let number = c.loop-number.number in
    record {
      counted = ap (λ (m : ℕ). m + c.bare_in-bare.result) i.counted ∙ ap (λ (m : ℕ). sum_by f (range_with_len 0 number) + m) c.bare_in-bare.ensures.bare ∙ sym (sum_more f number);
      few = (let few = i.few in let more = c.bare_in-bare.ensures.few in omega arith);
    }
