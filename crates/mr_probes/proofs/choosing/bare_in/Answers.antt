use Rattle.std.proofs.Common.{◌∙◌, ◌+◌, ℕ, sym, ap, arith}
use Rattle.mr_probes.specs.Choosing.{is_bare}
use Rattle.mr_probes.proofs.ChoosingLemmas.{count_no, count_yes}
use Rattle.mr_probes.proofs.choosing.bare_in.Goals as goal
use Rattle.mr_probes.proofs.choosing.bare_in.Goals.{then-is_bare, else-is_bare}

pub loop-index-preserved : goal.loop-index-preserved
loop-index-preserved c =
    let i = c.loop-index.invariant in
    let p = is_bare c.args.routing.now c.args.keys.now c.args.number in
    let index = c.loop-index.index in
    elim c.if-is_bare.branch [
      | then-is_bare w ↦ record {
        counted = w.bare-is ∙ ap (λ (m : ℕ). m + 1) i.counted ∙ sym (count_yes p index (sym c.is_bare.ensures ∙ w.if-is_bare.true));
        few = (let b = w.bare-is in let few = i.few in omega arith);
      }
      | else-is_bare w ↦ record {
        counted = w.bare-is ∙ i.counted ∙ sym (count_no p index (sym c.is_bare.ensures ∙ w.if-is_bare.false));
        few = (let b = w.bare-is in let few = i.few in omega arith);
      }
    ]
