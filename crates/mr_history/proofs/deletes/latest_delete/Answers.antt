use Rattle.std.proofs.Common.{◌∙◌, sym, ap, subst, arith}
use Rattle.std.specs.Option.{option_copied}
use Rattle.mr_history.specs.steps.Index.{BoundsDeletes, find_by_key}
use Rattle.mr_history.proofs.IndexLemmas.{bound_weakens}
use Rattle.mr_history.proofs.deletes.latest_delete.Goals as goal

pub returns-in-Some : goal.returns-in-Some
returns-in-Some c history read bounded within =
    let found = ap (find_by_key c.args.deletes.now) (sym c.as_bytes.ensures.bytes) ∙ sym c.get.ensures.value ∙ ap option_copied c.in-Some.is in
    c.latest_before.ensures history c.args.key.now read (subst (BoundsDeletes history c.args.key.now read) found (bounded c.args.key.now)) within

pub returns-in-None : goal.returns-in-None
returns-in-None c history read bounded within =
    let found = ap (find_by_key c.args.deletes.now) (sym c.as_bytes.ensures.bytes) ∙ sym c.get.ensures.value ∙ ap option_copied c.in-None.is in
    bound_weakens {latest = 0} {latest' = 0} (subst (BoundsDeletes history c.args.key.now read) found (bounded c.args.key.now)) within (omega arith)
