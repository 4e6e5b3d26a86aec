use Rattle.std.proofs.Common.{◌≡◌, ◌∙◌, true, refl, sym, rules}
use Rattle.std.proofs.lemmas.Fn.{filter_same}
use Rattle.std.specs.List.{filter}
use Rattle.mr_canary.specs.steps.Watched.{is_later, outlives}
use Rattle.mr_canary.proofs.watched.Watched.acknowledge.Goals as goal

pub returns-then-is_later : goal.returns-then-is_later
returns-then-is_later c =
    let kept : c.retain.new.self.items ≡ filter (outlives c.args.delete.number) c.self.inside.kept.items =
    filter_same _ _ _ (λ x b f' k. search rules) _ _ c.retain.ensures.filtered in
    let later : is_later c.self.inside.deleted c.args.delete ≡ true = sym c.is_later.ensures ∙ c.if-is_later.true in
    rw (kept, ← c.self.view_is, later) refl
