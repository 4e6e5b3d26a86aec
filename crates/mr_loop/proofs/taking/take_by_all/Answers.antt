use Rattle.std.proofs.Common.{◌≡◌, inl, inr, ◌∷◌, List, is_some, map, refl, true, sym, ap, ◌∙◌, subst}
use Rattle.mr_text.specs.declared.cause.Cause.TheVariants.{NodeRefused}
use Rattle.mr_text.specs.declared.item.Item.{Item}
use Rattle.mr_text.specs.declared.reply.Reply.{Reply}
use Rattle.mr_text.specs.declared.reply.Reply.TheVariants as reply
use Rattle.mr_proxy.specs.NodeReplies.{AnswersGets, all_failed, dealt}
use Rattle.mr_proxy.specs.NodeRequests.{key_of}
use Rattle.mr_proxy.specs.declared.sheet.LegSheet.{LegSheet}
use Rattle.mr_loop.specs.Links.{legs_of}
use Rattle.mr_loop.proofs.DealtLemmas.{answers_many, some_there}
use Rattle.mr_loop.proofs.taking.take_by_all.Goals as goal

pub returns-else-not-are_dealt : goal.returns-else-not-are_dealt
returns-else-not-are_dealt c =
    let sent = c.args.sent.now in
    let keys = map key_of (legs_of sent) in
    let is : is_some (dealt keys c.in-Items.items) ≡ true =
    ap (λ (o : List LegSheet). is_some (dealt (key_of sent.leg ∷ map key_of o) c.in-Items.items)) (sym c.as_slice.ensures)
    ∙ ap (λ (l : List Item). is_some (dealt (key_of sent.leg ∷ map key_of c.as_slice.result.now) l)) (sym c.as_slice-in-Items.ensures.items)
    ∙ sym c.are_dealt.ensures ∙ c.if-not-are_dealt.false in
    let there = some_there (dealt keys c.in-Items.items) is in
    let P : Reply → Type 0 = λ r. AnswersGets keys r there.0 in (
      there.0,
      answers_many sent.leg sent.others c.args.reply there.0 c.requires (subst P (sym c.in-Items.is) there.1),
      c.take_items.ensures there.0 there.1,
    )

pub returns-in-Error : goal.returns-in-Error
returns-in-Error c =
    let sent = c.args.sent.now in
    let keys = map key_of (legs_of sent) in
    let P : Reply → Type 0 = λ r. AnswersGets keys r (all_failed NodeRefused keys) in (
      all_failed NodeRefused keys,
      answers_many sent.leg sent.others c.args.reply (all_failed NodeRefused keys) c.requires (subst P (sym c.in-Error.is) refl),
      c.take_failures.ensures,
    )

pub returns-in-ServerError : goal.returns-in-ServerError
returns-in-ServerError c =
    let sent = c.args.sent.now in
    let keys = map key_of (legs_of sent) in
    let cause = c.in-ServerError.cause in
    let P : Reply → Type 0 = λ r. AnswersGets keys r (all_failed cause keys) in (
      all_failed cause keys,
      answers_many sent.leg sent.others c.args.reply (all_failed cause keys) c.requires
          (elim c.in-ServerError.is [ inl is ↦ subst P (sym is) refl | inr is ↦ subst P (sym is) refl ]),
      c.take_failures-in-ServerError.ensures,
    )
