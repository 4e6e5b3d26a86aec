use Rattle.std.proofs.Common.{◌≡◌, [], ◌∷◌, sym, ◌∙◌, subst}
use Rattle.mr_proxy.specs.NodeReplies.{IsAnswer}
use Rattle.mr_proxy.specs.declared.sheet.LegSheet.{LegSheet}
use Rattle.mr_loop.proofs.DealtLemmas.{answers_one, none_there, takes_one}
use Rattle.mr_loop.proofs.taking.take_reply.Goals as goal

pub returns-in-Some : goal.returns-in-Some
returns-in-Some c =
    let sent = c.args.sent.now in
    let none : sent.others ≡ [] = sym c.as_slice.ensures ∙ none_there c.as_slice.result.now c.is_empty.result c.is_empty.ensures c.if-not-is_empty.false in
    let A : LegSheet → Type 0 = λ s. IsAnswer s.command c.args.reply c.in-Some.said in (
      c.in-Some.said ∷ [],
      answers_one sent.leg sent.others c.args.reply c.in-Some.said none (subst A c.sheet.ensures c.in-Some.ensures),
      takes_one sent.leg sent.others sent.client c.in-Some.said c.args.front.now c.take.new.self none c.take.ensures,
    )
