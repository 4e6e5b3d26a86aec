use Rattle.std.proofs.Common.{rules, ◌≡◌, ◌<◌, true, get_or, length, slice_set, sym, ap, ◌∙◌}
use Rattle.mr_loop.specs.declared.sent_legs.SentLeg.{SentLeg}
use Rattle.mr_loop.specs.Links.{travels_with, with_traveller}
use Rattle.mr_loop.proofs.PlaceLemmas.{get_any}
use Rattle.mr_loop.proofs.TravelLemmas.{put_behind}
use Rattle.mr_loop.proofs.sending.put_leg.Goals as goal

pub returns-then-travels_with : goal.returns-then-travels_with
returns-then-travels_with c =
    let i = c.loop-place.invariant in
    let sents = c.loop-place.sents.items in
    let place = c.loop-place.place in
    let sent : SentLeg = c.index_mut.result.now in
    let low : place < length sents = search rules in
    let is : get_or sents place sent ≡ sent = search rules in
    let same : c.index.result.now ≡ sent = c.index.ensures ∙ get_any sents place c.index.result.now sent low ∙ is in
    let may : travels_with c.args.leg sent.leg ≡ true =
    ap (λ (s : SentLeg). travels_with c.args.leg s.leg) (sym same)
    ∙ ap (λ s. travels_with c.args.leg s) (sym c.sheet-in-loop-place.ensures)
    ∙ ap (λ s. travels_with s c.sheet-in-loop-place.result.now) (sym c.sheet.ensures)
    ∙ sym c.travels_with.ensures ∙ c.if-travels_with.true in
    ap (λ o. slice_set sents place (record sent { others = o })) c.in_ok-push.ensures.pushed
    ∙ put_behind c.args.asker c.args.leg sents place sent low is may i.passed
    ∙ ap (λ l. with_traveller c.args.asker c.args.leg l) i.same
