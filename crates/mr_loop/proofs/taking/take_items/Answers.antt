use Rattle.std.proofs.Common.{◌≡◌, ◌+◌, List, ◌∷◌, drop, map, sym, ap, ◌∙◌}
use Rattle.mr_text.specs.declared.item.Item.{Item}
use Rattle.mr_proxy.specs.NodeReplies.{dealt}
use Rattle.mr_proxy.specs.NodeRequests.{key_of}
use Rattle.mr_proxy.specs.declared.sheet.LegSheet.{LegSheet}
use Rattle.mr_proxy.specs.steps.Dealing.{left_by}
use Rattle.mr_loop.specs.Events.{FrontView, after_event, after_all}
use Rattle.mr_loop.specs.Links.{legs_of}
use Rattle.mr_loop.specs.Returning.{taking, takings}
use Rattle.mr_loop.specs.steps.Returning.{coming, said_next}
use Rattle.mr_loop.proofs.DealtLemmas.{dealt_first, coming_first, one_dropped}
use Rattle.mr_loop.proofs.taking.take_items.Goals as goal

pub loop-other-init : goal.loop-other-init
loop-other-init c said e =
    let sent = c.args.sent.now in
    let key = key_of sent.leg in
    let next = c.take_next-next in
    let first : c.args.items ≡ coming c.into_reversed-first.result.0 c.into_reversed-first.result.1.items =
    coming_first c.args.items c.into_reversed-first.result.1.items c.into_reversed-first.result.0 c.into_reversed-first.ensures in
    let d = dealt_first key (map key_of sent.others) c.args.items said e in
    let front : next.new.front ≡ after_event (taking sent.client sent.leg (said_next key c.args.items)) c.args.front.now =
    next.ensures.taken ∙ ap (λ l. after_event (taking sent.client sent.leg (said_next key l)) c.args.front.now) (sym first) in (
      d.rest,
      ap (λ (o : List LegSheet). dealt (map key_of o) (coming next.result next.new.later.items)) c.as_slice-other-items.ensures
          ∙ ap (dealt (map key_of sent.others)) (next.ensures.left ∙ ap (left_by key) (sym first)) ∙ d.others,
      ap (λ s. after_all (takings sent.client (legs_of sent) s) c.args.front.now) d.first
          ∙ ap (λ (f : FrontView). after_all (takings sent.client sent.others d.rest) f) (sym front)
          ∙ ap (λ (o : List LegSheet). after_all (takings sent.client o d.rest) next.new.front) (sym c.as_slice-other-items.ensures),
    )

pub loop-other-preserved : goal.loop-other-preserved
loop-other-preserved c said e =
    let client = c.args.sent.now.client in
    let i = c.loop-other.invariant said e in
    let leg : LegSheet = c.other-item.result in
    let key = key_of leg in
    let all : List LegSheet = c.as_slice-other-items.result.now in
    let others : List LegSheet = drop (c.loop-other.other-index + 1) all in
    let next = c.take_next-next-in-loop-other in
    let items : List Item = coming c.loop-other.next c.loop-other.later.items in
    let cut : drop c.loop-other.other-index all ≡ leg ∷ others = one_dropped all c.loop-other.other-index leg c.loop-other-test.true (sym c.other-item.is) in
    let d = dealt_first key (map key_of others) items i.0 (ap (λ l. dealt (map key_of l) items) (sym cut) ∙ i.1) in (
      d.rest,
      ap (dealt (map key_of others)) next.ensures.left ∙ d.others,
      i.2 ∙ ap (λ l. after_all (takings client l i.0) c.loop-other.front) cut
          ∙ ap (λ s. after_all (takings client (leg ∷ others) s) c.loop-other.front) d.first
          ∙ ap (λ (f : FrontView). after_all (takings client others d.rest) f) (sym next.ensures.taken),
    )
