use Rattle.std.proofs.Common.{◌≡◌, ◌<◌, List, ◌++◌, ◌∷◌, [], length, All, refl, sym, ap, subst, ◌∙◌, arith}
use Rattle.mr_history.specs.declared.entry.Entry.{Entry}
use Rattle.mr_history.specs.History.{Fits}
use Rattle.mr_world.specs.contracts.network.Network.{the_view}
use Rattle.mr_world.specs.declared.message.Delivery.{Delivery}
use Rattle.mr_world.specs.declared.note.Note.TheVariants.{Performed}
use Rattle.mr_world.specs.Network.{IsReady}
use Rattle.mr_world.specs.Steps.{performed}
use Rattle.mr_world.proofs.Lists.{at_read}
use Rattle.mr_world.proofs.NetworkLemmas.{not_past, performed_all, same_delivered}
use Rattle.mr_world.proofs.network.Network.deliver.Goals as goal

pub perform_leg-requires-clause-within : goal.perform_leg-requires-clause-within
perform_leg-requires-clause-within c =
    let t = (subst IsReady (sym c.self.view_is) c.requires).tracked in
    let sized = c.self.inside.sent.ok.0 in
    let count = c.len.ensures in
    let below = c.if-number-len.false in
    let within : c.args.number < length c.self.inside.sent.items = omega arith in
    (t.sent c.args.number c.index-message.result.now (at_read c.self.inside.sent.items c.args.number c.index-message.result.now within c.index-message.ensures)).node

pub perform_leg-requires-clause-fits : goal.perform_leg-requires-clause-fits
perform_leg-requires-clause-fits c =
    let t = (subst IsReady (sym c.self.view_is) c.requires).tracked in
    let sized = c.self.inside.sent.ok.0 in
    let count = c.len.ensures in
    let below = c.if-number-len.false in
    let within : c.args.number < length c.self.inside.sent.items = omega arith in
    let m = c.index-message.result.now in
    let s = t.sent c.args.number m (at_read c.self.inside.sent.items c.args.number m within c.index-message.ensures) in
    subst (λ (H : List Entry). All (Fits H) (performed m.sheet m.sheet.command)) (sym c.in_ok-reserve-2.ensures.entries)
    (performed_all c.self.inside.history.entries m.sheet m.sheet.command s.issued)

pub returns : goal.returns
returns c =
    let t = (subst IsReady (sym c.self.view_is) c.requires).tracked in
    let sized = c.self.inside.sent.ok.0 in
    let count = c.len.ensures in
    let below = c.if-number-len.false in
    let within : c.args.number < length c.self.inside.sent.items = omega arith in
    let m = c.index-message.result.now in
    let at = at_read c.self.inside.sent.items c.args.number m within c.index-message.ensures in
    let s = t.sent c.args.number m at in
    let w = (the_view c.self.inside).world in
    let reply = c.in_ok-reply.reply in
    let did = c.in_ok-reply.ensures.step in
    let delivery : Delivery = record { message = c.args.number; reply = reply } in
    let replies : c.push_reserved.new.self.items ≡ c.self.inside.replies.items ++ delivery ∷ [] =
    c.push_reserved.ensures.items ∙ ap (λ l. l ++ delivery ∷ []) c.in_ok-reserve.ensures.items in
    let history : c.perform_leg.new.history.entries ≡ c.self.inside.history.entries ++ performed m.sheet m.sheet.command =
    c.in_ok-reply.ensures.history ∙ ap (λ l. l ++ performed m.sheet m.sheet.command) c.in_ok-reserve-2.ensures.entries in
    let told : c.len-told.result ≡ length c.self.inside.replies.items =
    (let counted = c.len-told.ensures in let room = c.reserve.new.self.ok.0 in let same = ap length c.in_ok-reserve.ensures.items in omega arith) in
    rw (← c.self.view_is) (
      not_past _ c.args.number (length c.self.inside.sent.items) within,
      record {
        message = m;
        node = did.node;
        reply = reply;
        left = did.left;
        sent = at;
        there = did.there;
        step = did.step;
        tells = ap Performed told;
        becomes = same_delivered w did.becomes replies history;
      },
      refl,
    )
