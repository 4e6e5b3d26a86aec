use Rattle.std.proofs.Common.{◌≡◌, ◌<◌, List, ◌++◌, length, refl, sym, ap, subst, ◌∙◌, arith}
use Rattle.mr_history.specs.declared.entry.Entry.{Entry}
use Rattle.mr_history.specs.Places.{At}
use Rattle.mr_join.specs.declared.leg_reply.LegReply.{LegReply}
use Rattle.mr_proxy.specs.Transitions.{taken_of}
use Rattle.mr_world.specs.contracts.network.Network.{the_view}
use Rattle.mr_world.specs.Network.{IsReady}
use Rattle.mr_world.specs.Steps.{answered_by, note_of}
use Rattle.mr_world.specs.Tracked.{IsUnanswered}
use Rattle.mr_world.proofs.Lists.{at_read, at_within}
use Rattle.mr_world.proofs.NetworkLemmas.{not_past, same_moved}
use Rattle.mr_world.proofs.ProxyLemmas.{taken_answers}
use Rattle.mr_world.proofs.TrackedLemmas.{answer_waits}
use Rattle.mr_world.proofs.network.Network.take_back.Goals as goal

pub index-requires : goal.index-requires
index-requires c =
    let t = (subst IsReady (sym c.self.view_is) c.requires).tracked in
    let sized = c.self.inside.replies.ok.0 in
    let count = c.len.ensures in
    let below = c.if-number-len.false in
    let within : c.args.number < length c.self.inside.replies.items = omega arith in
    let from = t.replies c.args.number c.index-delivery.result.now (at_read c.self.inside.replies.items c.args.number c.index-delivery.result.now within c.index-delivery.ensures) in
    let sent = c.self.inside.sent.ok.0 in
    omega arith

pub index_mut-proxy-requires : goal.index_mut-proxy-requires
index_mut-proxy-requires c =
    let t = (subst IsReady (sym c.self.view_is) c.requires).tracked in
    let sized = c.self.inside.replies.ok.0 in
    let count = c.len.ensures in
    let below = c.if-number-len.false in
    let within : c.args.number < length c.self.inside.replies.items = omega arith in
    let d = c.index-delivery.result.now in
    let from = t.replies c.args.number d (at_read c.self.inside.replies.items c.args.number d within c.index-delivery.ensures) in
    let m = c.index.result.now in
    let s = t.sent d.message m (at_read c.self.inside.sent.items d.message m from c.index.ensures) in
    let g = t.given_out m.sheet.id.op s.issued in
    let there = at_within g.home in
    let proxies = c.self.inside.proxies.ok.0 in
    omega arith

pub note_taken-requires-clause-unanswered : goal.note_taken-requires-clause-unanswered
note_taken-requires-clause-unanswered c = λ answer is.
    let t = (subst IsReady (sym c.self.view_is) c.requires).tracked in
    let sized = c.self.inside.replies.ok.0 in
    let count = c.len.ensures in
    let below = c.if-number-len.false in
    let within : c.args.number < length c.self.inside.replies.items = omega arith in
    let d = c.index-delivery.result.now in
    let from = t.replies c.args.number d (at_read c.self.inside.replies.items c.args.number d within c.index-delivery.ensures) in
    let m = c.index.result.now in
    let s = t.sent d.message m (at_read c.self.inside.sent.items d.message m from c.index.ensures) in
    let g = t.given_out m.sheet.id.op s.issued in
    let p = c.index_mut-proxy.result.now in
    let at = at_read c.self.inside.proxies.items m.sheet.id.op.proxy p (at_within g.home) c.index_mut-proxy.ensures.value in
    let taken = taken_answers p m.sheet.id c.in_ok-reply.reply answer (sym c.take_reply-taken.ensures.taken ∙ is) in
    let waits = answer_waits (the_view c.self.inside).world m.sheet.id.op.proxy p answer t at taken in
    subst (λ (H : List Entry). IsUnanswered H answer.op) (sym c.in_ok-reserve.ensures.entries) waits

pub returns : goal.returns
returns c =
    let t = (subst IsReady (sym c.self.view_is) c.requires).tracked in
    let sized = c.self.inside.replies.ok.0 in
    let count = c.len.ensures in
    let below = c.if-number-len.false in
    let within : c.args.number < length c.self.inside.replies.items = omega arith in
    let d = c.index-delivery.result.now in
    let came = at_read c.self.inside.replies.items c.args.number d within c.index-delivery.ensures in
    let from = t.replies c.args.number d came in
    let m = c.index.result.now in
    let sent = at_read c.self.inside.sent.items d.message m from c.index.ensures in
    let s = t.sent d.message m sent in
    let g = t.given_out m.sheet.id.op s.issued in
    let p = c.index_mut-proxy.result.now in
    let at = at_read c.self.inside.proxies.items m.sheet.id.op.proxy p (at_within g.home) c.index_mut-proxy.ensures.value in
    let reply = c.in_ok-reply.reply in
    let copied : reply ≡ d.reply = c.in_ok-reply.ensures in
    let took = taken_of p m.sheet.id reply in
    let w = (the_view c.self.inside).world in
    let history : c.note_taken.new.history.entries ≡ c.self.inside.history.entries ++ answered_by took =
    c.note_taken.ensures.history ∙ ap (λ l. l ++ answered_by c.take_reply-taken.result) c.in_ok-reserve.ensures.entries
    ∙ ap (λ x. c.self.inside.history.entries ++ answered_by x) c.take_reply-taken.ensures.taken in
    rw (← c.self.view_is) (
      not_past _ c.args.number (length c.self.inside.replies.items) within,
      record {
        message = m;
        proxy = p;
        sender = m.sheet.id.op.proxy;
        from = d.message;
        reply = reply;
        came = subst (λ (r : LegReply). At c.self.inside.replies.items c.args.number (record { message = d.message; reply = r })) (sym copied) came;
        sent = sent;
        sends = refl;
        home = at;
        tells = c.note_taken.ensures.note ∙ ap note_of c.take_reply-taken.ensures.taken;
        becomes = same_moved w m.sheet.id.op.proxy _ _ _ _ c.take_reply-taken.ensures.state history;
      },
      refl,
    )
