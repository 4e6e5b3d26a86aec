use Rattle.std.proofs.Common.{◌≡◌, ℕ, inl, inr, ◌||◌, IsTrue, Bool, true, false, List, refl, sym, ap, ◌∙◌, subst}
use Rattle.mr_text.specs.Replies.{SpellsReply, RefusesReply}
use Rattle.mr_text.specs.Stream.{BeginsWith, IsUnfinished}
use Rattle.mr_proxy.specs.declared.sheet.LegSheet.{LegSheet}
use Rattle.mr_loop.specs.declared.sent_legs.SentLeg.{SentLeg}
use Rattle.mr_loop.specs.Counts.{CountsCarried}
use Rattle.mr_loop.specs.Events.{after_event}
use Rattle.mr_loop.specs.Returning.{HasTaken, TakesSent, giving_up}
use Rattle.mr_loop.proofs.CountLemmas.{carried_none, carried_more}
use Rattle.mr_loop.proofs.TakenLemmas.{taken_none, taken_more, refused}
use Rattle.mr_loop.proofs.link.Link.take_replies.Goals as goal

pub reply-init : goal.reply-init
reply-init c = record {
  taken = taken_none c.args.self.now.reader.kept c.args.self.now.legs c.args.front.now;
  counted = carried_none c.args.now c.args.self.now.legs c.args.self.now.counts;
  same_out = refl;
  same_state = refl;
  same_closed = refl;
  same_ended = refl;
}

pub returns-in-Ok-None : goal.returns-in-Ok-None
returns-in-Ok-None c =
    let answer = rw c.in-Ok-None.field-0-is at c.in-Ok-None.ensures.answer in
    let n = answer c.reply.self.reader.kept refl in
    let P : List ℕ → Type 0 = λ x. HasTaken c.args.self.now.reader.kept c.args.self.now.legs c.args.front.now x c.reply.self.legs c.reply.front in
    let Q : List ℕ → Type 0 = λ x. IsUnfinished SpellsReply RefusesReply x in
    record {
      taken = subst P (sym n.3.stands) c.reply.invariant.taken;
      counted = c.reply.invariant.counted;
      unfinished = subst Q (sym n.3.stands) n.1;
      same_out = c.reply.invariant.same_out;
      same_state = c.reply.invariant.same_state;
    }

pub returns-in_default : goal.returns-in_default
returns-in_default c =
    let answer = rw c.in-Ok-Some.field-0-is at c.in-Ok-Some.ensures.answer in
    let n = answer c.reply.self.reader.kept refl in
    let e = c.in_default.ensures in
    let P : List SentLeg → Type 0 = λ x. HasTaken c.args.self.now.reader.kept c.args.self.now.legs c.args.front.now c.reply.self.reader.kept x c.reply.front in
    let C : List SentLeg → Type 0 = λ x. CountsCarried c.args.now c.args.self.now.legs x c.args.self.now.counts c.reply.self.counts in
    record {
      rest = c.reply.self.reader.kept;
      taken = subst P (e.0 ∙ sym e.1) c.reply.invariant.taken;
      counted = subst C (e.0 ∙ sym e.1) c.reply.invariant.counted;
      same_state = c.reply.invariant.same_state;
      next = ((c.in-Ok-Some.reply, n.1, n.2), e.1);
    }

pub returns-then-not-take_reply : goal.returns-then-not-take_reply
returns-then-not-take_reply c =
    let answer = rw c.in-Ok-Some.field-0-is at c.in-Ok-Some.ensures.answer in
    let n = answer c.reply.self.reader.kept refl in
    let e = c.in-Some.ensures in
    let P : List SentLeg → Type 0 = λ x. HasTaken c.args.self.now.reader.kept c.args.self.now.legs c.args.front.now c.reply.self.reader.kept x c.reply.front in
    let C : List SentLeg → Type 0 = λ x. CountsCarried c.args.now c.args.self.now.legs x c.args.self.now.counts c.reply.self.counts in
    let G : LegSheet → Type 0 = λ s. c.give_up.new.self ≡ after_event (giving_up (record c.in-Some.sent { leg = s })) c.take_reply.new.front in
    let T : Bool → Type 0 = λ b. TakesSent c.in-Some.sent c.in-Ok-Some.reply c.reply.front b c.take_reply.new.front in
    let other : T false = subst T c.if-not-take_reply.true c.take_reply.ensures in
    record {
      rest = c.reply.self.reader.kept;
      sent = c.in-Some.sent;
      between = c.reply.front;
      counts = c.reply.self.counts;
      taken = subst P e c.reply.invariant.taken;
      counted = subst C e c.reply.invariant.counted;
      lost = c.add_lost.ensures;
      same_state = c.reply.invariant.same_state;
      next = record {
        sent = c.in-Some.sent;
        later = c.pop.new.self;
        reply = c.in-Ok-Some.reply;
        after = n.1;
        first = refl;
        next = n.2;
        other = other.0;
      };
      happens = subst G c.sheet.ensures c.give_up.ensures ∙ ap (λ f. after_event (giving_up c.in-Some.sent) f) other.1;
    }

pub returns-then-complains : goal.returns-then-complains
returns-then-complains c =
    let answer = rw c.in-Ok-Some.field-0-is at c.in-Ok-Some.ensures.answer in
    let n = answer c.reply.self.reader.kept refl in
    let T : Bool → Type 0 = λ b. TakesSent c.in-Some.sent c.in-Ok-Some.reply c.reply.front b c.take_reply.new.front in
    let took : T true = subst T c.if-not-take_reply.false c.take_reply.ensures in
    record {
      taken = record {
        rest = c.reply.self.reader.kept;
        before = c.reply.self.legs;
        between = c.reply.front;
        sent = c.in-Some.sent;
        reply = c.in-Ok-Some.reply;
        said = took.0;
        after = n.1;
        taken = c.reply.invariant.taken;
        first = c.in-Some.ensures;
        next = n.2;
        complains = sym c.is_complaint-complains.ensures ∙ c.if-complains.true;
        answers = took.1;
        happens = took.2;
      };
      counted = carried_more c.args.now c.args.self.now.legs c.reply.self.legs c.pop.new.self c.in-Some.sent c.args.self.now.counts c.reply.self.counts
          c.add_carried.new.self c.reply.invariant.counted c.in-Some.ensures c.add_carried.ensures;
      same_state = c.reply.invariant.same_state;
    }

pub returns-in-Err : goal.returns-in-Err
returns-in-Err c =
    let n = c.in-Err.ensures.answer c.reply.self.reader.kept refl in
    let closed : Bool → Type 0 = λ b. IsTrue (b || c.reply.self.reader.ended) in
    let ended : Bool → Type 0 = λ b. IsTrue (c.args.self.now.reader.closed || b) in
    elim (refused c.reply.self.reader c.next.new.self c.in-Err.refusal c.reply.self.legs n) [
      | inl why ↦ inl (record { rest = c.reply.self.reader.kept; taken = c.reply.invariant.taken; counted = c.reply.invariant.counted; same_state = c.reply.invariant.same_state; next = why })
      | inr shut ↦ inr (subst ended c.reply.invariant.same_ended (subst closed c.reply.invariant.same_closed shut))
    ]

pub reply-preserved : goal.reply-preserved
reply-preserved c =
    let answer = rw c.in-Ok-Some.field-0-is at c.in-Ok-Some.ensures.answer in
    let n = answer c.reply.self.reader.kept refl in
    let T : Bool → Type 0 = λ b. TakesSent c.in-Some.sent c.in-Ok-Some.reply c.reply.front b c.take_reply.new.front in
    let took : T true = subst T c.if-not-take_reply.false c.take_reply.ensures in
    let B : List ℕ → Type 0 = λ x. BeginsWith SpellsReply c.reply.self.reader.kept c.in-Ok-Some.reply x in
    record {
      taken = taken_more c.args.self.now.reader.kept c.args.self.now.legs c.args.front.now c.reply.self.reader.kept c.reply.self.legs c.reply.front
          c.in-Some.sent c.in-Ok-Some.reply took.0 c.next.new.self.kept c.pop.new.self c.take_reply.new.front
          c.reply.invariant.taken (subst B (sym n.3.stands) n.2) c.in-Some.ensures took.1 took.2;
      counted = carried_more c.args.now c.args.self.now.legs c.reply.self.legs c.pop.new.self c.in-Some.sent c.args.self.now.counts c.reply.self.counts
          c.add_carried.new.self c.reply.invariant.counted c.in-Some.ensures c.add_carried.ensures;
      same_out = c.reply.invariant.same_out;
      same_state = c.reply.invariant.same_state;
      same_closed = n.3.is_closed ∙ sym n.0 ∙ c.reply.invariant.same_closed;
      same_ended = n.3.is_ended ∙ c.reply.invariant.same_ended;
    }
