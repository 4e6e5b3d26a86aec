use Rattle.std.proofs.Common.{ℕ, List, inr, refl, subst}
use Rattle.mr_loop.specs.Returning.{HasTaken}
use Rattle.mr_loop.proofs.BreakLemmas.{unfed, breaks_so}
use Rattle.mr_loop.proofs.link.Link.take_bytes.Goals as goal

pub returns-in-Err : goal.returns-in-Err
returns-in-Err c = inr (record {
  was_up = c.if-not-self.false;
  why = unfed c.args.self.now.reader c.feed.new.self c.args.self.now.reader.kept c.args.piece.now c.in-Err.refusal (c.in-Err.ensures.piece c.args.self.now.reader.kept refl);
  breaks = record { given_up = c.break_off.ensures.given_up; down = c.break_off.ensures.down };
})

pub returns-in-Whole : goal.returns-in-Whole
returns-in-Whole c =
    let fed = c.in-Ok.ensures.piece c.args.self.now.reader.kept refl in
    let t = c.in-Whole.ensures in
    let P : List ℕ → Type 0 = λ x. HasTaken x c.args.self.now.legs c.args.front.now c.take_replies.new.self.reader.kept c.take_replies.new.self.legs c.take_replies.new.front in
    record {
      was_up = c.if-not-self.false;
      taken = subst P fed.2.stands t.taken;
      counted = t.counted;
      unfinished = t.unfinished;
      same_out = t.same_out;
      same_state = t.same_state;
    }

pub returns-in_default : goal.returns-in_default
returns-in_default c =
    let fed = c.in-Ok.ensures.piece c.args.self.now.reader.kept refl in
    breaks_so c.args.now c.args.piece.now c.args.self.now c.args.front.now c.feed.new.self c.take_replies.result c.take_replies.new.self c.take_replies.new.front
    c.break_off-in_default.new.self c.break_off-in_default.new.front
    c.if-not-self.false fed.2.stands fed.2.is_closed fed.2.is_ended c.take_replies.ensures c.in_default.not-Whole c.break_off-in_default.ensures
