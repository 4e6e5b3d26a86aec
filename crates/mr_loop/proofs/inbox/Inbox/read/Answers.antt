use Rattle.std.proofs.Common.{inl, inr, refl}
use Rattle.mr_loop.proofs.inbox.Inbox.read.Goals as goal

pub returns-then-self : goal.returns-then-self
returns-then-self c =
    let answer = rw c.in-Ok-None.field-0-is at c.in-Ok-None.ensures.answer in
    let n = answer c.args.self.now.reader.kept refl in
    inr (inr (inl (
      record {
        none_held = c.requires.held;
        goes_on = c.requires.goes_on;
        next = n;
        same_held = c.requires.held;
        same_wait = refl;
        same_end = refl;
        done = refl;
      },
      c.if-self.true,
    )))

pub returns-else-self : goal.returns-else-self
returns-else-self c =
    let answer = rw c.in-Ok-None.field-0-is at c.in-Ok-None.ensures.answer in
    let n = answer c.args.self.now.reader.kept refl in (
      record {
        none_held = c.requires.held;
        goes_on = c.requires.goes_on;
        next = n;
        same_held = c.requires.held;
        same_wait = refl;
        same_end = refl;
        done = c.requires.goes_on;
      },
      c.if-self.false,
    )
