use Rattle.std.proofs.Common.{◌+◌, ◌∷◌, [], ◌++◌, Ok, drop}
use Rattle.mr_text.specs.steps.ReplySteps.{IsStepAhead}
use Rattle.mr_text.specs.declared.reading.replies.StepAhead.TheVariants as ahead
use Rattle.mr_text.proofs.Reached.{reached_item, reached_waits, reached_end, reached_refused}
use Rattle.mr_text.proofs.reading.replies.items_ahead.Goals as goal

pub items-preserved : goal.items-preserved
items-preserved c =
    let i = c.items.invariant in
    let step : IsStepAhead c.items.left (drop c.items.read c.args.bytes.now) (Ok (ahead.Item c.in-Ok-Item.size)) = (rw c.in-Ok-Item.field-0-is at c.in-Ok-Item.ensures) in
    record {
      reached = (
        i.reached.0 ++ step.0 ∷ [],
        reached_item c.args.room c.args.bytes.now i.reached.0 c.items.read c.items.left step.0 c.in-Ok-Item.size i.reached.1 step.3 step.1 step.2,
      );
      end = c.end_from-end.ensures.place;
      within = c.end_from-end.ensures.within;
    }

pub returns-in-Ok-End : goal.returns-in-Ok-End
returns-in-Ok-End c =
    let i = c.items.invariant in
    let step : IsStepAhead c.items.left (drop c.items.read c.args.bytes.now) (Ok ahead.End) = (rw c.in-Ok-End.field-0-is at c.in-Ok-End.ensures) in
    (i.reached.0, c.items.read + step.0, reached_end c.args.room c.args.bytes.now i.reached.0 c.items.read c.items.left step.0 i.reached.1 step.1)

pub returns-in-Ok-Waits : goal.returns-in-Ok-Waits
returns-in-Ok-Waits c =
    let i = c.items.invariant in
    reached_waits c.args.room c.args.bytes.now i.reached.0 c.items.read c.items.left i.reached.1 (rw c.in-Ok-Waits.field-0-is at c.in-Ok-Waits.ensures)

pub returns-in-Err : goal.returns-in-Err
returns-in-Err c =
    let i = c.items.invariant in
    reached_refused c.args.room c.args.bytes.now i.reached.0 c.items.read c.items.left c.in-Err.refusal 0 i.reached.1 c.in-Err.ensures
