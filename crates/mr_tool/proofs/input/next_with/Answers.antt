use Rattle.std.proofs.Common.{◌++◌}
use Rattle.mr_tool.proofs.FaultLemmas.{faulted}
use Rattle.mr_tool.proofs.RequestLemmas.{feed_refusal, next_refusal, next_found}
use Rattle.mr_tool.specs.Input.{IsNextOf}
use Rattle.mr_tool.specs.declared.fault.Fault.TheVariants.{Text}
use Rattle.mr_tool.proofs.input.next_with.Goals as goal

pub returns : goal.returns
returns c = λ fed is.
    let has = (c.in_ok-feed.ensures.piece fed is.stands).2 in
    next_found c.feed.new.self c.next.new.self _ _ has.is_ended (c.in_ok-next.ensures.answer _ has.stands)

pub returns-in_err-next : goal.returns-in_err-next
returns-in_err-next c = λ fed is.
    let has = (c.in_ok-feed.ensures.piece fed is.stands).2 in
    faulted (IsNextOf c.next.new.self _) c.from_residual-in_err-next.result (Text c.in_err-next.field-0.0) c.from_residual-in_err-next.ensures.1
    (next_refusal c.feed.new.self c.next.new.self _ c.in_err-next.field-0.0 has.is_closed has.is_ended (c.in_err-next.ensures.answer _ has.stands))

pub returns-in_err-feed : goal.returns-in_err-feed
returns-in_err-feed c = λ fed is.
    faulted (IsNextOf c.feed.new.self (fed ++ c.args.piece.now)) c.from_residual.result (Text c.in_err-feed.field-0.0) c.from_residual.ensures.1
    (feed_refusal c.args.reader.now c.feed.new.self fed c.args.piece.now c.in_err-feed.field-0.0 is.is_closed is.is_ended (c.in_err-feed.ensures.piece fed is.stands))
