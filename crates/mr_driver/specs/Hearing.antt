-- What is worth a line of a log.
use Rattle.std.specs.Prelude.{ℕ, ◌||◌, nat_eq, if◌then◌else◌, Option, Some, None}
use Rattle.mr_text.specs.declared.error.TextError.{TextError}
use Rattle.mr_loop.specs.declared.link.LinkEnd.{LinkEnd}
use Rattle.mr_driver.specs.declared.hearing.LinkTrouble.{LinkTrouble}
use Rattle.mr_driver.specs.declared.hearing.LoopEvent.{LoopEvent}

-- want of memory breaks the link; anything else that is refused is no reply
abbrev pub trouble_of_refusal : TextError → LinkTrouble
trouble_of_refusal TextError.LineTooLong = LinkTrouble.BadReply
trouble_of_refusal TextError.BadKey = LinkTrouble.BadReply
trouble_of_refusal TextError.BadNumber = LinkTrouble.BadReply
trouble_of_refusal TextError.WrongWords = LinkTrouble.BadReply
trouble_of_refusal TextError.DataTooLong = LinkTrouble.BadReply
trouble_of_refusal TextError.BadDataEnd = LinkTrouble.BadReply
trouble_of_refusal (TextError.UnknownCommand closes) = LinkTrouble.BadReply
trouble_of_refusal TextError.Truncated = LinkTrouble.BadReply
trouble_of_refusal TextError.Closed = LinkTrouble.BadReply
trouble_of_refusal TextError.OutOfMemory = LinkTrouble.Broken

-- what ails a link that took bytes
abbrev pub trouble_of : LinkEnd → Option LinkTrouble
trouble_of LinkEnd.Whole = None
trouble_of LinkEnd.Surplus = Some LinkTrouble.BadReply
trouble_of LinkEnd.Mismatch = Some LinkTrouble.BadReply
trouble_of LinkEnd.Complaint = Some LinkTrouble.BadReply
trouble_of (LinkEnd.Refused refusal) = Some (trouble_of_refusal refusal)
trouble_of LinkEnd.Down = Some LinkTrouble.Broken

-- what the system's numbers say: 23 and 24 that no descriptor is left, 12 and 105 that memory is refused
abbrev pub want_of : ℕ → Option LoopEvent
want_of number =
    if nat_eq number 23 || nat_eq number 24 then Some LoopEvent.NoDescriptors
    else if nat_eq number 12 || nat_eq number 105 then Some LoopEvent.NoMemory
    else None
