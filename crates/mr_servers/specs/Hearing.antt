-- What a log says of what is heard of loops, and of a clock that is looked at.
use Rattle.std.specs.Prelude.{ℕ, ◌==◌, Bool, not, true, Option, Some, None}
use Rattle.mr_driver.specs.declared.hearing.LinkTrouble.{LinkTrouble}
use Rattle.mr_driver.specs.declared.hearing.LinkTrouble.TheVariants as heard
use Rattle.mr_driver.specs.declared.hearing.LoopEvent.{LoopEvent}
use Rattle.mr_driver.specs.declared.hearing.LoopEvent.TheVariants as event
use Rattle.mr_log.specs.declared.happening.Happening.{Happening}
use Rattle.mr_log.specs.declared.happening.Happening.TheVariants as said
use Rattle.mr_log.specs.declared.happening.Trouble.{Trouble}
use Rattle.mr_log.specs.declared.happening.Trouble.TheVariants as trouble

-- why a link went down
abbrev pub trouble_of : LinkTrouble → Trouble
trouble_of heard.Ended = trouble.Ended
trouble_of heard.Broken = trouble.Broken
trouble_of heard.Silent = trouble.Silent
trouble_of heard.BadReply = trouble.BadReply
trouble_of heard.NotReached = trouble.NotReached

-- what is said of an event, where so many clients are served at a time; a clock that went back is said by who looks at it
abbrev pub happening_of : LoopEvent → ℕ → Option Happening
happening_of (event.LinkUp node) most = Some (said.LinkUp node)
happening_of (event.LinkDown node why) most = Some (said.LinkDown node (trouble_of why))
happening_of event.ClientsHeldBack most = Some said.ClientsHeldBack
happening_of event.ClientsWait most = Some (said.ClientsWait most)
happening_of event.NoMemory most = Some said.NoMemory
happening_of event.NoDescriptors most = Some said.NoDescriptors
happening_of event.NoClock most = Some said.NoClock
happening_of event.ClockWentBack most = None

-- whether it is worth a line, of a clock that went back so many times before a look, and so many by now: that it is behind is only where
-- it went back since
abbrev pub is_news : ℕ → ℕ → Happening → Bool
is_news steps steps_by_now (said.ClockWentBack from to) = not (steps_by_now == steps)
is_news steps steps_by_now _ = true
