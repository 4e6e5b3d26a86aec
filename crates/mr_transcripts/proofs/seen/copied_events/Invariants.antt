use Rattle.std.proofs.Common.{◌≡◌, take}
use Rattle.mr_transcripts.proofs.seen.copied_events.Given as goal

-- the copied events are the first ones
abbrev pub invariant-loop-event : goal.invariant-loop-event
invariant-loop-event l = l.copied.items ≡ take l.event-index l.events
