use Rattle.mr_transcripts.proofs.PlayLemmas.{IsUnderWay}
use Rattle.mr_transcripts.proofs.play.play_events.Given as goal

abbrev pub invariant-loop-event : goal.invariant-loop-event
invariant-loop-event l = IsUnderWay l.fn.setup l.fn.events.items l.notes.items l.event-iterator.rest.items l.world
