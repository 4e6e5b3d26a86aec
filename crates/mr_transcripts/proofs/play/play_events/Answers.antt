use Rattle.std.proofs.Common.{rules, ◌≡◌, length, ◌∷◌, subst}
use Rattle.mr_transcripts.proofs.PlayLemmas.{IsUnderWay, play_ends, play_stops}
use Rattle.mr_transcripts.proofs.play.play_events.Goals as goal

pub returns-in-Err-step : goal.returns-in-Err-step
returns-in-Err-step c =
    let same : c.step.new.self ≡ c.loop-event.world = search rules in
    let under : IsUnderWay c.args.setup c.args.events.items c.loop-event.notes.items (c.in-Some.event ∷ c.next.new.self.rest.items) c.loop-event.world = subst (λ left. IsUnderWay c.args.setup c.args.events.items c.loop-event.notes.items left c.loop-event.world) c.in-Some.ensures.steps.0 c.loop-event.invariant in
    record {
      played = rw same (play_stops c.args.setup c.args.events.items c.loop-event.notes.items c.in-Some.event c.next.new.self.rest.items c.loop-event.world c.len-in-Err-step.result c.in-Err-step.refusal under (search rules) (search rules));
      refused = tt;
    }

pub returns-clause-played : goal.returns-clause-played
returns-clause-played c =
    let none : length c.loop-event.event-iterator.rest.items ≡ 0 = search rules in
    play_ends c.args.setup c.args.events.items c.loop-event.notes.items c.loop-event.event-iterator.rest.items c.loop-event.world none c.loop-event.invariant
