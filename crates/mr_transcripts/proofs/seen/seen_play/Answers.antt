use Rattle.std.proofs.Common.{rules, ◌≡◌, List, refl, subst}
use Rattle.mr_world.specs.declared.event.Event.{Event}
use Rattle.mr_transcripts.specs.Play.{IsPlay}
use Rattle.mr_transcripts.proofs.seen.seen_play.Goals as goal

pub returns-clause-seen : goal.returns-clause-seen
returns-clause-seen c =
    let play = c.in_ok-play.play in
    let same : c.in_ok-copied.copied.items ≡ c.args.events.items = search rules in
    record {
      stop = play.stop;
      setup_is = search rules;
      events_are = refl;
      texts = c.in_ok-texts.ensures;
      play = subst (λ (es : List Event). IsPlay c.args.setup es play.notes.items play.world play.stop) same c.in_ok-play.ensures.played;
      found = c.in_ok-checked.ensures;
    }
