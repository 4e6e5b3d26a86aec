use Rattle.std.proofs.Common.{◌≡◌, ◌∙◌, ap, sym, subst, ℕ, List, length, nat_eq}
use Rattle.std.proofs.lemmas.List.{length-map}
use Rattle.mr_flights.proofs.FlightLemmas.{same_verdict}
use Rattle.mr_flights.specs.Flight.{verdict_of}
use Rattle.mr_flights.specs.Log.{LogView}
use Rattle.mr_flights.specs.Scene.{scene_of}
use Rattle.mr_flights.specs.Showing.{ending}
use Rattle.mr_sightings.specs.declared.table.Row.{Row}
use Rattle.mr_sightings.specs.declared.tally.Tally.{Tally}
use Rattle.mr_sightings.specs.declared.verdict.Verdict.{Verdict}
use Rattle.mr_text.specs.Sink.{HasWritten}
use Rattle.mr_flights.proofs.flight.write_ending.Goals as goal

pub returns : goal.returns
returns g c =
    let log : LogView = c.args.log.now in
    let manner = c.args.manner in
    let verdict : Verdict = verdict_of (scene_of c.args.scene.now) c.args.canary.now log in
    let total = ap (λ (l : LogView). l.total) c.log.view_is in
    let rows = ap (λ (l : LogView). l.rows) c.log.view_is in
    let made : Verdict = record {
      came_back = c.came_back-came_back.result;
      requests = c.log.inside.total.requests;
      proxies = length c.args.scene.now.proxies.now;
      acknowledged = c.log.inside.total.acknowledged;
      left = c.left.result;
    } in
    let is : made ≡ verdict = same_verdict _ _ _ _ _ verdict.came_back verdict.requests verdict.proxies verdict.acknowledged verdict.left c.came_back-came_back.ensures.count
    (ap (λ (t : Tally). t.requests) total) (sym (length-map _ _)) (ap (λ (t : Tally). t.acknowledged) total) c.left.ensures in
    let text : c.as_slice.result.now ≡ ending manner log.rows verdict =
    c.as_slice.ensures.value ∙ (c.in_ok-text.ensures ∙ (ap (λ (r : List Row). ending manner r made) rows ∙ ap (ending manner log.rows) is)) in (
      subst (λ (t : List ℕ). HasWritten t (g.O.Sink.told c.args.output.now) (g.O.Sink.told c.write_at_once.new.writer)) text
          c.in_ok-write_at_once.ensures.text.0,
      record {
        counted = ap (λ (n : ℕ). nat_eq n 0) c.came_back-came_back.ensures.count;
        judged = rw (← c.came_back-came_back.ensures.count) c.came_back-came_back.ensures.none;
      },
    )
