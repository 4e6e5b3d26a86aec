use Rattle.std.proofs.Common.{◌≡◌, ◌∙◌, ap, refl, subst, ℕ, List}
use Rattle.mr_flights.specs.Log.{LogView}
use Rattle.mr_flights.specs.declared.showing.Sight.{Sight}
use Rattle.mr_probes.specs.CanaryView.{CanaryView}
use Rattle.mr_sightings.specs.declared.second.Second.{Second}
use Rattle.mr_text.specs.Sink.{HasWritten}
use Rattle.mr_flights.proofs.seeing.write_second.Goals as goal

pub returns : goal.returns
returns g c =
    let second : Second = record {
      at = c.args.at;
      hop = c.hop.result;
      phase = c.name.result;
      tally = c.take_second-tally.result;
      came_back = c.saturating_sub.result;
    } in
    let sight : Sight = record { second = second; found = c.as_slice-2.result } in
    let before = c.in_ok-found.ensures.1 in
    let left = c.take_second-tally.ensures.anew in
    let counted : c.came_back.result ≡ c.args.canary.now.notebook.came_back =
    c.came_back.ensures.count ∙ (ap (λ (v : CanaryView). v.notebook.came_back) left ∙ ap (λ (v : CanaryView). v.notebook.came_back) before) in
    let keys = ap (λ (v : CanaryView). v.notebook.keys) left ∙ ap (λ (v : CanaryView). v.notebook.keys) before in
    let logged = ap (λ (l : LogView). l.came_back) c.log.view_is in
    record {
      sight = sight;
      at_is = refl;
      is_sight = record {
        hop = c.hop.ensures.hop ∙ rw (c.judge-judged.ensures.judgement.schedule, c.judge-judged.ensures.judgement.reading) refl;
        phase = c.name.ensures.by_reading ∙ rw (c.judge-judged.ensures.judgement.schedule, c.judge-judged.ensures.judgement.reading) refl;
        tally = c.take_second-tally.ensures.second ∙ ap (λ (v : CanaryView). v.notebook.second) before;
        came_back = c.saturating_sub.ensures ∙ rw (counted, logged) refl;
        found = rw (← keys, ← c.in_ok-found.ensures.0, ← c.as_slice.ensures.value, c.as_slice-2.ensures.value) c.in_ok-told.ensures;
        convicted = c.in_ok-found.ensures.2;
      };
      kept = c.in_ok-add.ensures.ok;
      anew = left ∙ ap (λ (v : CanaryView). record v { notebook = record v.notebook { second = _ } }) before;
      writes = subst (λ (t : List ℕ). HasWritten t (g.O.Sink.told c.args.output.now) (g.O.Sink.told c.write_at_once.new.writer))
          (c.as_slice-3.ensures.value ∙ c.in_ok-text.ensures) c.in_ok-write_at_once.ensures.text.0;
    }
