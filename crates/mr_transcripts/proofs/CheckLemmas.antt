-- An accepted transcript vouches for its play.
use Rattle.std.proofs.Common.{rules, ◌≡◌, ℕ, Bool, true, false, List, [], ◌∷◌, length, take, Some, None, refl, sym, ap, ◌∙◌, ◌↔◌, subst, if◌then◌else◌}
use Rattle.std.specs.Prelude.{codes, Option}
use Rattle.serde_json.specs.Data.{Data, array}
use Rattle.mr_shown.specs.declared.format.Format.{Format}
use Rattle.mr_history.specs.declared.entry.Entry.{Entry}
use Rattle.mr_history.specs.History.{IsSafe}
use Rattle.mr_world.specs.Headline.{AllHold, PremisesHold}
use Rattle.mr_world.specs.Premises.{premises_of}
use Rattle.mr_world.specs.Setup.{SetupView, Begins}
use Rattle.mr_world.specs.Steps.{WorldRun}
use Rattle.mr_world.specs.WorldView.{WorldView}
use Rattle.mr_world.specs.declared.event.Event.{Event}
use Rattle.mr_world.specs.declared.note.Note.{Note}
use Rattle.mr_world.specs.declared.premises.Premises.{Premises}
use Rattle.mr_transcripts.proofs.PlayLemmas.{plays_run}
use Rattle.mr_transcripts.specs.Check.{tells, all_hold, is_safe, outcome_of, IsChecked, IsVouchedFor}
use Rattle.mr_transcripts.specs.Play.{PlaysTo, IsPlay}
use Rattle.mr_shown.specs.Shown.{entries_json, notes_json, premises_json, verdict_json}
use Rattle.mr_shown.specs.Verdict.{JudgesSo}
use Rattle.mr_transcripts.specs.declared.check.Checked.{Checked}
use Rattle.mr_transcripts.specs.declared.check.Outcome.{Outcome}
use Rattle.mr_transcripts.specs.declared.check.Outcome.TheVariants.{EventRefused, NotesDiffer, HistoryDiffers, PremisesDiffer, VerdictDiffers, PremiseFalse, NotSafe, Accepted}
use Rattle.mr_transcripts.specs.declared.play.Stop.{Stop}
use Rattle.mr_shown.specs.declared.verdict.KeptVerdict.{KeptVerdict}
use Rattle.mr_shown.specs.declared.verdict.KeptVerdict.TheVariants.{Safe, Stale, Invented}

-- the first test that fails decides, and none of the others is Accepted
record Passes (a b c d e f : Bool) : Type 0 where
  notes : a ≡ true
  history : b ≡ true
  premises : c ≡ true
  verdict : d ≡ true
  hold : e ≡ true
  safe : f ≡ true

abbrev decided : (a b c d e f : Bool) → Outcome
decided a b c d e f = if a then (if b then (if c then (if d then (if e then (if f then Accepted else NotSafe) else PremiseFalse) else VerdictDiffers) else PremisesDiffer) else HistoryDiffers) else NotesDiffer

abbrev accepts : Outcome → Bool
accepts (EventRefused index) = false
accepts NotesDiffer = false
accepts HistoryDiffers = false
accepts PremisesDiffer = false
accepts VerdictDiffers = false
accepts PremiseFalse = false
accepts NotSafe = false
accepts Accepted = true

unlike : false ≡ true → ⊥
unlike e = search (rules, e)

passes : (a b c d e f : Bool) → decided a b c d e f ≡ Accepted → Passes a b c d e f
passes true true true true true true is = record { notes = refl; history = refl; premises = refl; verdict = refl; hold = refl; safe = refl }
passes true true true true true false is = absurd (unlike (ap accepts is))
passes true true true true false f is = absurd (unlike (ap accepts is))
passes true true true false e f is = absurd (unlike (ap accepts is))
passes true true false d e f is = absurd (unlike (ap accepts is))
passes true false c d e f is = absurd (unlike (ap accepts is))
passes false b c d e f is = absurd (unlike (ap accepts is))

hold_all : (p : Premises) → all_hold p ≡ true → AllHold p
hold_all p e = search (rules, e)

safe_judged : (history : List Entry) (verdict : KeptVerdict) → JudgesSo history verdict → is_safe verdict ≡ true → IsSafe history
safe_judged history Safe judged e = judged
safe_judged history (Stale get key delete) judged e = absurd (unlike e)
safe_judged history (Invented get key) judged e = absurd (unlike e)

take_all_of : (events : List Event) → take (length events) events ≡ events
take_all_of [] = refl
take_all_of (event ∷ events) = ap (event ∷◌) (take_all_of events)

take_whole : (events : List Event) (n : ℕ) → n ≡ length events → take n events ≡ events
take_whole events n e = rw e (take_all_of events)

-- the flags of the last world are the premises of setup and events
abbrev FlagsDecide : Type 0
FlagsDecide =
    (setup : SetupView) (first last : WorldView) (events : List Event) → Begins setup first → WorldRun first events last
    → AllHold (premises_of last) ↔ PremisesHold setup events

vouched : FlagsDecide → (format : Format) (transcript : Data) (setup : SetupView) (events : List Event) (notes : List Note) (world : WorldView) (stop : Option Stop)
    (premises : Premises) (verdict : KeptVerdict) → IsPlay setup events notes world stop → premises ≡ premises_of world → JudgesSo world.history verdict
    → outcome_of format transcript stop notes world.history premises verdict ≡ Accepted → IsVouchedFor format transcript setup events
vouched law format transcript setup events notes world (Some stop) premises verdict play same judged is = absurd (unlike (ap accepts is))
vouched law format transcript setup events notes world None premises verdict play same judged is =
    let all = passes
    (tells transcript (codes "notes") (array (notes_json notes)))
    (tells transcript (codes "history") (array (entries_json format world.history)))
    (tells transcript (codes "premises") (premises_json premises))
    (tells transcript (codes "verdict") (verdict_json verdict))
    (all_hold premises)
    (is_safe verdict)
    is in
    let whole = take_whole events (length notes) play.stops in
    let hold : AllHold (premises_of world) = subst AllHold same (hold_all premises all.hold) in
    let plays : PlaysTo play.start events notes world = subst (λ es. PlaysTo play.start es notes world) whole play.plays in
    let run = plays_run play.start world events notes plays in
    let decide = law setup play.start world events play.begins run in
    record {
      notes = notes;
      start = play.start;
      end = world;
      begins = play.begins;
      run = run;
      plays = plays;
      notes_told = all.notes;
      history_told = all.history;
      premises = decide.0 hold;
      premises_told = hold;
      safe = safe_judged world.history verdict judged all.safe;
    }

pub accepted_vouches : FlagsDecide → (format : Format) (transcript : Data) (setup : SetupView) (events : List Event) (checked : Checked) → IsChecked format transcript setup events checked
    → checked.outcome ≡ Accepted → IsVouchedFor format transcript setup events
accepted_vouches law format transcript setup events checked c is =
    vouched law format transcript setup events c.notes c.world c.stop checked.premises checked.verdict c.play c.premises c.judges (sym c.outcome ∙ is)
