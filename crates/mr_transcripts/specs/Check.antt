-- What a check of a transcript finds.
use Rattle.std.specs.Prelude.{◌≡◌, List, Bool, true, false, ◌&&◌, if◌then◌else◌, Option, Some, None, option_map, unwrap_or, codes}
use Rattle.serde_json.specs.Data.{Data, array}
use Rattle.serde_json.specs.Find.{get}
use Rattle.mr_shown.specs.declared.format.Format.{Format}
use Rattle.mr_history.specs.declared.entry.Entry.{Entry}
use Rattle.mr_history.specs.History.{IsSafe}
use Rattle.mr_world.specs.Headline.{AllHold, PremisesHold}
use Rattle.mr_world.specs.Premises.{premises_of}
use Rattle.mr_world.specs.Setup.{SetupView, Begins}
use Rattle.mr_world.specs.Steps.{WorldRun}
use Rattle.mr_world.specs.WorldView.{WorldView}
use Rattle.mr_world.specs.declared.event.Event.{Event}
use Rattle.mr_world.specs.declared.note.Note.{Note}
use Rattle.mr_world.specs.declared.premises.Premises.{Premises}
use Rattle.mr_configs.specs.Fields.{Text}
use Rattle.mr_transcripts.specs.Play.{PlaysTo, IsPlay}
use Rattle.mr_shown.specs.Shown.{entries_json, notes_json, premises_json, verdict_json}
use Rattle.mr_scripts.specs.Values.{is_same}
use Rattle.mr_shown.specs.Verdict.{JudgesSo}
use Rattle.mr_transcripts.specs.declared.check.Checked.{Checked}
use Rattle.mr_transcripts.specs.declared.check.Outcome.{Outcome}
use Rattle.mr_transcripts.specs.declared.check.Outcome.TheVariants.{EventRefused, NotesDiffer, HistoryDiffers, PremisesDiffer, VerdictDiffers, PremiseFalse, NotSafe, Accepted}
use Rattle.mr_transcripts.specs.declared.play.Stop.{Stop}
use Rattle.mr_shown.specs.declared.verdict.KeptVerdict.{KeptVerdict}
use Rattle.mr_shown.specs.declared.verdict.KeptVerdict.TheVariants.{Safe, Stale, Invented}

-- the transcript has this value under the key
abbrev pub tells : Data → Text → Data → Bool
tells transcript key value = unwrap_or (option_map (λ found. is_same value found) (get key transcript)) false

-- all four premises hold
abbrev pub all_hold : Premises → Bool
all_hold premises = premises.same && (premises.new_empty && (premises.forward && premises.near))

-- the judge found each hit fresh
abbrev pub is_safe : KeptVerdict → Bool
is_safe Safe = true
is_safe (Stale get key delete) = false
is_safe (Invented get key) = false

-- what is found where the transcript tells the play's own
abbrev pub outcome_when_told : Premises → KeptVerdict → Outcome
outcome_when_told premises verdict = if all_hold premises then (if is_safe verdict then Accepted else NotSafe) else PremiseFalse

-- the first that holds: the transcript is held against a play of all its events, which is shown in its format
abbrev pub outcome_of_play : Format → Data → List Note → List Entry → Premises → KeptVerdict → Outcome
outcome_of_play format transcript notes history premises verdict =
    if tells transcript (codes "notes") (array (notes_json notes)) then (
    if tells transcript (codes "history") (array (entries_json format history)) then (
    if tells transcript (codes "premises") (premises_json premises) then (
    if tells transcript (codes "verdict") (verdict_json verdict) then outcome_when_told premises verdict
    else VerdictDiffers)
    else PremisesDiffer)
    else HistoryDiffers)
    else NotesDiffer

-- an event that is refused comes before all else
abbrev pub outcome_of : Format → Data → Option Stop → List Note → List Entry → Premises → KeptVerdict → Outcome
outcome_of format transcript (Some stop) notes history premises verdict = EventRefused stop.index
outcome_of format transcript None notes history premises verdict = outcome_of_play format transcript notes history premises verdict

-- what is found of a transcript by a play with these notes, which came to this world
pub record IsFoundOf (format : Format) (transcript : Data) (stop : Option Stop) (notes : List Note) (world : WorldView) (checked : Checked) : Type 0 where
  pub premises : checked.premises ≡ premises_of world
  pub judges : JudgesSo world.history checked.verdict
  pub outcome : checked.outcome ≡ outcome_of format transcript stop notes world.history checked.premises checked.verdict

-- the transcript's events were played on its setup; premises and verdict are those of the play
pub record IsChecked (format : Format) (transcript : Data) (setup : SetupView) (events : List Event) (checked : Checked) : Type 0 where
  pub notes : List Note
  pub world : WorldView
  pub stop : Option Stop
  pub play : IsPlay setup events notes world stop
  pub premises : checked.premises ≡ premises_of world
  pub judges : JudgesSo world.history checked.verdict
  pub outcome : checked.outcome ≡ outcome_of format transcript stop notes world.history checked.premises checked.verdict

-- What an accepted transcript vouches for: all its events were accepted one after the other on the fleet of its setup, its
-- notes and its history are those of that run, all four premises hold of its setup and its events, as the fleet in the end
-- tells too, and each hit of it is good.
pub record IsVouchedFor (format : Format) (transcript : Data) (setup : SetupView) (events : List Event) : Type 0 where
  pub notes : List Note
  pub start : WorldView
  pub end : WorldView
  pub begins : Begins setup start
  pub run : WorldRun start events end
  pub plays : PlaysTo start events notes end
  pub notes_told : tells transcript (codes "notes") (array (notes_json notes)) ≡ true
  pub history_told : tells transcript (codes "history") (array (entries_json format end.history)) ≡ true
  pub premises : PremisesHold setup events
  pub premises_told : AllHold (premises_of end)
  pub safe : IsSafe end.history
