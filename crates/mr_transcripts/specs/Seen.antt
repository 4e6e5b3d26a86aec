-- What is seen of a transcript: what a check reads and finds, with the play itself.
use Rattle.std.specs.Prelude.{◌≡◌, ℕ, ◌≤◌, List, [], ◌∷◌, length, map, Option, Result, Ok, false, ⊤, string_bytes, codes}
use Rattle.std.specs.Result.{result_unwrap_or}
use Rattle.serde_json.specs.Data.{Data}
use Rattle.serde_json.specs.Written.{compact_text, has_float}
use Rattle.mr_configs.specs.Checking.{◌>>=◌}
use Rattle.mr_configs.specs.Config.{IsJson}
use Rattle.mr_configs.specs.Fields.{field, list_of}
use Rattle.mr_configs.specs.declared.error.PlanError.{PlanError}
use Rattle.mr_shown.specs.declared.format.Format.{Format}
use Rattle.mr_scripts.specs.Limits.{most_bytes}
use Rattle.mr_scripts.specs.Script.{ScriptParts}
use Rattle.mr_world.specs.Setup.{SetupView}
use Rattle.mr_world.specs.declared.event.Event.{Event}
use Rattle.mr_transcripts.specs.Check.{IsFoundOf}
use Rattle.mr_transcripts.specs.Play.{IsPlay}
use Rattle.mr_transcripts.specs.Transcripts.{played_parts}
use Rattle.mr_transcripts.specs.declared.play.Stop.{Stop}
use Rattle.mr_transcripts.specs.declared.seen.Seen.{Seen}

-- each text is the compact text of its value, where that has no number that isn't whole
abbrev pub AreTexts : List Data → List (List ℕ) → Type 0
AreTexts [] [] = ⊤
AreTexts [] (text ∷ texts) = ⊥
AreTexts (value ∷ values) [] = ⊥
AreTexts (value ∷ values) (text ∷ texts) = (has_float value ≡ false → text ≡ compact_text value) × AreTexts values texts

-- the values of a transcript's events
abbrev pub events_in : Data → Result (List Data) PlanError
events_in transcript = field (codes "events") transcript >>= λ events. list_of events

-- the texts are those of the transcript's events
abbrev pub HasTexts : Data → List (List ℕ) → Type 0
HasTexts transcript texts = AreTexts (result_unwrap_or (events_in transcript) []) texts

-- What is seen of a transcript that says this: it was played, the texts are those of its events, and a check finds this of it.
pub record IsSeen (format : Format) (transcript : Data) (setup : SetupView) (events : List Event) (seen : Seen) : Type 0 where
  pub stop : Option Stop
  pub setup_is : seen.setup ≡ setup
  pub events_are : seen.events.items ≡ events
  pub texts : HasTexts transcript (map string_bytes seen.texts.items)
  pub play : IsPlay setup events seen.notes.items seen.world stop
  pub found : IsFoundOf format transcript stop seen.notes.items seen.world seen.checked

-- the bytes are a transcript, and this is what is seen of it
pub record IsSeenOf (bytes : List ℕ) (seen : Seen) : Type 0 where
  pub value : Data
  pub parts : ScriptParts
  pub fits : length bytes ≤ most_bytes
  pub is_json : IsJson bytes value
  pub played : played_parts value ≡ Ok parts
  pub sees : IsSeen parts.format value parts.setup parts.events seen
