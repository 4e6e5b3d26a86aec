-- The transcript that a JSON value is, as a check reads it: a script's three keys, and what came of its play.
use Rattle.std.specs.Prelude.{◌≡◌, ℕ, ◌<◌, ◌≤◌, ◌⊎◌, List, [], ◌∷◌, length, Result, Ok, Err, codes}
use Rattle.serde_json.specs.Data.{Data}
use Rattle.mr_transcripts.specs.Check.{IsChecked, IsVouchedFor}
use Rattle.mr_configs.specs.Checking.{◌>>=◌}
use Rattle.mr_configs.specs.Config.{IsJson, IsNoJson}
use Rattle.mr_configs.specs.Fields.{Text, object_check, field}
use Rattle.mr_scripts.specs.Limits.{most_bytes}
use Rattle.mr_scripts.specs.Script.{ScriptParts, script_in}
use Rattle.mr_transcripts.specs.declared.check.Checked.{Checked}
use Rattle.mr_transcripts.specs.declared.check.Outcome.TheVariants.{Accepted}
use Rattle.mr_configs.specs.declared.error.PlanError.{PlanError}
use Rattle.mr_configs.specs.declared.error.PlanError.TheVariants.{TooLarge, OutOfMemory}

-- the keys of a transcript
abbrev pub transcript_keys : List Text
transcript_keys =
    codes "events" ∷ codes "format" ∷ codes "history" ∷ codes "notes" ∷ codes "premises" ∷ codes "setup" ∷ codes "verdict" ∷ []

-- what came of the play is told, whatever it is
abbrev pub outcome_check : Data → Result (Unit {0}) PlanError
outcome_check value =
    field (codes "history") value >>= λ _.
    field (codes "notes") value >>= λ _.
    field (codes "premises") value >>= λ _.
    field (codes "verdict") value >>= λ _.
    Ok tt

-- what a transcript says was played, or the first of the refusals
abbrev pub played_parts : Data → Result ScriptParts PlanError
played_parts value = object_check transcript_keys value >>= λ _. outcome_check value >>= λ _. script_in value

-- why the value is no transcript: its first refusal, or want of memory where it has none
abbrev pub RefusesPlayed : Data → PlanError → Type 0
RefusesPlayed value refusal = (played_parts value ≡ Err refusal) ⊎ ((refusal ≡ OutOfMemory) × ((parts : ScriptParts) × (played_parts value ≡ Ok parts)))

-- The bytes are a transcript, and this is what comes of holding it against a play of its own events. What is accepted is
-- vouched for.
pub record IsCheckOf (bytes : List ℕ) (checked : Checked) : Type 0 where
  pub value : Data
  pub parts : ScriptParts
  pub fits : length bytes ≤ most_bytes
  pub is_json : IsJson bytes value
  pub played : played_parts value ≡ Ok parts
  pub checks : IsChecked parts.format value parts.setup parts.events checked
  pub vouched : checked.outcome ≡ Accepted → IsVouchedFor parts.format value parts.setup parts.events

-- why there is no check: there are too many bytes, or they have no value, or their value is no transcript
abbrev pub RefusesCheck : List ℕ → PlanError → Type 0
RefusesCheck bytes refusal =
    ((refusal ≡ TooLarge) × (most_bytes < length bytes)) ⊎
    ((length bytes ≤ most_bytes) × (IsNoJson bytes refusal ⊎ ((value : Data) × IsJson bytes value × RefusesPlayed value refusal)))
