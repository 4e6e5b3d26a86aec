-- What the command `run` does.
use Rattle.std.specs.Prelude.{◌≡◌, ◌⊎◌, ℕ, List, ◌++◌, Option, Result, Ok, Err, codes}
use Rattle.serde_json.specs.View.{view}
use Rattle.mr_scripts.specs.Script.{ScriptView, ReadsScript}
use Rattle.mr_transcripts.specs.Transcript.{IsTranscript, RefusesTranscript}
use Rattle.mr_configs.specs.declared.error.PlanError.{PlanError}
use Rattle.mr_tool.specs.Devices.{Devices}
use Rattle.mr_tool.specs.GivenText.{PrintsOf}
use Rattle.mr_tool.specs.declared.ended.Ended.{Ended}
use Rattle.mr_tool.specs.declared.ended.Ended.TheVariants.{Done}
use Rattle.mr_tool.specs.declared.fault.Fault.{Fault}

-- the bytes are a script, and the text is its transcript with a line end
pub record IsPlayed (bytes text : List ℕ) : Type 0 where
  pub script : ScriptView
  pub transcript : List ℕ
  pub reads : ReadsScript bytes (Ok script)
  pub is_transcript : IsTranscript script.format (view script.json) script.setup script.events transcript
  pub text_is : text ≡ transcript ++ codes "\n"

-- what a run prints of bytes; what was wanted is done then
abbrev pub MakesTranscript : List ℕ → List ℕ → Ended → Type 0
MakesTranscript bytes text ended = IsPlayed bytes text × (ended ≡ Done)

-- why bytes have no transcript: they are no script, or their script has none
abbrev pub RefusesPlay : List ℕ → PlanError → Type 0
RefusesPlay bytes refusal =
    ReadsScript bytes (Err refusal)
    ⊎ ((script : ScriptView) × ReadsScript bytes (Ok script) × RefusesTranscript script.format (view script.json) script.setup script.events refusal)

-- What the command does: it prints the transcript of the script in the file, or of the one on the input.
abbrev pub RunGives : Option (List ℕ) → Devices → Devices → Result Ended Fault → Type 0
RunGives file before after result = PrintsOf MakesTranscript RefusesPlay file before after result
