-- What the command `check` does.
use Rattle.std.specs.Prelude.{◌≡◌, ℕ, List, Option, Result}
use Rattle.mr_transcripts.specs.Transcripts.{IsCheckOf, RefusesCheck}
use Rattle.mr_transcripts.specs.declared.check.Checked.{Checked}
use Rattle.mr_transcripts.specs.declared.check.Outcome.{Outcome}
use Rattle.mr_transcripts.specs.declared.check.Outcome.TheVariants.{Accepted}
use Rattle.mr_printing.specs.CheckText.{check_text}
use Rattle.mr_tool.specs.Devices.{Devices}
use Rattle.mr_tool.specs.GivenText.{PrintsOf}
use Rattle.mr_tool.specs.declared.ended.Ended.{Ended}
use Rattle.mr_tool.specs.declared.ended.Ended.TheVariants.{Done, NotAccepted}
use Rattle.mr_tool.specs.declared.fault.Fault.{Fault}

-- how a check ends by its outcome
abbrev pub end_of : Outcome → Ended
end_of Accepted = Done
end_of _ = NotAccepted

-- what a check prints of bytes, and how it ends: by what was found of the transcript that they are
pub record MakesCheck (bytes text : List ℕ) (ended : Ended) : Type 0 where
  pub checked : Checked
  pub checks : IsCheckOf bytes checked
  pub text_is : text ≡ check_text checked
  pub ended_is : ended ≡ end_of checked.outcome

-- What the command does: it prints what is found of the transcript in the file, or of the one on the input.
abbrev pub CheckGives : Option (List ℕ) → Devices → Devices → Result Ended Fault → Type 0
CheckGives file before after result = PrintsOf MakesCheck RefusesCheck file before after result
