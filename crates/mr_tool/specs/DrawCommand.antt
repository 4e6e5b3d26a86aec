-- What the command `draw` does.
use Rattle.std.specs.Prelude.{◌≡◌, ℕ, List, Option, Result}
use Rattle.mr_transcripts.specs.Seen.{IsSeenOf}
use Rattle.mr_transcripts.specs.Transcripts.{RefusesCheck}
use Rattle.mr_transcripts.specs.declared.seen.Seen.{Seen}
use Rattle.mr_printing.specs.Drawing.{drawing_text}
use Rattle.mr_tool.specs.Devices.{Devices}
use Rattle.mr_tool.specs.GivenText.{PrintsOf}
use Rattle.mr_tool.specs.declared.ended.Ended.{Ended}
use Rattle.mr_tool.specs.declared.ended.Ended.TheVariants.{Done}
use Rattle.mr_tool.specs.declared.fault.Fault.{Fault}

-- what is printed of bytes: the picture of what is seen of the transcript that they are; what was wanted is done then
pub record MakesDrawing (bytes text : List ℕ) (ended : Ended) : Type 0 where
  pub seen : Seen
  pub sees : IsSeenOf bytes seen
  pub text_is : text ≡ drawing_text seen
  pub ended_is : ended ≡ Done

-- What the command does: it prints the picture of the transcript in the file, or of the one on the input. What isn't a
-- transcript is refused as by a check.
abbrev pub DrawGives : Option (List ℕ) → Devices → Devices → Result Ended Fault → Type 0
DrawGives file before after result = PrintsOf MakesDrawing RefusesCheck file before after result
