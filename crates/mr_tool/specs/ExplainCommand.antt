-- What the command `explain` does.
use Rattle.std.specs.Prelude.{◌≡◌, Result, Ok, Err}
use Rattle.mr_text.specs.Sink.{IsOneWrite}
use Rattle.mr_text.specs.declared.error.WriteFault.{WriteFault}
use Rattle.mr_tool.specs.Devices.{Devices}
use Rattle.mr_printing.specs.ExplainText.{explanation_text}
use Rattle.mr_words.specs.Explain.{Told}
use Rattle.mr_tool.specs.declared.ended.Ended.{Ended}
use Rattle.mr_tool.specs.declared.ended.Ended.TheVariants.{Done, NotAccepted, Faulted}
use Rattle.mr_tool.specs.declared.fault.Fault.{Fault}
use Rattle.mr_tool.specs.declared.fault.Fault.TheVariants.{Memory, Output}

-- what is told was handed to the output in one call, which answered so, and nothing was loaded or read
pub record WritesExplanation (told : Told) (before after : Devices) (answer : Result (Unit {0}) WriteFault) : Type 0 where
  pub unasked : after.sources ≡ before.sources
  pub unread : after.input ≡ before.input
  pub writes : IsOneWrite (explanation_text told) before.output answer after.output

-- memory was refused, and nothing was loaded, read or written
pub record LacksExplanation (before after : Devices) : Type 0 where
  pub unasked : after.sources ≡ before.sources
  pub unread : after.input ≡ before.input
  pub unwritten : after.output ≡ before.output

-- What the command does. It writes what is told, unless memory is refused or the output fails.
abbrev pub ExplainGives : Told → Devices → Devices → Result Ended Fault → Type 0
ExplainGives told before after (Ok Done) = WritesExplanation told before after (Ok tt)
ExplainGives told before after (Ok NotAccepted) = ⊥
ExplainGives told before after (Ok Faulted) = ⊥
ExplainGives told before after (Err Output) = (fault : WriteFault) × WritesExplanation told before after (Err fault)
ExplainGives told before after (Err Memory) = LacksExplanation before after
ExplainGives told before after (Err fault) = ⊥
