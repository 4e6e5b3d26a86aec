-- What a command does that makes a text of the bytes that it is given.
use Rattle.std.specs.Prelude.{◌≡◌, ◌⊎◌, ℕ, List, Option, Result, Ok, Err}
use Rattle.mr_text.specs.Sink.{IsOneWrite}
use Rattle.mr_text.specs.declared.error.WriteFault.{WriteFault}
use Rattle.mr_configs.specs.declared.error.PlanError.{PlanError}
use Rattle.mr_tool.specs.Devices.{Devices}
use Rattle.mr_tool.specs.Input.{IsGiven, IsNotGiven}
use Rattle.mr_tool.specs.declared.ended.Ended.{Ended}
use Rattle.mr_tool.specs.declared.fault.Fault.{Fault}
use Rattle.mr_tool.specs.declared.fault.Fault.TheVariants.{Memory, Input, Output, File, Net, Plan, Pools, Phases, Node, Text}

-- what texts may be made of bytes, and how the command ends then
abbrev pub Makes : Type 1
Makes = List ℕ → List ℕ → Ended → Type 0

-- why bytes may be refused
abbrev pub RefusalOfBytes : Type 1
RefusalOfBytes = List ℕ → PlanError → Type 0

-- why no text is made of bytes: they are refused, or memory is refused for a text of theirs
abbrev pub IsTextFault : Makes → RefusalOfBytes → List ℕ → Fault → Type 0
IsTextFault makes refuses bytes (Plan refusal) = refuses bytes refusal
IsTextFault makes refuses bytes Memory = (text : List ℕ) × (ended : Ended) × makes bytes text ended
IsTextFault makes refuses bytes fault = ⊥

-- the text of the bytes that were given was handed to the output in one call, which answered so
pub record WritesText (makes : Makes) (file : Option (List ℕ)) (ended : Ended) (before after : Devices) (answer : Result (Unit {0}) WriteFault) : Type 0 where
  pub bytes : List ℕ
  pub text : List ℕ
  pub given : IsGiven file bytes before after
  pub made : makes bytes text ended
  pub writes : IsOneWrite text before.output answer after.output

-- the bytes that were given were refused, and nothing was written
pub record RefusesGiven (refuses : RefusalOfBytes) (file : Option (List ℕ)) (refusal : PlanError) (before after : Devices) : Type 0 where
  pub bytes : List ℕ
  pub given : IsGiven file bytes before after
  pub refused : refuses bytes refusal
  pub unwritten : after.output ≡ before.output

-- no bytes were given, for this fault, and nothing was written
pub record LacksGiven (file : Option (List ℕ)) (fault : Fault) (before after : Devices) : Type 0 where
  pub lacks : IsNotGiven file fault before after
  pub unwritten : after.output ≡ before.output

-- memory was refused for the text of the bytes that were given, and nothing was written
pub record LacksText (makes : Makes) (file : Option (List ℕ)) (before after : Devices) : Type 0 where
  pub bytes : List ℕ
  pub text : List ℕ
  pub ended : Ended
  pub given : IsGiven file bytes before after
  pub due : makes bytes text ended
  pub unwritten : after.output ≡ before.output

-- What such a command does. It writes the text, or finds the first of the faults in this order: the file or the input, the
-- bytes, the output. The file is loaded once, the input is read where no file is named, and nothing is written but the text.
abbrev pub PrintsOf : Makes → RefusalOfBytes → Option (List ℕ) → Devices → Devices → Result Ended Fault → Type 0
PrintsOf makes refuses file before after (Ok ended) = WritesText makes file ended before after (Ok tt)
PrintsOf makes refuses file before after (Err Output) = (ended : Ended) × (fault : WriteFault) × WritesText makes file ended before after (Err fault)
PrintsOf makes refuses file before after (Err (Plan refusal)) = RefusesGiven refuses file refusal before after
PrintsOf makes refuses file before after (Err (File line)) = LacksGiven file (File line) before after
PrintsOf makes refuses file before after (Err Input) = LacksGiven file Input before after
PrintsOf makes refuses file before after (Err Memory) = LacksGiven file Memory before after ⊎ LacksText makes file before after
PrintsOf makes refuses file before after (Err (Text refusal)) = ⊥
PrintsOf makes refuses file before after (Err (Net line)) = ⊥
PrintsOf makes refuses file before after (Err (Pools refusal)) = ⊥
PrintsOf makes refuses file before after (Err (Phases refusal)) = ⊥
PrintsOf makes refuses file before after (Err (Node refusal)) = ⊥
