-- What the command `plan` does.
use Rattle.std.specs.Prelude.{◌≡◌, ◌⊎◌, List, ℕ, Result, Ok, Err}
use Rattle.mr_text.specs.Sink.{IsOneWrite}
use Rattle.mr_text.specs.declared.error.WriteFault.{WriteFault}
use Rattle.mr_text.specs.declared.request.Request.{Request}
use Rattle.mr_configs.specs.Config.{ConfigView}
use Rattle.mr_tool.specs.Input.{LoadsConfig, ReadsRequest}
use Rattle.mr_tool.specs.Devices.{Devices}
use Rattle.mr_tool.specs.PlannedConfig.{PlansConfig}
use Rattle.mr_printing.specs.PlanText.{plan_shown}
use Rattle.mr_tool.specs.declared.ended.Ended.{Ended}
use Rattle.mr_tool.specs.declared.ended.Ended.TheVariants.{Done}
use Rattle.mr_tool.specs.declared.fault.Fault.{Fault}
use Rattle.mr_tool.specs.declared.fault.Fault.TheVariants.{Memory, Input, Output, Text}
use Rattle.mr_words.specs.declared.plan_words.PlanValues.{PlanValues}

-- there is no configuration, for this fault, and nothing but its file was asked for
pub record LacksConfig (path : List ℕ) (fault : Fault) (before after : Devices) : Type 0 where
  pub lacks : LoadsConfig path before.sources (Err fault) after.sources
  pub unread : after.input ≡ before.input
  pub unwritten : after.output ≡ before.output

-- the first request was refused, or couldn't be read, and nothing was written
pub record RefusesPlan (fault : Fault) (before after : Devices) : Type 0 where
  pub read : ReadsRequest before.input after.input (Err fault)
  pub unwritten : after.output ≡ before.output

-- the plan of the first request, by this configuration and at this second, was handed to the output in one call, which answered so
pub record WritesPlan (config : ConfigView) (at : ℕ) (before after : Devices) (answer : Result (Unit {0}) WriteFault) : Type 0 where
  pub request : Request
  pub read : ReadsRequest before.input after.input (Ok request)
  pub writes : IsOneWrite (plan_shown config at request) before.output answer after.output

-- memory was refused once the first request was read, and nothing was written
pub record LacksPlan (before after : Devices) : Type 0 where
  pub request : Request
  pub read : ReadsRequest before.input after.input (Ok request)
  pub unwritten : after.output ≡ before.output

-- What comes of a plan once its configuration is had, whichever form of words it came by: the plan of the first request is
-- written, or the first of the faults is found in this order: the request, the output.
abbrev pub GivesPlan : ConfigView → ℕ → Devices → Devices → Result Ended Fault → Type 0
GivesPlan config at before after (Ok Done) = WritesPlan config at before after (Ok tt)
GivesPlan config at before after (Err Output) = (fault : WriteFault) × WritesPlan config at before after (Err fault)
GivesPlan config at before after (Err Input) = RefusesPlan Input before after
GivesPlan config at before after (Err (Text refusal)) = RefusesPlan (Text refusal) before after
GivesPlan config at before after (Err Memory) = LacksPlan before after
GivesPlan config at before after _ = ⊥

-- the configuration of a plan was had, and this came of the plan
pub record PlansBy (values : PlanValues) (config : ConfigView) (before after : Devices) (result : Result Ended Fault) : Type 0 where
  pub had : PlansConfig values.planned before.sources (Ok config) after.sources
  pub gives : GivesPlan config values.at before after result

-- there is no configuration, for this fault, and nothing is read or written
pub record LacksPlanned (values : PlanValues) (fault : Fault) (before after : Devices) : Type 0 where
  pub lacks : PlansConfig values.planned before.sources (Err fault) after.sources
  pub unread : after.input ≡ before.input
  pub unwritten : after.output ≡ before.output

-- What the command does. It writes the plan of the first request, or finds the first of the faults in this order: those of the
-- configuration (the file and what it holds, or what the words say), the request, the output. A file is loaded once, nothing is
-- read before its configuration is found good, and nothing is written but the plan.
abbrev pub PlanGives : PlanValues → Devices → Devices → Result Ended Fault → Type 0
PlanGives values before after (Ok ended) = (config : ConfigView) × PlansBy values config before after (Ok ended)
PlanGives values before after (Err fault) =
    LacksPlanned values fault before after ⊎ ((config : ConfigView) × PlansBy values config before after (Err fault))
