-- That both forms of a plan say the same.
use Rattle.std.specs.Prelude.{◌≡◌, ◌↔◌, ℕ, List, Result, Ok}
use Rattle.std.specs.Borrow.{Bor}
use Rattle.mr_configs.specs.Config.{ConfigView}
use Rattle.mr_tool.specs.Devices.{Devices}
use Rattle.mr_tool.specs.Input.{LoadsConfig}
use Rattle.mr_tool.specs.PlanCommand.{PlansBy}
use Rattle.mr_tool.specs.PlannedConfig.{SaysConfig}
use Rattle.mr_tool.specs.Sources.{SourcesView}
use Rattle.mr_tool.specs.declared.ended.Ended.{Ended}
use Rattle.mr_tool.specs.declared.fault.Fault.{Fault}
use Rattle.mr_words.specs.declared.plan_words.MigrationWords.{MigrationWords}
use Rattle.mr_words.specs.declared.plan_words.PlanValues.{PlanValues}
use Rattle.mr_words.specs.declared.plan_words.Planned.{Planned}
use Rattle.mr_words.specs.declared.plan_words.Planned.TheVariants.{InFile, InWords}

-- a plan at this second
abbrev pub plan_at : Planned → ℕ → PlanValues
plan_at planned at = record { planned = planned; at = at }

-- these devices, and files of which this was asked
abbrev pub with_files : SourcesView → Devices → Devices
with_files files devices = record devices { sources = files }

-- the words say this configuration, and the file at this path, as it was loaded, holds it
pub record SayTheSame (path : Bor (List ℕ)) (words : MigrationWords) (config : ConfigView) (before loaded : SourcesView) : Type 0 where
  pub said : SaysConfig words (Ok config)
  pub held : LoadsConfig path.now before (Ok config) loaded

-- Words say one configuration. Where a file holds the same, whatever comes of the one form of a plan comes of the other: the same
-- is read, the same text is written, the same fault is found. But for the file, which only the one asks for.
pub record FormsAgree : Type 0 where
  pub one : (words : MigrationWords) (config other : ConfigView) → SaysConfig words (Ok config) → SaysConfig words (Ok other)
      → config ≡ other
  pub same : (path : Bor (List ℕ)) (words : MigrationWords) (config : ConfigView) (at : ℕ) (before after : Devices)
      (loaded : SourcesView) (result : Result Ended Fault) → SayTheSame path words config before.sources loaded
      → PlansBy (plan_at (InFile path) at) config before (with_files loaded after) result
      ↔ PlansBy (plan_at (InWords words) at) config before (with_files before.sources after) result
