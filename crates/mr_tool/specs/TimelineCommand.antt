-- What the command `timeline` does.
use Rattle.std.specs.Prelude.{◌≡◌, ◌⊎◌, Result, Ok, Err}
use Rattle.mr_text.specs.Sink.{IsOneWrite}
use Rattle.mr_text.specs.declared.error.WriteFault.{WriteFault}
use Rattle.mr_configs.specs.Config.{ConfigView}
use Rattle.mr_tool.specs.Input.{LoadsConfig}
use Rattle.mr_tool.specs.Devices.{Devices}
use Rattle.mr_tool.specs.PlanCommand.{LacksConfig}
use Rattle.mr_printing.specs.TimelineText.{timeline_text}
use Rattle.mr_words.specs.Words.{readings_in}
use Rattle.mr_tool.specs.declared.ended.Ended.{Ended}
use Rattle.mr_tool.specs.declared.ended.Ended.TheVariants.{Done}
use Rattle.mr_tool.specs.declared.fault.Fault.{Fault}
use Rattle.mr_tool.specs.declared.fault.Fault.TheVariants.{Memory, Output, File, Plan}
use Rattle.mr_words.specs.declared.words.TimelineValues.{TimelineValues}

-- the timeline was handed to the output in one call, which answered so
pub record WritesTimeline (timeline : TimelineValues) (before after : Devices) (answer : Result (Unit {0}) WriteFault) : Type 0 where
  pub config : ConfigView
  pub loaded : LoadsConfig timeline.config.now before.sources (Ok config) after.sources
  pub unread : after.input ≡ before.input
  pub writes : IsOneWrite (timeline_text config.schedule (readings_in timeline)) before.output answer after.output

-- memory was refused once the configuration was had
pub record LacksTimeline (timeline : TimelineValues) (before after : Devices) : Type 0 where
  pub config : ConfigView
  pub loaded : LoadsConfig timeline.config.now before.sources (Ok config) after.sources
  pub unread : after.input ≡ before.input
  pub unwritten : after.output ≡ before.output

-- What the command does. It writes the timeline, or finds the first of the faults in this order: the file, the
-- configuration, the output. The file is loaded once, nothing is read, and nothing is written but the timeline.
abbrev pub TimelineGives : TimelineValues → Devices → Devices → Result Ended Fault → Type 0
TimelineGives timeline before after (Ok Done) = WritesTimeline timeline before after (Ok tt)
TimelineGives timeline before after (Err Output) = (fault : WriteFault) × WritesTimeline timeline before after (Err fault)
TimelineGives timeline before after (Err (File line)) = LacksConfig timeline.config.now (File line) before after
TimelineGives timeline before after (Err (Plan refusal)) = LacksConfig timeline.config.now (Plan refusal) before after
TimelineGives timeline before after (Err Memory) = LacksConfig timeline.config.now Memory before after ⊎ LacksTimeline timeline before after
TimelineGives timeline before after _ = ⊥
