-- What a run does with its words and its devices.
use Rattle.std.specs.Prelude.{◌≡◌, ℕ, ◌+◌, ◌≤◌, ◌⊎◌, List, Option, Some, None, Result, Ok, Err}
use Rattle.mr_text.specs.Sink.{SinkView}
use Rattle.mr_tool.specs.CanaryCommand.{CanaryGives}
use Rattle.mr_tool.specs.CheckCommand.{CheckGives}
use Rattle.mr_tool.specs.DrawCommand.{DrawGives}
use Rattle.mr_tool.specs.Devices.{Devices, IsToldAtOnce, Machine, NoneFailed, Tells}
use Rattle.mr_words.specs.Explain.{told_by}
use Rattle.mr_tool.specs.ExplainCommand.{ExplainGives}
use Rattle.mr_tool.specs.Fault.{fault_line, readings_line}
use Rattle.mr_tool.specs.Input.{most_reads, most_taken}
use Rattle.mr_tool.specs.PlanCommand.{PlanGives}
use Rattle.mr_tool.specs.RunCommand.{RunGives}
use Rattle.mr_tool.specs.ProxyCommand.{ProxyGives}
use Rattle.mr_tool.specs.Services.{NodeGives}
use Rattle.mr_tool.specs.TimelineCommand.{TimelineGives}
use Rattle.mr_tool.specs.UpgradeCommand.{UpgradeGives}
use Rattle.mr_tool.specs.VersionCommand.{VersionGives}
use Rattle.mr_tool.specs.WatchCommand.{WatchGives}
use Rattle.mr_words.specs.Words.{Say, SayBadReadings, SayNothing, SayVersion, path_in}
use Rattle.mr_tool.specs.declared.ended.Ended.{Ended}
use Rattle.mr_tool.specs.declared.ended.Ended.TheVariants.{Done, NotAccepted, Faulted}
use Rattle.mr_tool.specs.declared.fault.Fault.{Fault}
use Rattle.mr_tool.specs.declared.fault.Fault.TheVariants.{Memory}
use Rattle.mr_servers.specs.Servers.{ServersView}
use Rattle.mr_words.specs.declared.words.Wanted.{Wanted}
use Rattle.mr_words.specs.declared.words.Wanted.TheVariants.{Plan, Timeline, Run, Check, Draw, Upgrade, Node, Proxy, Watch, Canary, Explain}

-- the status of a run that did what was wanted
abbrev pub DONE : ℕ
DONE = 0

-- the status of a run that found a fault
abbrev pub FAULT : ℕ
FAULT = 1

-- the status for wrong words or a call for help
abbrev pub WRONG_WORDS : ℕ
WRONG_WORDS = 2

-- the status of a check that doesn't accept its transcript
abbrev pub NOT_ACCEPTED : ℕ
NOT_ACCEPTED = 3

-- the status of a run whose command met no fault
abbrev pub status_of : Ended → ℕ
status_of Done = DONE
status_of NotAccepted = NOT_ACCEPTED
status_of Faulted = FAULT

-- what each command does with the files, the input and the output, and with the services of the machine
abbrev pub Gives : Wanted → Devices → Devices → ServersView → ServersView → Result Ended Fault → Type 0
Gives (Plan values) before after idle busy result = PlanGives values before after result × (busy ≡ idle)
Gives (Timeline values) before after idle busy result = TimelineGives values before after result × (busy ≡ idle)
Gives (Run file) before after idle busy result = RunGives (path_in file) before after result × (busy ≡ idle)
Gives (Check file) before after idle busy result = CheckGives (path_in file) before after result × (busy ≡ idle)
Gives (Draw file) before after idle busy result = DrawGives (path_in file) before after result × (busy ≡ idle)
Gives (Upgrade file) before after idle busy result = UpgradeGives (path_in file) before after result × (busy ≡ idle)
Gives (Node values) before after idle busy result = NodeGives values before after idle busy result
Gives (Proxy values) before after idle busy result = ProxyGives values before after idle busy result
Gives (Watch values) before after idle busy result = WatchGives values idle.screen before after result × (busy ≡ idle)
Gives (Canary values) before after idle busy result = CanaryGives values idle.screen before after result × (busy ≡ idle)
Gives (Explain explanation) before after idle busy result = ExplainGives (told_by explanation) before after result × (busy ≡ idle)

-- how a run ends once its command did: the line of a fault is told, and nothing is done after
abbrev pub EndsWith : Result Ended Fault → ℕ → Devices → Devices → Type 0
EndsWith (Ok ended) status before after = (status ≡ status_of ended) × (after ≡ before)
EndsWith (Err fault) status before after = (status ≡ FAULT) × Tells (fault_line fault) before after

-- the words say a command, and it was run; it has nothing of the device for faults
pub record RunsCommand (words : List (List ℕ)) (before after : Devices) (idle busy : ServersView) (status : ℕ) : Type 0 where
  pub wanted : Wanted
  pub says : Say words wanted
  pub between : Devices
  pub result : Result Ended Fault
  pub gives : Gives wanted before between idle busy result
  pub silent : between.faults ≡ before.faults
  pub ends : EndsWith result status between after

-- what is told of wrong words, with this status: one text, or that memory was refused for it
abbrev pub TellsWrongWords : ℕ → SinkView → SinkView → Type 0
TellsWrongWords status old new =
    ((status ≡ WRONG_WORDS) × ((text : List ℕ) × IsToldAtOnce text old new))
    ⊎ ((status ≡ FAULT) × IsToldAtOnce (fault_line Memory) old new)

-- the words say no command, and one text is told of that
pub record RefusesWords (words : List (List ℕ)) (before after : Devices) (status : ℕ) : Type 0 where
  pub says_nothing : SayNothing words
  pub is_status : status ≡ WRONG_WORDS
  pub text : List ℕ
  pub tells : Tells text before after

-- the words say a timeline whose readings are no list of numbers, and that is told
pub record RefusesReadings (words : List (List ℕ)) (before after : Devices) (status : ℕ) : Type 0 where
  pub says : SayBadReadings words
  pub is_status : status ≡ WRONG_WORDS
  pub tells : Tells readings_line before after

-- the words call for the version, and it was written; the device for faults has nothing of it
pub record PrintsVersion (words : List (List ℕ)) (before after : Devices) (status : ℕ) : Type 0 where
  pub says : SayVersion words
  pub between : Devices
  pub result : Result Ended Fault
  pub gives : VersionGives before between result
  pub silent : between.faults ≡ before.faults
  pub ends : EndsWith result status between after

-- what is told where no command is run: of wrong words, that memory was refused while they were read, or the version
abbrev pub RunsNothing : List (List ℕ) → Devices → Devices → ℕ → Type 0
RunsNothing words before after status =
    RefusesWords words before after status ⊎ RefusesReadings words before after status ⊎ EndsWith (Err Memory) status before after
    ⊎ PrintsVersion words before after status

-- the run of these words: their command, or nothing, and then no service is asked for
abbrev pub Runs : List (List ℕ) → Devices → Devices → ServersView → ServersView → ℕ → Type 0
Runs words before after idle busy status =
    RunsCommand words before after idle busy status ⊎ (RunsNothing words before after status × (busy ≡ idle))

-- the most reads of a command that is given a file, or else the input
abbrev pub reads_without : Option (List ℕ) → ℕ
reads_without (Some path) = 0
reads_without None = most_taken

-- the most reads of the input that a command makes
abbrev pub most_reads_of : Wanted → ℕ
most_reads_of (Plan values) = most_reads
most_reads_of (Timeline values) = 0
most_reads_of (Run file) = reads_without (path_in file)
most_reads_of (Check file) = reads_without (path_in file)
most_reads_of (Draw file) = reads_without (path_in file)
most_reads_of (Upgrade file) = reads_without (path_in file)
most_reads_of (Node values) = 0
most_reads_of (Proxy values) = 0
most_reads_of (Watch values) = 0
most_reads_of (Canary values) = 0
most_reads_of (Explain explanation) = 0

-- the input is read no oftener than the command may that the words say
abbrev pub ReadsFew : List (List ℕ) → Devices → Devices → Type 0
ReadsFew words before after = (wanted : Wanted) → Say words wanted → after.input.reads ≤ before.input.reads + most_reads_of wanted

-- what was wanted was done, or a check was made that doesn't accept
abbrev pub IsDone : ℕ → Type 0
IsDone status = (status ≡ DONE) ⊎ (status ≡ NOT_ACCEPTED)

-- What a run of these words does, of which this is the status. Where it did what was wanted, no device failed and each service
-- began.
pub record IsRunOf (words : List (List ℕ)) (before after : Machine) (status : ℕ) : Type 0 where
  pub runs : Runs words before.devices after.devices before.servers after.servers status
  pub reads : ReadsFew words before.devices after.devices
  pub none_failed : IsDone status → NoneFailed before.devices after.devices
  pub all_began : IsDone status → after.servers.failures ≡ before.servers.failures
