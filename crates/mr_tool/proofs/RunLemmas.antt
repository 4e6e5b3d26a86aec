-- What each step of a run says of the whole.
use Rattle.std.proofs.Common.{◌≡◌, ◌∙◌, ℕ, Bool, List, Option, Some, None, Result, Ok, Err, refl, ap, subst, sym, inl, inr, ◌⊎◌}
use Rattle.mr_text.specs.Sink.{SinkView, IsOneWrite}
use Rattle.mr_text.specs.Source.{SourceView}
use Rattle.mr_text.specs.declared.error.WriteFault.{WriteFault}
use Rattle.mr_configs.specs.Config.{ConfigView}
use Rattle.mr_tool.specs.declared.ended.Ended.{Ended}
use Rattle.mr_tool.specs.declared.ended.Ended.TheVariants.{Done, NotAccepted, Faulted}
use Rattle.mr_tool.specs.declared.fault.Fault.{Fault}
use Rattle.mr_tool.specs.declared.fault.Fault.TheVariants.{Memory}
use Rattle.mr_tool.specs.Input.{IsGiven, LoadsConfig}
use Rattle.mr_tool.specs.GivenText.{Makes, WritesText}
use Rattle.mr_words.specs.declared.service_words.NodeValues.{NodeValues}
use Rattle.mr_words.specs.declared.service_words.ProxyValues.{ProxyValues}
use Rattle.mr_words.specs.declared.canary_words.CanaryValues.{CanaryValues}
use Rattle.mr_words.specs.declared.watch_words.WatchValues.{WatchValues}
use Rattle.mr_words.specs.declared.plan_words.PlanValues.{PlanValues}
use Rattle.mr_words.specs.declared.plan_words.Planned.{Planned}
use Rattle.mr_words.specs.declared.plan_words.Planned.TheVariants.{InFile, InWords}
use Rattle.mr_words.specs.declared.words.TimelineValues.{TimelineValues}
use Rattle.mr_words.specs.declared.words.Wanted.{Wanted}
use Rattle.mr_words.specs.declared.words.Wanted.TheVariants as wanted
use Rattle.mr_tool.specs.Devices.{Devices, devices, IsToldAtOnce, Tells, NoneFailed}
use Rattle.mr_words.specs.Explain.{Told, told_by}
use Rattle.mr_tool.specs.ExplainCommand.{WritesExplanation}
use Rattle.mr_tool.specs.PlanCommand.{PlansBy}
use Rattle.mr_tool.specs.PlannedConfig.{PlansConfig}
use Rattle.mr_tool.specs.TimelineCommand.{WritesTimeline}
use Rattle.mr_tool.specs.Run.{Gives, EndsWith, RunsCommand, RunsNothing, Runs, TellsWrongWords}
use Rattle.mr_tool.specs.ProxyCommand.{ProxyGives}
use Rattle.mr_tool.specs.Services.{EndsService, NodeGives}
use Rattle.mr_servers.specs.Servers.{Asked, IsOneService, Places, ServersView}
use Rattle.mr_servers.specs.declared.screen.Screen.{Screen}
use Rattle.mr_servers.specs.declared.fault.OpenFault.{OpenFault}
use Rattle.mr_tool.specs.Fault.{fault_line, fault_of_printing, readings_line}
use Rattle.mr_tool.specs.Sources.{SourcesView}
use Rattle.mr_tool.specs.VersionCommand.{VersionGives}
use Rattle.mr_flights.specs.Flight.{FliesConfig}
use Rattle.mr_flights.specs.declared.fault.FlightFault.{FlightFault}
use Rattle.mr_looks.specs.Watch.{Fleet, WatchesConfig}
use Rattle.mr_looks.specs.declared.manner.Manner.{Manner}
use Rattle.mr_words.specs.declared.printing.PrintFault.{PrintFault}
use Rattle.mr_tool.specs.CanaryCommand.{Flies, IsGivenBy}
use Rattle.mr_tool.specs.WatchCommand.{Watches, given_by}
use Rattle.mr_words.specs.Words.{Say, SayBadReadings, SayNothing, SayVersion, path_in, proxies_in}

-- a command that did what was wanted met no failure
config_steady : (path : List ℕ) (before after : SourcesView) (config : ConfigView) → LoadsConfig path before (Ok config) after
    → after.failures ≡ before.failures
config_steady path before after config h = h.1.gives.3

planned_steady : (planned : Planned) (before after : SourcesView) (config : ConfigView) → PlansConfig planned before (Ok config) after
    → after.failures ≡ before.failures
planned_steady (InFile path) before after config h = config_steady path.now before after config h
planned_steady (InWords words) before after config h = ap (λ (s : SourcesView). s.failures) h.1

plan_steady : (values : PlanValues) (config : ConfigView) (before between : Devices) → PlansBy values config before between (Ok Done)
    → between.faults ≡ before.faults → NoneFailed before between
plan_steady values config before between h silent = record {
  sources = planned_steady values.planned before.sources between.sources config h.had;
  input = h.gives.read.steady;
  output = h.gives.writes.0.steady;
  faults = ap (λ (s : SinkView). s.failures) silent;
}

timeline_steady : (timeline : TimelineValues) (before between : Devices) → WritesTimeline timeline before between (Ok tt) → between.faults ≡ before.faults
    → NoneFailed before between
timeline_steady timeline before between h silent = record {
  sources = config_steady timeline.config.now before.sources between.sources h.config h.loaded;
  input = ap (λ (s : SourceView). s.failures) h.unread;
  output = h.writes.0.steady;
  faults = ap (λ (s : SinkView). s.failures) silent;
}

explanation_steady : (told : Told) (before between : Devices) → WritesExplanation told before between (Ok tt) → between.faults ≡ before.faults
    → NoneFailed before between
explanation_steady told before between h silent = record {
  sources = ap (λ (s : SourcesView). s.failures) h.unasked;
  input = ap (λ (s : SourceView). s.failures) h.unread;
  output = h.writes.0.steady;
  faults = ap (λ (s : SinkView). s.failures) silent;
}

-- bytes that were given were given without a failure
record IsSteady (before after : Devices) : Type 0 where
  pub sources : after.sources.failures ≡ before.sources.failures
  pub input : after.input.failures ≡ before.input.failures

given_steady : (file : Option (List ℕ)) (bytes : List ℕ) (before after : Devices) → IsGiven file bytes before after → IsSteady before after
given_steady (Some path) bytes before after given = record { sources = given.0.gives.3; input = ap (λ (s : SourceView). s.failures) given.1 }
given_steady None bytes before after (inl all, unasked) = record { sources = ap (λ (s : SourcesView). s.failures) unasked; input = all.steady }
given_steady None bytes before after (inr most, unasked) = record { sources = ap (λ (s : SourcesView). s.failures) unasked; input = most.steady }

text_steady : (makes : Makes) (file : Option (List ℕ)) (ended : Ended) (before between : Devices) → WritesText makes file ended before between (Ok tt)
    → between.faults ≡ before.faults → NoneFailed before between
text_steady makes file ended before between h silent =
    let steady = given_steady file h.bytes before between h.given in
    record { sources = steady.sources; input = steady.input; output = h.writes.0.steady; faults = ap (λ (s : SinkView). s.failures) silent }

-- a service that came to its end had no failure
ended_service : (asked : Asked) (places : Places) (clients : ℕ) (ended : Ended) (served : Result ℕ OpenFault) (old new : SinkView) (idle busy : ServersView)
    → IsOneService asked idle served busy → EndsService places clients served old new (Ok ended) → (busy.failures ≡ idle.failures) × (new.failures ≡ old.failures)
ended_service asked places clients ended (Ok count) old new idle busy serves ends = (serves.counted, ends.0.0.steady)
ended_service asked places clients ended (Err fault) old new idle busy serves ends = absurd ends

-- no device failed, and no service
abbrev AllSteady : Devices → Devices → ServersView → ServersView → Type 0
AllSteady before between idle busy = NoneFailed before between × (busy.failures ≡ idle.failures)

idle_steady : (before between : Devices) (idle busy : ServersView) → NoneFailed before between → busy ≡ idle → AllSteady before between idle busy
idle_steady before between idle busy steady same = (steady, ap (λ (s : ServersView). s.failures) same)

node_steady : (values : NodeValues) (ended : Ended) (before between : Devices) (idle busy : ServersView) → NodeGives values before between idle busy (Ok ended)
    → between.faults ≡ before.faults → AllSteady before between idle busy
node_steady values ended before between idle busy h silent =
    let steady = ended_service _ _ _ ended h.served before.output between.output h.between busy h.serves h.ends in (
      record {
        sources = ap (λ (s : SourcesView). s.failures) h.unasked;
        input = ap (λ (s : SourceView). s.failures) h.unread;
        output = steady.1;
        faults = ap (λ (s : SinkView). s.failures) silent;
      },
      steady.0 ∙ ap (λ (s : ServersView). s.failures) h.has.drew,
    )

proxy_steady : (values : ProxyValues) (ended : Ended) (before between : Devices) (idle busy : ServersView) → ProxyGives values before between idle busy (Ok ended)
    → between.faults ≡ before.faults → AllSteady before between idle busy
proxy_steady values ended before between idle busy h silent =
    let steady = ended_service _ _ _ ended h.served before.output between.output idle busy h.serves h.ends in (
      record {
        sources = config_steady values.config.now before.sources between.sources h.config h.has.loaded;
        input = ap (λ (s : SourceView). s.failures) h.has.unread;
        output = steady.1;
        faults = ap (λ (s : SinkView). s.failures) silent;
      },
      steady.0,
    )

-- so did a watch that was written to its end
came_steady : (manner : Manner) (once : Bool) (fleet : Fleet) (old new : SinkView) (came : Result Bool PrintFault) (ended : Ended)
    → Ok ended ≡ given_by came → WatchesConfig manner once fleet old came new → new.failures ≡ old.failures
came_steady manner once fleet old new (Ok sound) ended given watches = watches.writes.steady
came_steady manner once fleet old new (Err failed) ended given watches = let never : Ok ended ≡ Err (fault_of_printing failed) = given in cc

watch_steady : (values : WatchValues) (screen : Screen) (ended : Ended) (before between : Devices) → Watches values screen before between (Ok ended)
    → between.faults ≡ before.faults → NoneFailed before between
watch_steady values screen ended before between h silent = record {
  sources = h.loads.0.gives.3;
  input = ap (λ (s : SourceView). s.failures) h.unread;
  output = came_steady _ _ _ _ _ h.came ended h.given h.watches;
  faults = ap (λ (s : SinkView). s.failures) silent;
}

-- and a canary that was
flown_steady : (values : CanaryValues) (screen : Screen) (config : ConfigView) (proxies : List (List ℕ)) (old new : SinkView) (came : Result Bool FlightFault)
    (ended : Ended) → IsGivenBy proxies came (Ok ended) → FliesConfig values screen config old came new → new.failures ≡ old.failures
flown_steady values screen config proxies old new (Ok sound) ended given flies = flies.flies.writes.steady ∙ flies.flies.cleaned.writes.steady
flown_steady values screen config proxies old new (Err stopped) ended given flies = absurd given

canary_steady : (values : CanaryValues) (screen : Screen) (ended : Ended) (before between : Devices) → Flies values screen before between (Ok ended)
    → between.faults ≡ before.faults → NoneFailed before between
canary_steady values screen ended before between h silent = record {
  sources = h.loads.0.gives.3;
  input = ap (λ (s : SourceView). s.failures) h.unread;
  output = flown_steady values screen h.loaded.config (proxies_in values) before.output between.output h.came ended h.given h.flies;
  faults = ap (λ (s : SinkView). s.failures) silent;
}

command_steady : (wanted : Wanted) (ended : Ended) (before between : Devices) (idle busy : ServersView) → Gives wanted before between idle busy (Ok ended)
    → between.faults ≡ before.faults → AllSteady before between idle busy
command_steady (wanted.Plan values) Done before between idle busy h silent = idle_steady _ _ _ _ (plan_steady values h.0.0 before between h.0.1 silent) h.1
command_steady (wanted.Plan values) NotAccepted before between idle busy h silent = absurd h.0.1.gives
command_steady (wanted.Plan values) Faulted before between idle busy h silent = absurd h.0.1.gives
command_steady (wanted.Timeline values) Done before between idle busy h silent = idle_steady _ _ _ _ (timeline_steady values before between h.0 silent) h.1
command_steady (wanted.Timeline values) NotAccepted before between idle busy h silent = absurd h.0
command_steady (wanted.Timeline values) Faulted before between idle busy h silent = absurd h.0
command_steady (wanted.Run file) ended before between idle busy h silent =
    idle_steady _ _ _ _ (text_steady _ (path_in file) ended before between h.0 silent) h.1
command_steady (wanted.Check file) ended before between idle busy h silent =
    idle_steady _ _ _ _ (text_steady _ (path_in file) ended before between h.0 silent) h.1
command_steady (wanted.Draw file) ended before between idle busy h silent =
    idle_steady _ _ _ _ (text_steady _ (path_in file) ended before between h.0 silent) h.1
command_steady (wanted.Upgrade file) ended before between idle busy h silent =
    idle_steady _ _ _ _ (text_steady _ (path_in file) ended before between h.0 silent) h.1
command_steady (wanted.Node values) ended before between idle busy h silent = node_steady values ended before between idle busy h silent
command_steady (wanted.Proxy values) ended before between idle busy h silent = proxy_steady values ended before between idle busy h silent
command_steady (wanted.Watch values) ended before between idle busy h silent = idle_steady _ _ _ _ (watch_steady values idle.screen ended before between h.0 silent) h.1
command_steady (wanted.Canary values) ended before between idle busy h silent = idle_steady _ _ _ _ (canary_steady values idle.screen ended before between h.0 silent) h.1
command_steady (wanted.Explain explanation) Done before between idle busy h silent =
    idle_steady _ _ _ _ (explanation_steady (told_by explanation) before between h.0 silent) h.1
command_steady (wanted.Explain explanation) NotAccepted before between idle busy h silent = absurd h.0
command_steady (wanted.Explain explanation) Faulted before between idle busy h silent = absurd h.0

no_fault : (status : ℕ) → status ≡ 1 → (status ≡ 0) ⊎ (status ≡ 3) → ⊥
no_fault status fault (inl done) = cc
no_fault status fault (inr not_accepted) = cc

not_wrong : (status : ℕ) → status ≡ 2 → (status ≡ 0) ⊎ (status ≡ 3) → ⊥
not_wrong status wrong (inl done) = cc
not_wrong status wrong (inr not_accepted) = cc

ended_steady : (wanted : Wanted) (before between after : Devices) (idle busy : ServersView) (result : Result Ended Fault) (status : ℕ)
    → Gives wanted before between idle busy result → between.faults ≡ before.faults → EndsWith result status between after → (status ≡ 0) ⊎ (status ≡ 3)
    → AllSteady before after idle busy
ended_steady wanted before between after idle busy (Ok ended) status gives silent ends done =
    subst (λ (d : Devices). AllSteady before d idle busy) (sym ends.1) (command_steady wanted ended before between idle busy gives silent)
ended_steady wanted before between after idle busy (Err fault) status gives silent ends done = absurd (no_fault status ends.0 done)

version_steady : (before between : Devices) (ended : Ended) → VersionGives before between (Ok ended) → between.faults ≡ before.faults → NoneFailed before between
version_steady before between Done h silent = record {
  sources = ap (λ (s : SourcesView). s.failures) h.unasked;
  input = ap (λ (s : SourceView). s.failures) h.unread;
  output = h.writes.0.steady;
  faults = ap (λ (s : SinkView). s.failures) silent;
}
version_steady before between NotAccepted h silent = absurd h
version_steady before between Faulted h silent = absurd h

told_steady : (before between after : Devices) (result : Result Ended Fault) (status : ℕ) → VersionGives before between result → between.faults ≡ before.faults
    → EndsWith result status between after → (status ≡ 0) ⊎ (status ≡ 3) → NoneFailed before after
told_steady before between after (Ok ended) status gives silent ends done =
    subst (λ (d : Devices). NoneFailed before d) (sym ends.1) (version_steady before between ended gives silent)
told_steady before between after (Err fault) status gives silent ends done = absurd (no_fault status ends.0 done)

pub done_steady : (words : List (List ℕ)) (before after : Devices) (idle busy : ServersView) (status : ℕ) → Runs words before after idle busy status
    → (status ≡ 0) ⊎ (status ≡ 3) → NoneFailed before after × (busy.failures ≡ idle.failures)
done_steady words before after idle busy status (inl runs) done =
    ended_steady runs.wanted before runs.between after idle busy runs.result status runs.gives runs.silent runs.ends done
done_steady words before after idle busy status (inr (inl refuses, same)) done = absurd (not_wrong status refuses.is_status done)
done_steady words before after idle busy status (inr (inr (inl refuses), same)) done = absurd (not_wrong status refuses.is_status done)
done_steady words before after idle busy status (inr (inr (inr (inl memory)), same)) done = absurd (no_fault status memory.0 done)
done_steady words before after idle busy status (inr (inr (inr (inr tells)), same)) done =
    idle_steady before after idle busy (told_steady before tells.between after tells.result status tells.gives tells.silent tells.ends done) same

-- one call tells the text that it hands over
pub told_by_call : (text bytes : List ℕ) (old new : SinkView) (answer : Result (Unit {0}) WriteFault) → bytes ≡ text → IsOneWrite bytes old answer new
    → IsToldAtOnce text old new
told_by_call text bytes old new answer same call = (answer, subst (λ (b : List ℕ). IsOneWrite b old answer new) same call)

-- the other devices stay
pub tells_alone : (text : List ℕ) (sources : SourcesView) (input : SourceView) (output old new : SinkView) → IsToldAtOnce text old new
    → Tells text (devices sources input output old) (devices sources input output new)
tells_alone text sources input output old new told = record { told = told; unasked = refl; unread = refl; unwritten = refl }

-- the run of a command that words say
pub command_run : (words : List (List ℕ)) (wanted : Wanted) (before between after : Devices) (idle busy : ServersView) (result : Result Ended Fault) (status : ℕ)
    → Say words wanted → Gives wanted before between idle busy result → between.faults ≡ before.faults → EndsWith result status between after
    → RunsCommand words before after idle busy status
command_run words wanted before between after idle busy result status says gives silent ends = record {
  wanted = wanted;
  says = says;
  between = between;
  result = result;
  gives = gives;
  silent = silent;
  ends = ends;
}

-- what is told of words that say no command
pub refused_words_told : (words : List (List ℕ)) (sources : SourcesView) (input : SourceView) (output old new : SinkView) (status : ℕ)
    → SayNothing words → TellsWrongWords status old new
    → RunsNothing words (devices sources input output old) (devices sources input output new) status
refused_words_told words sources input output old new status says (inl wrong) =
    inl (record { says_nothing = says; is_status = wrong.0; text = wrong.1.0; tells = tells_alone wrong.1.0 sources input output old new wrong.1.1 })
refused_words_told words sources input output old new status says (inr memory) =
    inr (inr (inl (memory.0, tells_alone (fault_line Memory) sources input output old new memory.1)))

-- what is told of words whose readings are no list of numbers
pub refused_readings_told : (words : List (List ℕ)) (sources : SourcesView) (input : SourceView) (output old new : SinkView) (status : ℕ)
    → SayBadReadings words → status ≡ 2 → IsToldAtOnce readings_line old new
    → RunsNothing words (devices sources input output old) (devices sources input output new) status
refused_readings_told words sources input output old new status says is told =
    inr (inl (record { says = says; is_status = is; tells = tells_alone readings_line sources input output old new told }))

-- what is told of words that memory was refused for
pub memory_told : (words : List (List ℕ)) (sources : SourcesView) (input : SourceView) (output old new : SinkView) (status : ℕ) → status ≡ 1
    → IsToldAtOnce (fault_line Memory) old new → RunsNothing words (devices sources input output old) (devices sources input output new) status
memory_told words sources input output old new status is told =
    inr (inr (inl (is, tells_alone (fault_line Memory) sources input output old new told)))

-- what is told of words that call for the version
pub version_told : (words : List (List ℕ)) (before between after : Devices) (result : Result Ended Fault) (status : ℕ) → SayVersion words
    → VersionGives before between result → between.faults ≡ before.faults → EndsWith result status between after → RunsNothing words before after status
version_told words before between after result status says gives silent ends =
    inr (inr (inr (record { says = says; between = between; result = result; gives = gives; silent = silent; ends = ends })))
