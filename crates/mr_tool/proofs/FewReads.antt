-- How often a run reads its input.
use Rattle.std.proofs.Common.{arith, ◌≡◌, ◌≤◌, ◌+◌, ℕ, List, Option, Some, None, Result, Ok, Err, refl, ap, inl, inr}
use Rattle.mr_text.specs.Source.{SourceView}
use Rattle.mr_tool.proofs.RequestLemmas.{few_reads}
use Rattle.mr_words.proofs.WordLemmas.{no_version_said, one_said}
use Rattle.mr_tool.specs.Devices.{Devices}
use Rattle.mr_words.specs.Explain.{Told, told_by}
use Rattle.mr_tool.specs.ExplainCommand.{ExplainGives}
use Rattle.mr_tool.specs.Input.{most_reads, IsGiven, IsNotGiven, FailsWhole, TakesWhole, most_taken}
use Rattle.mr_tool.specs.GivenText.{Makes, PrintsOf, RefusalOfBytes}
use Rattle.mr_configs.specs.Config.{ConfigView}
use Rattle.mr_tool.specs.PlanCommand.{GivesPlan, PlanGives}
use Rattle.mr_tool.specs.TimelineCommand.{TimelineGives}
use Rattle.mr_tool.specs.Run.{EndsWith, Gives, ReadsFew, Runs, RunsCommand, most_reads_of, reads_without}
use Rattle.mr_words.specs.Words.{AgreesWith, path_in}
use Rattle.mr_tool.specs.declared.ended.Ended.{Ended}
use Rattle.mr_tool.specs.declared.ended.Ended.TheVariants.{Done, NotAccepted, Faulted}
use Rattle.mr_tool.specs.declared.fault.Fault.{Fault}
use Rattle.mr_tool.specs.declared.fault.Fault.TheVariants.{Memory, Input, Output, File, Net, Plan, Pools, Phases, Node, Text}
use Rattle.mr_tool.specs.ProxyCommand.{ProxyGives}
use Rattle.mr_tool.specs.Services.{NodeGives}
use Rattle.mr_tool.specs.CanaryCommand.{CanaryGives}
use Rattle.mr_tool.specs.WatchCommand.{WatchGives}
use Rattle.mr_servers.specs.Servers.{ServersView}
use Rattle.mr_servers.specs.declared.screen.Screen.{Screen}
use Rattle.mr_words.specs.declared.service_words.NodeValues.{NodeValues}
use Rattle.mr_words.specs.declared.service_words.ProxyValues.{ProxyValues}
use Rattle.mr_words.specs.declared.canary_words.CanaryValues.{CanaryValues}
use Rattle.mr_words.specs.declared.watch_words.WatchValues.{WatchValues}
use Rattle.mr_words.specs.declared.plan_words.PlanValues.{PlanValues}
use Rattle.mr_words.specs.declared.words.TimelineValues.{TimelineValues}
use Rattle.mr_words.specs.declared.words.Wanted.{Wanted}
use Rattle.mr_words.specs.declared.words.Wanted.TheVariants as wanted

unread : (before after : SourceView) (most : ℕ) → after ≡ before → after.reads ≤ before.reads + most
unread before after most same = let as_many : after.reads ≡ before.reads = ap (λ (s : SourceView). s.reads) same in omega arith

given_plan_reads : (config : ConfigView) (at : ℕ) (before after : Devices) (result : Result Ended Fault) → GivesPlan config at before after result
    → after.input.reads ≤ before.input.reads + most_reads
given_plan_reads config at before after (Ok Done) h = few_reads before.input after.input (Ok h.request) h.read
given_plan_reads config at before after (Ok NotAccepted) h = absurd h
given_plan_reads config at before after (Ok Faulted) h = absurd h
given_plan_reads config at before after (Err Output) h = few_reads before.input after.input (Ok h.1.request) h.1.read
given_plan_reads config at before after (Err Input) h = few_reads before.input after.input (Err Input) h.read
given_plan_reads config at before after (Err (Text refusal)) h = few_reads before.input after.input (Err (Text refusal)) h.read
given_plan_reads config at before after (Err Memory) h = few_reads before.input after.input (Ok h.request) h.read
given_plan_reads config at before after (Err (File line)) h = absurd h
given_plan_reads config at before after (Err (Net line)) h = absurd h
given_plan_reads config at before after (Err (Plan refusal)) h = absurd h
given_plan_reads config at before after (Err (Pools refusal)) h = absurd h
given_plan_reads config at before after (Err (Phases refusal)) h = absurd h
given_plan_reads config at before after (Err (Node refusal)) h = absurd h

plan_reads : (values : PlanValues) (before after : Devices) (result : Result Ended Fault) → PlanGives values before after result
    → after.input.reads ≤ before.input.reads + most_reads
plan_reads values before after (Ok ended) h = given_plan_reads h.0 values.at before after (Ok ended) h.1.gives
plan_reads values before after (Err fault) (inl h) = unread _ _ _ h.unread
plan_reads values before after (Err fault) (inr h) = given_plan_reads h.0 values.at before after (Err fault) h.1.gives

timeline_reads : (timeline : TimelineValues) (before after : Devices) (result : Result Ended Fault) → TimelineGives timeline before after result
    → after.input.reads ≤ before.input.reads + 0
timeline_reads timeline before after (Ok Done) h = unread _ _ _ h.unread
timeline_reads timeline before after (Ok NotAccepted) h = absurd h
timeline_reads timeline before after (Ok Faulted) h = absurd h
timeline_reads timeline before after (Err Output) h = unread _ _ _ h.1.unread
timeline_reads timeline before after (Err (File line)) h = unread _ _ _ h.unread
timeline_reads timeline before after (Err (Plan refusal)) h = unread _ _ _ h.unread
timeline_reads timeline before after (Err Input) h = absurd h
timeline_reads timeline before after (Err (Text refusal)) h = absurd h
timeline_reads timeline before after (Err (Net line)) h = absurd h
timeline_reads timeline before after (Err (Pools refusal)) h = absurd h
timeline_reads timeline before after (Err (Phases refusal)) h = absurd h
timeline_reads timeline before after (Err (Node refusal)) h = absurd h
timeline_reads timeline before after (Err Memory) (inl h) = unread _ _ _ h.unread
timeline_reads timeline before after (Err Memory) (inr h) = unread _ _ _ h.unread

whole_reads : (bytes : List ℕ) (before after : SourceView) → TakesWhole bytes before after → after.reads ≤ before.reads + most_taken
whole_reads bytes before after (inl all) = let reads = all.takes.reads in let fits = all.takes.fits in omega arith
whole_reads bytes before after (inr most) = let reads = most.takes.reads in let fits = most.takes.fits in omega arith

failed_reads : (fault : Fault) (before after : SourceView) → FailsWhole fault before after → after.reads ≤ before.reads + most_taken
failed_reads Input before after h = let reads = h.1.reads in let fits = h.1.fits in omega arith
failed_reads Memory before after h = let reads = h.1.reads in let fits = h.1.fits in omega arith
failed_reads Output before after h = absurd h
failed_reads (File line) before after h = absurd h
failed_reads (Plan refusal) before after h = absurd h
failed_reads (Text refusal) before after h = absurd h
failed_reads (Net line) before after h = absurd h
failed_reads (Pools refusal) before after h = absurd h
failed_reads (Phases refusal) before after h = absurd h
failed_reads (Node refusal) before after h = absurd h

given_reads : (file : Option (List ℕ)) (bytes : List ℕ) (before after : Devices) → IsGiven file bytes before after
    → after.input.reads ≤ before.input.reads + reads_without file
given_reads (Some path) bytes before after h = unread _ _ _ h.1
given_reads None bytes before after h = whole_reads bytes _ _ h.0

not_given_reads : (file : Option (List ℕ)) (fault : Fault) (before after : Devices) → IsNotGiven file fault before after
    → after.input.reads ≤ before.input.reads + reads_without file
not_given_reads (Some path) fault before after h = unread _ _ _ h.1
not_given_reads None fault before after h = failed_reads fault _ _ h.0

text_reads : (makes : Makes) (refuses : RefusalOfBytes) (file : Option (List ℕ)) (before after : Devices) (result : Result Ended Fault)
    → PrintsOf makes refuses file before after result → after.input.reads ≤ before.input.reads + reads_without file
text_reads makes refuses file before after (Ok ended) h = given_reads file _ before after h.given
text_reads makes refuses file before after (Err Output) h = given_reads file _ before after h.2.given
text_reads makes refuses file before after (Err (Plan refusal)) h = given_reads file _ before after h.given
text_reads makes refuses file before after (Err (File line)) h = not_given_reads file _ before after h.lacks
text_reads makes refuses file before after (Err Input) h = not_given_reads file _ before after h.lacks
text_reads makes refuses file before after (Err Memory) (inl h) = not_given_reads file _ before after h.lacks
text_reads makes refuses file before after (Err Memory) (inr h) = given_reads file _ before after h.given
text_reads makes refuses file before after (Err (Text refusal)) h = absurd h
text_reads makes refuses file before after (Err (Net line)) h = absurd h
text_reads makes refuses file before after (Err (Pools refusal)) h = absurd h
text_reads makes refuses file before after (Err (Phases refusal)) h = absurd h
text_reads makes refuses file before after (Err (Node refusal)) h = absurd h

explain_reads : (told : Told) (before after : Devices) (result : Result Ended Fault) → ExplainGives told before after result
    → after.input.reads ≤ before.input.reads + 0
explain_reads told before after (Ok Done) h = unread _ _ _ h.unread
explain_reads told before after (Ok NotAccepted) h = absurd h
explain_reads told before after (Ok Faulted) h = absurd h
explain_reads told before after (Err Output) h = unread _ _ _ h.1.unread
explain_reads told before after (Err Memory) h = unread _ _ _ h.unread
explain_reads told before after (Err (File line)) h = absurd h
explain_reads told before after (Err (Plan refusal)) h = absurd h
explain_reads told before after (Err Input) h = absurd h
explain_reads told before after (Err (Text refusal)) h = absurd h
explain_reads told before after (Err (Net line)) h = absurd h
explain_reads told before after (Err (Pools refusal)) h = absurd h
explain_reads told before after (Err (Phases refusal)) h = absurd h
explain_reads told before after (Err (Node refusal)) h = absurd h

node_reads : (values : NodeValues) (before after : Devices) (idle busy : ServersView) (result : Result Ended Fault) → NodeGives values before after idle busy result
    → after.input.reads ≤ before.input.reads + 0
node_reads values before after idle busy (Ok ended) h = unread _ _ _ h.unread
node_reads values before after idle busy (Err (Pools refusal)) h = unread _ _ _ h.unread
node_reads values before after idle busy (Err (Phases refusal)) h = unread _ _ _ h.unread
node_reads values before after idle busy (Err (Node refusal)) h = unread _ _ _ (ap (λ (d : Devices). d.input) h.1)
node_reads values before after idle busy (Err Memory) h = unread _ _ _ h.unread
node_reads values before after idle busy (Err Input) h = unread _ _ _ (ap (λ (d : Devices). d.input) h.1)
node_reads values before after idle busy (Err Output) h = unread _ _ _ h.unread
node_reads values before after idle busy (Err (File line)) h = unread _ _ _ h.unread
node_reads values before after idle busy (Err (Net line)) h = unread _ _ _ h.unread
node_reads values before after idle busy (Err (Plan refusal)) h = unread _ _ _ h.unread
node_reads values before after idle busy (Err (Text refusal)) h = unread _ _ _ h.unread

proxy_reads : (values : ProxyValues) (before after : Devices) (idle busy : ServersView) (result : Result Ended Fault) → ProxyGives values before after idle busy result
    → after.input.reads ≤ before.input.reads + 0
proxy_reads values before after idle busy (Ok ended) h = unread _ _ _ h.has.unread
proxy_reads values before after idle busy (Err (File line)) h = unread _ _ _ h.0.unread
proxy_reads values before after idle busy (Err (Plan refusal)) h = unread _ _ _ h.0.unread
proxy_reads values before after idle busy (Err Memory) (inl h) = unread _ _ _ h.0.unread
proxy_reads values before after idle busy (Err Memory) (inr (inl h)) = unread _ _ _ h.has.unread
proxy_reads values before after idle busy (Err Memory) (inr (inr h)) = unread _ _ _ h.has.unread
proxy_reads values before after idle busy (Err Input) h = unread _ _ _ h.has.unread
proxy_reads values before after idle busy (Err Output) h = unread _ _ _ h.has.unread
proxy_reads values before after idle busy (Err (Net line)) h = unread _ _ _ h.has.unread
proxy_reads values before after idle busy (Err (Pools refusal)) h = unread _ _ _ h.has.unread
proxy_reads values before after idle busy (Err (Phases refusal)) h = unread _ _ _ h.has.unread
proxy_reads values before after idle busy (Err (Node refusal)) h = unread _ _ _ h.has.unread
proxy_reads values before after idle busy (Err (Text refusal)) h = unread _ _ _ h.has.unread

watch_reads : (values : WatchValues) (screen : Screen) (before after : Devices) (result : Result Ended Fault)
    → WatchGives values screen before after result → after.input.reads ≤ before.input.reads + 0
watch_reads values screen before after (Ok ended) h = unread _ _ _ h.unread
watch_reads values screen before after (Err Output) h = unread _ _ _ h.unread
watch_reads values screen before after (Err (File line)) h = unread _ _ _ h.unread
watch_reads values screen before after (Err (Plan refusal)) h = unread _ _ _ h.unread
watch_reads values screen before after (Err Memory) (inl h) = unread _ _ _ h.unread
watch_reads values screen before after (Err Memory) (inr (inl h)) = unread _ _ _ h.unread
watch_reads values screen before after (Err Memory) (inr (inr h)) = unread _ _ _ h.unread
watch_reads values screen before after (Err Input) h = absurd h
watch_reads values screen before after (Err (Net line)) h = unread _ _ _ h.unread
watch_reads values screen before after (Err (Pools refusal)) h = absurd h
watch_reads values screen before after (Err (Phases refusal)) h = absurd h
watch_reads values screen before after (Err (Node refusal)) h = absurd h
watch_reads values screen before after (Err (Text refusal)) h = absurd h

canary_reads : (values : CanaryValues) (screen : Screen) (before after : Devices) (result : Result Ended Fault)
    → CanaryGives values screen before after result → after.input.reads ≤ before.input.reads + 0
canary_reads values screen before after (Ok ended) h = unread _ _ _ h.unread
canary_reads values screen before after (Err Output) h = unread _ _ _ h.unread
canary_reads values screen before after (Err Input) h = unread _ _ _ h.unread
canary_reads values screen before after (Err (File line)) h = unread _ _ _ h.unread
canary_reads values screen before after (Err (Plan refusal)) h = unread _ _ _ h.unread
canary_reads values screen before after (Err Memory) (inl h) = unread _ _ _ h.unread
canary_reads values screen before after (Err Memory) (inr (inl h)) = unread _ _ _ h.unread
canary_reads values screen before after (Err Memory) (inr (inr h)) = unread _ _ _ h.unread
canary_reads values screen before after (Err (Net line)) (inl h) = unread _ _ _ h.unread
canary_reads values screen before after (Err (Net line)) (inr h) = unread _ _ _ h.unread
canary_reads values screen before after (Err (Pools refusal)) h = unread _ _ _ h.unread
canary_reads values screen before after (Err (Phases refusal)) h = unread _ _ _ h.unread
canary_reads values screen before after (Err (Node refusal)) h = unread _ _ _ h.unread
canary_reads values screen before after (Err (Text refusal)) h = unread _ _ _ h.unread

command_reads : (command : Wanted) (before after : Devices) (idle busy : ServersView) (result : Result Ended Fault) → Gives command before after idle busy result
    → after.input.reads ≤ before.input.reads + most_reads_of command
command_reads (wanted.Plan values) before after idle busy result h = plan_reads values before after result h.0
command_reads (wanted.Timeline values) before after idle busy result h = timeline_reads values before after result h.0
command_reads (wanted.Run file) before after idle busy result h = text_reads _ _ (path_in file) before after result h.0
command_reads (wanted.Check file) before after idle busy result h = text_reads _ _ (path_in file) before after result h.0
command_reads (wanted.Draw file) before after idle busy result h = text_reads _ _ (path_in file) before after result h.0
command_reads (wanted.Upgrade file) before after idle busy result h = text_reads _ _ (path_in file) before after result h.0
command_reads (wanted.Node values) before after idle busy result h = node_reads values before after idle busy result h
command_reads (wanted.Proxy values) before after idle busy result h = proxy_reads values before after idle busy result h
command_reads (wanted.Watch values) before after idle busy result h = watch_reads values idle.screen before after result h.0
command_reads (wanted.Canary values) before after idle busy result h = canary_reads values idle.screen before after result h.0
command_reads (wanted.Explain explanation) before after idle busy result h = explain_reads (told_by explanation) before after result h.0

-- the same command has the same bound
agreed_reads : (command read : Wanted) → AgreesWith command read → most_reads_of read ≡ most_reads_of command
agreed_reads (wanted.Plan values) (wanted.Plan read) same = refl
agreed_reads (wanted.Timeline values) (wanted.Timeline read) same = refl
agreed_reads (wanted.Run file) (wanted.Run read) same = ap reads_without same
agreed_reads (wanted.Check file) (wanted.Check read) same = ap reads_without same
agreed_reads (wanted.Draw file) (wanted.Draw read) same = ap reads_without same
agreed_reads (wanted.Upgrade file) (wanted.Upgrade read) same = ap reads_without same
agreed_reads (wanted.Node values) (wanted.Node read) same = refl
agreed_reads (wanted.Proxy values) (wanted.Proxy read) same = refl
agreed_reads (wanted.Watch values) (wanted.Watch read) same = refl
agreed_reads (wanted.Canary values) (wanted.Canary read) same = refl
agreed_reads (wanted.Explain explanation) (wanted.Explain read) same = refl
agreed_reads (wanted.Plan values) (wanted.Timeline read) same = absurd same
agreed_reads (wanted.Plan values) (wanted.Run read) same = absurd same
agreed_reads (wanted.Plan values) (wanted.Check read) same = absurd same
agreed_reads (wanted.Plan values) (wanted.Upgrade read) same = absurd same
agreed_reads (wanted.Plan values) (wanted.Node read) same = absurd same
agreed_reads (wanted.Plan values) (wanted.Proxy read) same = absurd same
agreed_reads (wanted.Plan values) (wanted.Explain read) same = absurd same
agreed_reads (wanted.Timeline values) (wanted.Plan read) same = absurd same
agreed_reads (wanted.Timeline values) (wanted.Run read) same = absurd same
agreed_reads (wanted.Timeline values) (wanted.Check read) same = absurd same
agreed_reads (wanted.Timeline values) (wanted.Upgrade read) same = absurd same
agreed_reads (wanted.Timeline values) (wanted.Node read) same = absurd same
agreed_reads (wanted.Timeline values) (wanted.Proxy read) same = absurd same
agreed_reads (wanted.Timeline values) (wanted.Explain read) same = absurd same
agreed_reads (wanted.Run file) (wanted.Plan read) same = absurd same
agreed_reads (wanted.Run file) (wanted.Timeline read) same = absurd same
agreed_reads (wanted.Run file) (wanted.Check read) same = absurd same
agreed_reads (wanted.Run file) (wanted.Upgrade read) same = absurd same
agreed_reads (wanted.Run file) (wanted.Node read) same = absurd same
agreed_reads (wanted.Run file) (wanted.Proxy read) same = absurd same
agreed_reads (wanted.Run file) (wanted.Explain read) same = absurd same
agreed_reads (wanted.Check file) (wanted.Plan read) same = absurd same
agreed_reads (wanted.Check file) (wanted.Timeline read) same = absurd same
agreed_reads (wanted.Check file) (wanted.Run read) same = absurd same
agreed_reads (wanted.Check file) (wanted.Upgrade read) same = absurd same
agreed_reads (wanted.Check file) (wanted.Node read) same = absurd same
agreed_reads (wanted.Check file) (wanted.Proxy read) same = absurd same
agreed_reads (wanted.Check file) (wanted.Explain read) same = absurd same
agreed_reads (wanted.Upgrade file) (wanted.Plan read) same = absurd same
agreed_reads (wanted.Upgrade file) (wanted.Timeline read) same = absurd same
agreed_reads (wanted.Upgrade file) (wanted.Run read) same = absurd same
agreed_reads (wanted.Upgrade file) (wanted.Check read) same = absurd same
agreed_reads (wanted.Upgrade file) (wanted.Node read) same = absurd same
agreed_reads (wanted.Upgrade file) (wanted.Proxy read) same = absurd same
agreed_reads (wanted.Upgrade file) (wanted.Explain read) same = absurd same
agreed_reads (wanted.Node values) (wanted.Plan read) same = absurd same
agreed_reads (wanted.Node values) (wanted.Timeline read) same = absurd same
agreed_reads (wanted.Node values) (wanted.Run read) same = absurd same
agreed_reads (wanted.Node values) (wanted.Check read) same = absurd same
agreed_reads (wanted.Node values) (wanted.Upgrade read) same = absurd same
agreed_reads (wanted.Node values) (wanted.Proxy read) same = absurd same
agreed_reads (wanted.Node values) (wanted.Explain read) same = absurd same
agreed_reads (wanted.Proxy values) (wanted.Plan read) same = absurd same
agreed_reads (wanted.Proxy values) (wanted.Timeline read) same = absurd same
agreed_reads (wanted.Proxy values) (wanted.Run read) same = absurd same
agreed_reads (wanted.Proxy values) (wanted.Check read) same = absurd same
agreed_reads (wanted.Proxy values) (wanted.Upgrade read) same = absurd same
agreed_reads (wanted.Proxy values) (wanted.Node read) same = absurd same
agreed_reads (wanted.Proxy values) (wanted.Explain read) same = absurd same
agreed_reads (wanted.Explain explanation) (wanted.Plan read) same = absurd same
agreed_reads (wanted.Explain explanation) (wanted.Timeline read) same = absurd same
agreed_reads (wanted.Explain explanation) (wanted.Run read) same = absurd same
agreed_reads (wanted.Explain explanation) (wanted.Check read) same = absurd same
agreed_reads (wanted.Explain explanation) (wanted.Upgrade read) same = absurd same
agreed_reads (wanted.Explain explanation) (wanted.Node read) same = absurd same
agreed_reads (wanted.Explain explanation) (wanted.Proxy read) same = absurd same
agreed_reads (wanted.Plan values) (wanted.Watch read) same = absurd same
agreed_reads (wanted.Timeline values) (wanted.Watch read) same = absurd same
agreed_reads (wanted.Run file) (wanted.Watch read) same = absurd same
agreed_reads (wanted.Check file) (wanted.Watch read) same = absurd same
agreed_reads (wanted.Upgrade file) (wanted.Watch read) same = absurd same
agreed_reads (wanted.Node values) (wanted.Watch read) same = absurd same
agreed_reads (wanted.Proxy values) (wanted.Watch read) same = absurd same
agreed_reads (wanted.Explain explanation) (wanted.Watch read) same = absurd same
agreed_reads (wanted.Watch values) (wanted.Plan read) same = absurd same
agreed_reads (wanted.Watch values) (wanted.Timeline read) same = absurd same
agreed_reads (wanted.Watch values) (wanted.Run read) same = absurd same
agreed_reads (wanted.Watch values) (wanted.Check read) same = absurd same
agreed_reads (wanted.Watch values) (wanted.Upgrade read) same = absurd same
agreed_reads (wanted.Watch values) (wanted.Node read) same = absurd same
agreed_reads (wanted.Watch values) (wanted.Proxy read) same = absurd same
agreed_reads (wanted.Watch values) (wanted.Explain read) same = absurd same
agreed_reads (wanted.Plan values) (wanted.Draw read) same = absurd same
agreed_reads (wanted.Timeline values) (wanted.Draw read) same = absurd same
agreed_reads (wanted.Run file) (wanted.Draw read) same = absurd same
agreed_reads (wanted.Check file) (wanted.Draw read) same = absurd same
agreed_reads (wanted.Upgrade file) (wanted.Draw read) same = absurd same
agreed_reads (wanted.Node values) (wanted.Draw read) same = absurd same
agreed_reads (wanted.Proxy values) (wanted.Draw read) same = absurd same
agreed_reads (wanted.Watch values) (wanted.Draw read) same = absurd same
agreed_reads (wanted.Explain explanation) (wanted.Draw read) same = absurd same
agreed_reads (wanted.Draw file) (wanted.Plan read) same = absurd same
agreed_reads (wanted.Draw file) (wanted.Timeline read) same = absurd same
agreed_reads (wanted.Draw file) (wanted.Run read) same = absurd same
agreed_reads (wanted.Draw file) (wanted.Check read) same = absurd same
agreed_reads (wanted.Draw file) (wanted.Upgrade read) same = absurd same
agreed_reads (wanted.Draw file) (wanted.Node read) same = absurd same
agreed_reads (wanted.Draw file) (wanted.Proxy read) same = absurd same
agreed_reads (wanted.Draw file) (wanted.Watch read) same = absurd same
agreed_reads (wanted.Draw file) (wanted.Explain read) same = absurd same
agreed_reads (wanted.Plan values) (wanted.Canary read) same = absurd same
agreed_reads (wanted.Timeline values) (wanted.Canary read) same = absurd same
agreed_reads (wanted.Run file) (wanted.Canary read) same = absurd same
agreed_reads (wanted.Check file) (wanted.Canary read) same = absurd same
agreed_reads (wanted.Draw file) (wanted.Canary read) same = absurd same
agreed_reads (wanted.Upgrade file) (wanted.Canary read) same = absurd same
agreed_reads (wanted.Node values) (wanted.Canary read) same = absurd same
agreed_reads (wanted.Proxy values) (wanted.Canary read) same = absurd same
agreed_reads (wanted.Watch values) (wanted.Canary read) same = absurd same
agreed_reads (wanted.Explain explanation) (wanted.Canary read) same = absurd same
agreed_reads (wanted.Canary values) (wanted.Plan read) same = absurd same
agreed_reads (wanted.Canary values) (wanted.Timeline read) same = absurd same
agreed_reads (wanted.Canary values) (wanted.Run read) same = absurd same
agreed_reads (wanted.Canary values) (wanted.Check read) same = absurd same
agreed_reads (wanted.Canary values) (wanted.Draw read) same = absurd same
agreed_reads (wanted.Canary values) (wanted.Upgrade read) same = absurd same
agreed_reads (wanted.Canary values) (wanted.Node read) same = absurd same
agreed_reads (wanted.Canary values) (wanted.Proxy read) same = absurd same
agreed_reads (wanted.Canary values) (wanted.Watch read) same = absurd same
agreed_reads (wanted.Canary values) (wanted.Explain read) same = absurd same

-- what is told at the end reads nothing
ends_unread : (result : Result Ended Fault) (status : ℕ) (between after : Devices) → EndsWith result status between after → after.input ≡ between.input
ends_unread (Ok ended) status between after h = ap (λ (d : Devices). d.input) h.1
ends_unread (Err fault) status between after h = h.1.unread

run_reads : (words : List (List ℕ)) (before after : Devices) (idle busy : ServersView) (status : ℕ) → RunsCommand words before after idle busy status
    → ReadsFew words before after
run_reads words before after idle busy status runs command says =
    let within = command_reads runs.wanted before runs.between idle busy runs.result runs.gives in
    let same : after.input.reads ≡ runs.between.input.reads =
    ap (λ (s : SourceView). s.reads) (ends_unread runs.result status runs.between after runs.ends) in
    let bound = agreed_reads command runs.wanted (one_said words runs.wanted command runs.says says) in
    omega arith

-- no run reads oftener than its command may
pub few : (words : List (List ℕ)) (before after : Devices) (idle busy : ServersView) (status : ℕ) → Runs words before after idle busy status
    → ReadsFew words before after
few words before after idle busy status (inl runs) = run_reads words before after idle busy status runs
few words before after idle busy status (inr (inl refuses, same)) = λ command says. unread _ _ _ refuses.tells.unread
few words before after idle busy status (inr (inr (inl refuses), same)) = λ command says. unread _ _ _ refuses.tells.unread
few words before after idle busy status (inr (inr (inr (inl memory)), same)) = λ command says. unread _ _ _ memory.1.unread
few words before after idle busy status (inr (inr (inr (inr tells)), same)) = λ command says. absurd (no_version_said words command says tells.says)
