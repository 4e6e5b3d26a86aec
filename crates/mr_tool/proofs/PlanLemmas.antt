-- What comes of a plan, whichever form of words its configuration came by.
use Rattle.std.proofs.Common.{◌≡◌, ◌∙◌, ap₂, refl, sym, ℕ, List, Result, Ok, Err}
use Rattle.mr_configs.specs.Config.{ConfigView}
use Rattle.mr_phases.specs.Schedule.{Hop}
use Rattle.mr_pools.specs.Routing.{RoutingView, routing_between}
use Rattle.mr_tool.specs.Devices.{Devices}
use Rattle.mr_tool.specs.PlanCommand.{GivesPlan}
use Rattle.mr_tool.specs.PlanForms.{FormsAgree, with_files}
use Rattle.mr_tool.specs.PlannedConfig.{SaysConfig, SaysPool}
use Rattle.mr_tool.specs.Sources.{SourcesView}
use Rattle.mr_tool.specs.declared.ended.Ended.{Ended}
use Rattle.mr_tool.specs.declared.ended.Ended.TheVariants.{Done, NotAccepted, Faulted}
use Rattle.mr_tool.specs.declared.fault.Fault.{Fault}
use Rattle.mr_tool.specs.declared.fault.Fault.TheVariants.{Memory, Input, Output, File, Net, Plan, Pools, Phases, Node, Text}
use Rattle.mr_words.specs.declared.plan_words.MigrationWords.{MigrationWords}

-- what comes of a plan says nothing of files
files_apart : (config : ConfigView) (at : ℕ) (before after : Devices) (files other : SourcesView) (result : Result Ended Fault)
    → GivesPlan config at before (with_files files after) result → GivesPlan config at before (with_files other after) result
files_apart config at before after files other (Ok Done) h = record { request = h.request; read = h.read; writes = h.writes }
files_apart config at before after files other (Ok NotAccepted) h = absurd h
files_apart config at before after files other (Ok Faulted) h = absurd h
files_apart config at before after files other (Err Output) h = (h.0, record { request = h.1.request; read = h.1.read; writes = h.1.writes })
files_apart config at before after files other (Err Input) h = record { read = h.read; unwritten = h.unwritten }
files_apart config at before after files other (Err (Text refusal)) h = record { read = h.read; unwritten = h.unwritten }
files_apart config at before after files other (Err Memory) h = record { request = h.request; read = h.read; unwritten = h.unwritten }
files_apart config at before after files other (Err (File line)) h = absurd h
files_apart config at before after files other (Err (Net line)) h = absurd h
files_apart config at before after files other (Err (Plan refusal)) h = absurd h
files_apart config at before after files other (Err (Pools refusal)) h = absurd h
files_apart config at before after files other (Err (Phases refusal)) h = absurd h
files_apart config at before after files other (Err (Node refusal)) h = absurd h

one_pool : (word : List ℕ) (pool other : List (List ℕ)) → SaysPool word (Ok pool) → SaysPool word (Ok other) → pool ≡ other
one_pool word pool other is also = is.1.1 ∙ sym also.1.1

-- words say one configuration
one_config : (words : MigrationWords) (config other : ConfigView) → SaysConfig words (Ok config) → SaysConfig words (Ok other) → config ≡ other
one_config words config other is also =
    let old = one_pool words.old.now _ _ is.routing.old_is also.routing.old_is in
    let new = one_pool words.new.now _ _ is.routing.new_is also.routing.new_is in
    let between = ap₂ (λ (a b : List (List ℕ)). routing_between a b words.hash) old new in
    let routing : config.routing ≡ other.routing = is.routing.is_routing.1 ∙ between ∙ sym also.routing.is_routing.1 in
    let schedule : config.schedule ≡ other.schedule = is.schedule ∙ sym also.schedule in
    let made : RoutingView → List Hop → ConfigView = λ r s. record { routing = r; schedule = s } in
    ap₂ made routing schedule

pub forms_agree : FormsAgree
forms_agree = record {
  one = one_config;
  same = λ path words config at before after loaded result both. (
    (λ h. record { had = (both.said, refl); gives = files_apart config at before after loaded before.sources result h.gives }),
    (λ h. record { had = both.held; gives = files_apart config at before after before.sources loaded result h.gives }),
  );
}
