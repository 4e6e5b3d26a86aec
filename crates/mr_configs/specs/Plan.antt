-- The plan of one request.
use Rattle.std.specs.Prelude.{ℕ, List}
use Rattle.mr_phases.specs.Schedule.{Hop, hop_of, phase_of}
use Rattle.mr_phases.specs.declared.phase_name.PhaseName.{PhaseName}
use Rattle.mr_pools.specs.Routing.{RoutingView}
use Rattle.mr_proxy.specs.Issue.{sheets_of}
use Rattle.mr_proxy.specs.ProxyView.{ProxyView, fresh_proxy}
use Rattle.mr_proxy.specs.declared.sheet.LegSheet.{LegSheet}
use Rattle.mr_text.specs.declared.request.Request.{Request}
use Rattle.mr_configs.specs.Config.{ConfigView}

-- the plan of a request
pub record PlanView : Type 0 where
  -- the hop in force
  pub hop : ℕ
  pub phase : PhaseName
  -- the reading that was judged
  pub reading : ℕ
  -- what is sent, in order of place
  pub sheets : List LegSheet

-- the proxy that a plan is made by: it accepted no request yet, and has room for one
abbrev pub planner : RoutingView → List Hop → ProxyView
planner routing schedule = fresh_proxy 0 0 routing schedule 1

-- the hop in force at a reading, its phase, and each leg that a proxy sends then; none for a quit
abbrev pub plan_of : ConfigView → ℕ → Request → PlanView
plan_of config at request = record {
  hop = hop_of config.schedule at;
  phase = phase_of config.schedule at;
  reading = at;
  sheets = sheets_of (planner config.routing config.schedule) at request;
}
