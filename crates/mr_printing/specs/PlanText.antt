-- What a plan prints.
use Rattle.std.specs.Prelude.{ℕ, List, [], ◌∷◌, ◌++◌, length, Option, codes, decimal}
use Rattle.mr_pools.specs.Routing.{RoutingView}
use Rattle.mr_phases.specs.declared.phase_name.PhaseName.{PhaseName}
use Rattle.mr_phases.specs.PhaseText.{phase_text}
use Rattle.mr_phases.specs.SideText.{side_text}
use Rattle.mr_proxy.specs.declared.sheet.LegSheet.{LegSheet}
use Rattle.mr_proxy.specs.Sheets.{node_name}
use Rattle.mr_configs.specs.Config.{ConfigView}
use Rattle.mr_configs.specs.Plan.{PlanView, plan_of}
use Rattle.mr_text.specs.declared.request.Request.{Request}
use Rattle.mr_printing.specs.HopText.{told_hop, of_hop}

-- the line of the phase, and of its hop where that is told, at a reading
abbrev pub phase_line : PhaseName → Option ℕ → ℕ → List ℕ
phase_line phase hop at = codes "phase " ++ (phase_text phase ++ (of_hop hop ++ (codes " at " ++ (decimal at ++ codes "\n"))))

-- the line of a leg: its place, its side and its node
abbrev pub leg_line : RoutingView → LegSheet → List ℕ
leg_line routing sheet =
    codes "leg " ++ (decimal sheet.id.place ++ (codes " " ++ (side_text sheet.side ++ (codes " " ++ (node_name routing sheet ++ codes "\n")))))

-- the lines of the legs, in order
abbrev pub leg_lines : RoutingView → List LegSheet → List ℕ
leg_lines routing [] = []
leg_lines routing (sheet ∷ sheets) = leg_line routing sheet ++ leg_lines routing sheets

-- a plan by a configuration, whose routing has its nodes: the phase, told with its hop where there are several, and below
-- it each leg, in order of place
abbrev pub plan_text : ConfigView → PlanView → List ℕ
plan_text config plan =
    phase_line plan.phase (told_hop (length config.schedule) plan.hop) plan.reading ++ leg_lines config.routing plan.sheets

-- the plan of a request, by a configuration and at a reading
abbrev pub plan_shown : ConfigView → ℕ → Request → List ℕ
plan_shown config at request = plan_text config (plan_of config at request)
