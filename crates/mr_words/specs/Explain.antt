-- What is told of a refusal, by its layer and its number.
use Rattle.std.specs.Prelude.{◌≡◌, ◌==◌, ◌&&◌, ◌⊎◌, ◌↔◌, ℕ, Bool, List, ◌++◌, Option, IfSome, IsSome, IsSomeAnd, find, map, codes, decimal}
use Rattle.std.specs.Borrow.{Bor}
use Rattle.std.specs.Str.{bytes_eq}
use Rattle.mr_text.specs.TextError.{number_of_refusal as text_number}
use Rattle.mr_text.specs.declared.error.TextError.{TextError}
use Rattle.mr_pools.specs.PoolError.{number_of_refusal as pool_number}
use Rattle.mr_pools.specs.declared.error.PoolError.{PoolError}
use Rattle.mr_clock.specs.ClockError.{number_of_refusal as clock_number}
use Rattle.mr_clock.specs.declared.error.ClockError.{ClockError}
use Rattle.mr_phases.specs.ScheduleError.{number_of_refusal as schedule_number}
use Rattle.mr_phases.specs.declared.error.ScheduleError.{ScheduleError}
use Rattle.mr_node.specs.NodeError.{number_of_refusal as node_number}
use Rattle.mr_node.specs.declared.error.NodeError.{NodeError}
use Rattle.mr_proxy.specs.ProxyError.{number_of_refusal as proxy_number}
use Rattle.mr_proxy.specs.declared.error.ProxyError.{ProxyError}
use Rattle.mr_proxy.specs.WorldError.{number_of_refusal as world_number}
use Rattle.mr_proxy.specs.declared.world_error.WorldError.{WorldError}
use Rattle.mr_configs.specs.PlanError.{number_of_refusal as plan_number}
use Rattle.mr_configs.specs.declared.error.PlanError.{PlanError}
use Rattle.mr_words.specs.Lines.{text_fault_line, pool_fault_line, schedule_fault_line, node_fault_line, plan_fault_line}
use Rattle.mr_words.specs.Names.{text_name, pool_name, clock_name, schedule_name, node_name, proxy_name, world_name, WorkersRefusal, workers_number, workers_name, plan_name}
use Rattle.mr_words.specs.declared.explain.Explanation.{Explanation}
use Rattle.mr_words.specs.declared.explanations.TheConstants.{LOWER_ROWS, UPPER_ROWS}

-- what is told of a refusal: its layer, its number there, its name, and what it means, with what to look at
pub record Told : Type 0 where
  pub layer : List ℕ
  pub number : ℕ
  pub name : List ℕ
  pub meaning : List ℕ

-- what a row of the table tells
abbrev pub told_in : Bor (List ℕ) × ℕ × Bor (List ℕ) × Bor (List ℕ) → Told
told_in row = record { layer = row.0.now; number = row.1; name = row.2.now; meaning = row.3.now }

-- what an explanation tells
abbrev pub told_by : Explanation → Told
told_by explanation = record {
  layer = explanation.layer.now;
  number = explanation.number;
  name = explanation.name.now;
  meaning = explanation.meaning.now;
}

-- the table of the lower layers, row by row
unfoldable pub lower_table : List Told
lower_table = map (λ row. record { layer = row.0.now; number = row.1; name = row.2.now; meaning = row.3.now }) LOWER_ROWS

-- the table of the upper layers, row by row
unfoldable pub upper_table : List Told
upper_table = map (λ row. record { layer = row.0.now; number = row.1; name = row.2.now; meaning = row.3.now }) UPPER_ROWS

-- both tables
unfoldable pub table : List Told
table = lower_table ++ upper_table

-- it is told of the refusal of this layer and number
abbrev pub is_of : List ℕ → ℕ → Told → Bool
is_of layer number told = told.number == number && bytes_eq told.layer layer

-- what the program tells of the refusal of this layer and number: the first such row of its table
abbrev pub explanation_of : List ℕ → ℕ → Option Told
explanation_of layer number = find (is_of layer number) table

-- the layer is one of the nine, and has a refusal of this number, which it calls so
abbrev pub IsNamed : List ℕ → ℕ → List ℕ → Type 0
IsNamed layer number name =
    ((layer ≡ codes "text") × ((refusal : TextError) × (number ≡ text_number refusal) × (name ≡ text_name refusal)))
    ⊎ ((layer ≡ codes "pools") × ((refusal : PoolError) × (number ≡ pool_number refusal) × (name ≡ pool_name refusal)))
    ⊎ ((layer ≡ codes "clock") × ((refusal : ClockError) × (number ≡ clock_number refusal) × (name ≡ clock_name refusal)))
    ⊎ ((layer ≡ codes "phases") × ((refusal : ScheduleError) × (number ≡ schedule_number refusal) × (name ≡ schedule_name refusal)))
    ⊎ ((layer ≡ codes "node") × ((refusal : NodeError) × (number ≡ node_number refusal) × (name ≡ node_name refusal)))
    ⊎ ((layer ≡ codes "proxy") × ((refusal : ProxyError) × (number ≡ proxy_number refusal) × (name ≡ proxy_name refusal)))
    ⊎ ((layer ≡ codes "world") × ((refusal : WorldError) × (number ≡ world_number refusal) × (name ≡ world_name refusal)))
    ⊎ ((layer ≡ codes "workers") × ((refusal : WorkersRefusal) × (number ≡ workers_number refusal) × (name ≡ workers_name refusal)))
    ⊎ ((layer ≡ codes "plan") × ((refusal : PlanError) × (number ≡ plan_number refusal) × (name ≡ plan_name refusal)))

-- it has a refusal of this number, whatever it calls it
abbrev pub HasRefusal : List ℕ → ℕ → Type 0
HasRefusal layer number = (name : List ℕ) × IsNamed layer number name

-- the line that names the refusal, as the fault's line does behind the program's name
abbrev pub heading_line : Told → List ℕ
heading_line told = told.layer ++ (codes " " ++ (decimal told.number ++ (codes " " ++ (told.name ++ codes "\n"))))

-- it is told under the heading that this line of a fault has
abbrev pub IsToldAs : List ℕ → Option Told → Type 0
IsToldAs line found = IsSomeAnd found (λ told. line ≡ codes "migctl: " ++ heading_line told)

-- Exactly the refusals of the layers are told of, each under its own layer and number and by the name that its layer gives
-- it. The refusals that faults' lines name are told of under these lines.
pub record IsComplete (explanation : List ℕ → ℕ → Option Told) : Type 0 where
  pub own : (layer : List ℕ) (number : ℕ) → IfSome (explanation layer number) (λ told. (told.layer ≡ layer) × (told.number ≡ number))
  pub known : (layer : List ℕ) (number : ℕ) → IsSome (explanation layer number) ↔ HasRefusal layer number
  pub named : (layer : List ℕ) (number : ℕ) → IfSome (explanation layer number) (λ told. IsNamed layer number told.name)
  pub text : (refusal : TextError) → IsToldAs (text_fault_line refusal) (explanation (codes "text") (text_number refusal))
  pub pools : (refusal : PoolError) → IsToldAs (pool_fault_line refusal) (explanation (codes "pools") (pool_number refusal))
  pub phases : (refusal : ScheduleError) → IsToldAs (schedule_fault_line refusal) (explanation (codes "phases") (schedule_number refusal))
  pub node : (refusal : NodeError) → IsToldAs (node_fault_line refusal) (explanation (codes "node") (node_number refusal))
  pub plan : (refusal : PlanError) → IsToldAs (plan_fault_line refusal) (explanation (codes "plan") (plan_number refusal))
