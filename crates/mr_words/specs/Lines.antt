-- What is printed of a refusal: the layer that refuses, and the number and the name of the refusal.
use Rattle.std.specs.Prelude.{ℕ, List, codes}
use Rattle.mr_text.specs.declared.error.TextError.{TextError}
use Rattle.mr_text.specs.declared.error.TextError.TheVariants.{LineTooLong, BadKey, BadNumber, WrongWords, DataTooLong, BadDataEnd, UnknownCommand, Truncated, Closed, OutOfMemory}
use Rattle.mr_pools.specs.declared.error.PoolError.{PoolError}
use Rattle.mr_pools.specs.declared.error.PoolError.TheVariants as pool
use Rattle.mr_phases.specs.declared.error.ScheduleError.{ScheduleError}
use Rattle.mr_phases.specs.declared.error.ScheduleError.TheVariants as schedule
use Rattle.mr_node.specs.declared.error.NodeError.{NodeError}
use Rattle.mr_node.specs.declared.error.NodeError.TheVariants as node
use Rattle.mr_configs.specs.declared.error.PlanError.{PlanError}
use Rattle.mr_configs.specs.declared.error.PlanError.TheVariants as plan

-- the line of each refusal of a text
abbrev pub text_fault_line : TextError → List ℕ
text_fault_line LineTooLong = codes "migctl: text 1 LineTooLong\n"
text_fault_line BadKey = codes "migctl: text 2 BadKey\n"
text_fault_line BadNumber = codes "migctl: text 3 BadNumber\n"
text_fault_line WrongWords = codes "migctl: text 4 WrongWords\n"
text_fault_line DataTooLong = codes "migctl: text 5 DataTooLong\n"
text_fault_line BadDataEnd = codes "migctl: text 6 BadDataEnd\n"
text_fault_line (UnknownCommand closes) = codes "migctl: text 7 UnknownCommand\n"
text_fault_line Truncated = codes "migctl: text 8 Truncated\n"
text_fault_line Closed = codes "migctl: text 9 Closed\n"
text_fault_line OutOfMemory = codes "migctl: text 10 OutOfMemory\n"

-- the line of each refusal of a pool or a routing
abbrev pub pool_fault_line : PoolError → List ℕ
pool_fault_line pool.EmptyPool = codes "migctl: pools 1 EmptyPool\n"
pool_fault_line pool.TooManyNodes = codes "migctl: pools 2 TooManyNodes\n"
pool_fault_line pool.BadName = codes "migctl: pools 3 BadName\n"
pool_fault_line pool.RepeatedName = codes "migctl: pools 4 RepeatedName\n"
pool_fault_line pool.SharedName = codes "migctl: pools 5 SharedName\n"
pool_fault_line pool.OutOfMemory = codes "migctl: pools 6 OutOfMemory\n"
pool_fault_line pool.TooManyPools = codes "migctl: pools 7 TooManyPools\n"

-- the line of each refusal of a schedule
abbrev pub schedule_fault_line : ScheduleError → List ℕ
schedule_fault_line schedule.ZeroInterval = codes "migctl: phases 1 ZeroInterval\n"
schedule_fault_line schedule.TooLate = codes "migctl: phases 2 TooLate\n"
schedule_fault_line schedule.TooSoon = codes "migctl: phases 3 TooSoon\n"
schedule_fault_line schedule.TooManyHops = codes "migctl: phases 4 TooManyHops\n"

-- the line of each error of a node
abbrev pub node_fault_line : NodeError → List ℕ
node_fault_line node.ZeroCapacity = codes "migctl: node 1 ZeroCapacity\n"
node_fault_line node.OutOfMemory = codes "migctl: node 2 OutOfMemory\n"
node_fault_line node.ReadFault = codes "migctl: node 3 ReadFault\n"
node_fault_line node.WriteFault = codes "migctl: node 4 WriteFault\n"
node_fault_line node.TurnsSpent = codes "migctl: node 5 TurnsSpent\n"

-- what a refusal carries isn't told
abbrev pub plan_fault_line : PlanError → List ℕ
plan_fault_line plan.NotJson = codes "migctl: plan 1 NotJson\n"
plan_fault_line plan.WrongKind = codes "migctl: plan 2 WrongKind\n"
plan_fault_line plan.MissingKey = codes "migctl: plan 3 MissingKey\n"
plan_fault_line plan.UnknownKey = codes "migctl: plan 4 UnknownKey\n"
plan_fault_line (plan.BadPool refusal) = codes "migctl: plan 5 BadPool\n"
plan_fault_line plan.BadRoute = codes "migctl: plan 6 BadRoute\n"
plan_fault_line (plan.BadSchedule refusal) = codes "migctl: plan 7 BadSchedule\n"
plan_fault_line plan.BadHash = codes "migctl: plan 8 BadHash\n"
plan_fault_line (plan.BadSetup refusal) = codes "migctl: plan 9 BadSetup\n"
plan_fault_line (plan.BadEvent index) = codes "migctl: plan 10 BadEvent\n"
plan_fault_line plan.TooLarge = codes "migctl: plan 11 TooLarge\n"
plan_fault_line (plan.EventRefused index refusal) = codes "migctl: plan 12 EventRefused\n"
plan_fault_line plan.OutOfMemory = codes "migctl: plan 13 OutOfMemory\n"
