-- What each layer calls its refusals, whatever they carry.
use Rattle.std.specs.Prelude.{ℕ, List, codes}
use Rattle.mr_text.specs.declared.error.TextError.{TextError}
use Rattle.mr_text.specs.declared.error.TextError.TheVariants as text
use Rattle.mr_pools.specs.declared.error.PoolError.{PoolError}
use Rattle.mr_pools.specs.declared.error.PoolError.TheVariants as pool
use Rattle.mr_clock.specs.declared.error.ClockError.{ClockError}
use Rattle.mr_clock.specs.declared.error.ClockError.TheVariants as clock
use Rattle.mr_phases.specs.declared.error.ScheduleError.{ScheduleError}
use Rattle.mr_phases.specs.declared.error.ScheduleError.TheVariants as schedule
use Rattle.mr_node.specs.declared.error.NodeError.{NodeError}
use Rattle.mr_node.specs.declared.error.NodeError.TheVariants as node
use Rattle.mr_proxy.specs.declared.error.ProxyError.{ProxyError}
use Rattle.mr_proxy.specs.declared.error.ProxyError.TheVariants as proxy
use Rattle.mr_proxy.specs.declared.world_error.WorldError.{WorldError}
use Rattle.mr_proxy.specs.declared.world_error.WorldError.TheVariants as world
use Rattle.mr_desks.specs.DeskError.{number_of_desk_refusal}
use Rattle.mr_desks.specs.WorkerError.{number_of_refusal as number_of_worker}
use Rattle.mr_desks.specs.declared.desk_error.DeskError.TheVariants.{BookFull}
use Rattle.mr_desks.specs.declared.error.WorkerError.{WorkerError}
use Rattle.mr_desks.specs.declared.error.WorkerError.TheVariants as worker
use Rattle.mr_configs.specs.declared.error.PlanError.{PlanError}
use Rattle.mr_configs.specs.declared.error.PlanError.TheVariants as plan

-- what the layer of texts calls each refusal
abbrev pub text_name : TextError → List ℕ
text_name text.LineTooLong = codes "LineTooLong"
text_name text.BadKey = codes "BadKey"
text_name text.BadNumber = codes "BadNumber"
text_name text.WrongWords = codes "WrongWords"
text_name text.DataTooLong = codes "DataTooLong"
text_name text.BadDataEnd = codes "BadDataEnd"
text_name (text.UnknownCommand closes) = codes "UnknownCommand"
text_name text.Truncated = codes "Truncated"
text_name text.Closed = codes "Closed"
text_name text.OutOfMemory = codes "OutOfMemory"

-- what the layer of pools calls each refusal
abbrev pub pool_name : PoolError → List ℕ
pool_name pool.EmptyPool = codes "EmptyPool"
pool_name pool.TooManyNodes = codes "TooManyNodes"
pool_name pool.BadName = codes "BadName"
pool_name pool.RepeatedName = codes "RepeatedName"
pool_name pool.SharedName = codes "SharedName"
pool_name pool.OutOfMemory = codes "OutOfMemory"
pool_name pool.TooManyPools = codes "TooManyPools"

-- what the layer of clocks calls each refusal
abbrev pub clock_name : ClockError → List ℕ
clock_name clock.ClockFault = codes "ClockFault"
clock_name clock.NoSuchProxy = codes "NoSuchProxy"
clock_name clock.OutOfMemory = codes "OutOfMemory"

-- what the layer of schedules calls each refusal
abbrev pub schedule_name : ScheduleError → List ℕ
schedule_name schedule.ZeroInterval = codes "ZeroInterval"
schedule_name schedule.TooLate = codes "TooLate"
schedule_name schedule.TooSoon = codes "TooSoon"
schedule_name schedule.TooManyHops = codes "TooManyHops"

-- what the layer of nodes calls each error
abbrev pub node_name : NodeError → List ℕ
node_name node.ZeroCapacity = codes "ZeroCapacity"
node_name node.OutOfMemory = codes "OutOfMemory"
node_name node.ReadFault = codes "ReadFault"
node_name node.WriteFault = codes "WriteFault"
node_name node.TurnsSpent = codes "TurnsSpent"

-- what the layer of proxies calls each refusal
abbrev pub proxy_name : ProxyError → List ℕ
proxy_name proxy.NoRoom = codes "NoRoom"
proxy_name proxy.OutOfMemory = codes "OutOfMemory"
proxy_name proxy.NumbersSpent = codes "NumbersSpent"
proxy_name proxy.NoSuchOp = codes "NoSuchOp"

-- what the layer of fleets calls each refusal
abbrev pub world_name : WorldError → List ℕ
world_name world.NoSuchProxy = codes "NoSuchProxy"
world_name world.NoSuchNode = codes "NoSuchNode"
world_name world.NoSuchMessage = codes "NoSuchMessage"
world_name (world.IssueRefused refusal) = codes "IssueRefused"
world_name world.OutOfMemory = codes "OutOfMemory"
world_name world.NoSuchOp = codes "NoSuchOp"
world_name world.HopsDiffer = codes "HopsDiffer"

-- what the layer of workers refuses: what a client's session and a link do, and a desk's own refusal, that of a full book
pub data WorkersRefusal : Type 0 where
  of_worker : WorkerError → WorkersRefusal
  of_full_book : WorkersRefusal

-- the number of each refusal of the layer of workers
abbrev pub workers_number : WorkersRefusal → ℕ
workers_number (of_worker refusal) = number_of_worker refusal
workers_number of_full_book = number_of_desk_refusal BookFull

-- what a worker's error is called
abbrev pub worker_name : WorkerError → List ℕ
worker_name worker.LinkBroken = codes "LinkBroken"
worker_name worker.Mismatch = codes "Mismatch"
worker_name worker.BookDiffers = codes "BookDiffers"
worker_name worker.ReadFault = codes "ReadFault"
worker_name worker.WriteFault = codes "WriteFault"
worker_name worker.TurnsSpent = codes "TurnsSpent"
worker_name worker.OutOfMemory = codes "OutOfMemory"
worker_name worker.NoThread = codes "NoThread"

-- what the layer of workers calls each refusal
abbrev pub workers_name : WorkersRefusal → List ℕ
workers_name (of_worker refusal) = worker_name refusal
workers_name of_full_book = codes "BookFull"

-- what the layer of plans calls each refusal
abbrev pub plan_name : PlanError → List ℕ
plan_name plan.NotJson = codes "NotJson"
plan_name plan.WrongKind = codes "WrongKind"
plan_name plan.MissingKey = codes "MissingKey"
plan_name plan.UnknownKey = codes "UnknownKey"
plan_name (plan.BadPool refusal) = codes "BadPool"
plan_name plan.BadRoute = codes "BadRoute"
plan_name (plan.BadSchedule refusal) = codes "BadSchedule"
plan_name plan.BadHash = codes "BadHash"
plan_name (plan.BadSetup refusal) = codes "BadSetup"
plan_name (plan.BadEvent index) = codes "BadEvent"
plan_name plan.TooLarge = codes "TooLarge"
plan_name (plan.EventRefused index refusal) = codes "EventRefused"
plan_name plan.OutOfMemory = codes "OutOfMemory"
