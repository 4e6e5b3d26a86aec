use Rattle.std.proofs.Common.{◌≡◌, fold, map, take, min}
use Rattle.mr_phases.specs.Schedule.{least_interval}
use Rattle.mr_world.proofs.terms.least_of.Given as goal

-- the least so far
abbrev pub invariant-loop-proxy : goal.invariant-loop-proxy
invariant-loop-proxy l = l.least ≡ fold min l.initial.least (map (λ proxy. least_interval proxy.schedule) (take l.proxy-index l.rest))
