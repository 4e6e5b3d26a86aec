use Rattle.std.proofs.Common.{◌≡◌, fold, take, min}
use Rattle.mr_driver.proofs.loads.least_of.Given as goal

-- the least so far
abbrev pub invariant-loop-load : goal.invariant-loop-load
invariant-loop-load l = l.least ≡ fold min l.initial.least (take l.load-index l.loads)
