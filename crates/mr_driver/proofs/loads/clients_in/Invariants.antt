use Rattle.std.proofs.Common.{◌≡◌, fold, take}
use Rattle.mr_driver.specs.Loads.{with_load}
use Rattle.mr_driver.proofs.loads.clients_in.Given as goal

-- those of the loops so far
abbrev pub invariant-loop-load : goal.invariant-loop-load
invariant-loop-load l = l.clients ≡ fold with_load 0 (take l.load-index l.loads)
