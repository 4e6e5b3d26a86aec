use Rattle.std.proofs.Common.{◌≡◌, map, take}
use Rattle.mr_sockets.specs.SocketCarrier.{fresh_carrier}
use Rattle.mr_sockets.proofs.carriers.pool_carriers.Given as goal

abbrev pub invariant-loop-name : goal.invariant-loop-name
invariant-loop-name g l = l.carriers.items ≡ map (fresh_carrier l.fn.turns) (take l.name-index l.fn.pool)
