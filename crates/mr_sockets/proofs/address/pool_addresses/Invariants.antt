use Rattle.std.proofs.Common.{take}
use Rattle.mr_sockets.specs.Address.{GivesNodeAddresses}
use Rattle.mr_sockets.proofs.address.pool_addresses.Given as goal

-- the names so far have theirs
abbrev pub invariant-loop-name : goal.invariant-loop-name
invariant-loop-name l = GivesNodeAddresses (take l.name-index l.fn.pool) l.addresses.items
