use Rattle.std.proofs.Common.{take}
use Rattle.std.specs.List.{flat_map}
use Rattle.mr_sockets.specs.Address.{GivesNodeAddresses}
use Rattle.mr_sockets.proofs.address.node_addresses.Given as goal

-- the pools so far have theirs
abbrev pub invariant-loop-pool : goal.invariant-loop-pool
invariant-loop-pool l = GivesNodeAddresses (flat_map (λ names. names) (take l.pool-index l.pool-items)) l.addresses.items
