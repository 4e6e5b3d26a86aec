use Rattle.std.proofs.Common.{map, take}
use Rattle.mr_sockets.specs.Address.{GivesNodeAddresses}
use Rattle.mr_servers.proofs.solo.addresses_of.Given as goal

-- the texts so far have theirs
abbrev pub invariant-loop-text : goal.invariant-loop-text
invariant-loop-text l = GivesNodeAddresses (map (λ text. text.now) (take l.text-index l.texts)) l.addresses.items
