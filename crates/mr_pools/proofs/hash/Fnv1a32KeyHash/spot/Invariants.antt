use Rattle.std.proofs.Common.{◌≡◌, take}
use Rattle.mr_pools.specs.Hash.{fnv1a32_of}
use Rattle.mr_pools.proofs.hash.Fnv1a32KeyHash.spot.Given as goal

abbrev pub invariant-loop-byte : goal.invariant-loop-byte
invariant-loop-byte l = l.hash ≡ fnv1a32_of (take l.byte-index l.byte-items)
