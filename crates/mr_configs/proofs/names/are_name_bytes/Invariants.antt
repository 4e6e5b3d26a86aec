use Rattle.std.proofs.Common.{◌≡◌, drop}
use Rattle.mr_configs.specs.Pools.{are_name_bytes}
use Rattle.mr_configs.proofs.names.are_name_bytes.Given as goal

abbrev pub invariant-loop-byte : goal.invariant-loop-byte
invariant-loop-byte l = are_name_bytes l.name ≡ are_name_bytes (drop l.byte-index l.name)
