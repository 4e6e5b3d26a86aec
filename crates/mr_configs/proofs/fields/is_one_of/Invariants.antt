use Rattle.std.proofs.Common.{◌≡◌, map, drop}
use Rattle.mr_configs.specs.Fields.{is_one_of}
use Rattle.mr_configs.proofs.fields.is_one_of.Given as goal

abbrev pub invariant-loop-known : goal.invariant-loop-known
invariant-loop-known l =
    is_one_of (map (λ known. known.now) l.keys) l.key ≡ is_one_of (map (λ known. known.now) (drop l.known-index l.keys)) l.key
