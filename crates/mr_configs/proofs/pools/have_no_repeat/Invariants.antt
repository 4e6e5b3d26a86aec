use Rattle.std.proofs.Common.{◌≡◌, map, drop}
use Rattle.serde_json.specs.View.{view}
use Rattle.mr_configs.specs.Pools.{names_in, have_no_repeat}
use Rattle.mr_configs.proofs.pools.have_no_repeat.Given as goal

abbrev pub invariant-loop-index : goal.invariant-loop-index
invariant-loop-index l = have_no_repeat (names_in (map view l.values)) ≡ have_no_repeat (names_in (map view (drop l.index l.values)))
