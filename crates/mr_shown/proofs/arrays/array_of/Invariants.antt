use Rattle.std.proofs.Common.{◌≡◌, map, take}
use Rattle.serde_json.specs.View.{view}
use Rattle.mr_shown.proofs.arrays.array_of.Given as goal

abbrev pub invariant-loop-one : goal.invariant-loop-one
invariant-loop-one g l = map view l.values.items ≡ map (g.T.Shown.json l.fn.style) (take l.one-index l.all)
