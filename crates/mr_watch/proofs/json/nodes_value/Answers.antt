use Rattle.std.proofs.Common.{◌≡◌, map, arith, refl}
use Rattle.std.proofs.lemmas.Grind.{common_steps}
use Rattle.serde_json.proofs.Views.{view-Array}
use Rattle.serde_json.specs.View.{view}
use Rattle.mr_watch.specs.Json.{node_json}
use Rattle.mr_watch.proofs.json.nodes_value.Goals as goal

pub returns : goal.returns
returns c =
    let all : map view c.loop-node.values.items ≡ map node_json c.args.nodes.now = grind (arith, common_steps, c.loop-node.invariant) in
    rw (view-Array, all) refl
