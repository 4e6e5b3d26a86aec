use Rattle.std.proofs.Common.{◌≡◌, ◌++◌, map, drop}
use Rattle.serde_json.specs.View.{view}
use Rattle.mr_watch.specs.Json.{node_json}
use Rattle.mr_watch.proofs.json.nodes_value.Given as goal

abbrev pub invariant-loop-node : goal.invariant-loop-node
invariant-loop-node l = map view l.values.items ++ map node_json (drop l.node-index l.nodes) ≡ map node_json l.nodes
