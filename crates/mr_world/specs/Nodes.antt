-- The nodes of a fleet, and what one of them does.
use Rattle.std.specs.Prelude.{◌≡◌, ℕ, List, [], String, position, bytes_eq, slice_set}
use Rattle.std.specs.BTreeMap.{BTreeMap, get_by_text}
use Rattle.mr_join.specs.declared.leg_reply.LegReply.{LegReply}
use Rattle.mr_node.specs.declared.command.NodeCommand.{NodeCommand}
use Rattle.mr_node.specs.Recency.{CacheView, RecencyStep}
use Rattle.mr_history.specs.Places.{At}
use Rattle.mr_world.specs.declared.node.Node.{Node}

-- the map has the number of the node of each name, and nothing of any other name
abbrev pub KnowsNumbers : {Y : Type 0} → BTreeMap (String Y) ℕ → List Node → Type 0
KnowsNumbers numbers nodes = (name : List ℕ) → get_by_text numbers name ≡ position (λ node. bytes_eq node.name name) nodes

-- the node of the number does the step of the command, and nothing else changes
pub record PerformsAt (old : List Node) (number now : ℕ) (command : NodeCommand) (reply : LegReply) (new : List Node) : Type 0 where
  pub node : Node
  pub there : At old number node
  pub left : CacheView
  pub step : RecencyStep node.cache now command reply left
  pub becomes : new ≡ slice_set old number (record { name = node.name; cache = left })

-- the node of the number keeps nothing any more, and nothing else changes
pub record EmptiesAt (old : List Node) (number : ℕ) (new : List Node) : Type 0 where
  pub node : Node
  pub there : At old number node
  pub becomes : new ≡ slice_set old number (record { name = node.name; cache = record node.cache { items = [] } })
