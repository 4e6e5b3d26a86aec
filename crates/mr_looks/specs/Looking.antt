-- A look: the nodes that it sees, and the services that it asks.
use Rattle.std.specs.Prelude.{◌≡◌, ℕ, ◌+◌, List, [], ◌∷◌, ◌++◌, map, All, Some, IfSome}
use Rattle.std.specs.List.{AllZip}
use Rattle.mr_watch.specs.Told.{NodeSaid}
use Rattle.mr_watch.specs.declared.look.NodeSeen.{NodeSeen}
use Rattle.mr_looks.specs.Posts.{IsAskedAsOther, IsAskedAsProxy, begun, node_among}
use Rattle.mr_looks.specs.declared.posts.Post.{Post}

-- a node, by the number of its pool and by its name
pub record NodeNamed : Type 0 where
  pub pool : ℕ
  pub name : List ℕ

-- a node of this pool and this name
abbrev pub node_named : ℕ → List ℕ → NodeNamed
node_named pool name = record { pool = pool; name = name }

-- the nodes of a pool of this number
abbrev pub nodes_of_pool : ℕ → List (List ℕ) → List NodeNamed
nodes_of_pool number names = map (node_named number) names

-- the nodes of pools, the first of which has this number
abbrev pub nodes_from : ℕ → List (List (List ℕ)) → List NodeNamed
nodes_from number [] = []
nodes_from number (pool ∷ pools) = nodes_of_pool number pool ++ nodes_from (number + 1) pools

-- the nodes of all pools of a configuration, in its order
abbrev pub nodes_of_pools : List (List (List ℕ)) → List NodeNamed
nodes_of_pools pools = nodes_from 0 pools

-- which node was seen
abbrev pub named : NodeSeen → NodeNamed
named node = node_named node.pool node.name.now

-- which nodes were seen
abbrev pub all_named : List NodeSeen → List NodeNamed
all_named nodes = map named nodes

-- it was seen with the counts that it told
abbrev pub HasCounts : NodeSaid → NodeSeen → Type 0
HasCounts told node = (node.items ≡ Some told.items) × (node.hits ≡ Some told.hits)

-- a node that one of the services is was seen with the counts that this service told
abbrev pub HasCountsToldBy : List Post → NodeSeen → Type 0
HasCountsToldBy posts node = IfSome (node_among node.name.now posts) (λ told. HasCounts told node)

-- A look at these services, which saw these nodes and left the services so: those that aren't known to be proxies were asked, the
-- nodes were seen, and then those that are known to be proxies were asked.
pub record HasLookedAt (before : List Post) (nodes : List NodeSeen) (now : List Post) : Type 0 where
  pub between : List Post
  pub others : AllZip IsAskedAsOther (map begun before) between
  pub counts : All (HasCountsToldBy between) nodes
  pub proxies : AllZip IsAskedAsProxy between now
