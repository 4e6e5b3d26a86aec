-- What nodes hold at the beginning, the least interval, and the names of nodes.
use Rattle.std.proofs.Common.{◌≡◌, ℕ, zero, suc, ◌<◌, ◌≤◌, min, inl, inr, List, [], ◌∷◌, ◌++◌, length, fold, Bool, true, false, nat_lt, bytes_eq, slice_get, pos, Option, Some, None, if◌then◌else◌, refl, sym, ap, subst, ◌∙◌, arith}
use Rattle.std.proofs.lemmas.Slice.Eq.{bytes_eq-Decides}
use Rattle.mr_history.specs.Places.{At}
use Rattle.mr_join.specs.declared.leg_reply.LegReply.{LegReply}
use Rattle.mr_join.specs.declared.leg_reply.LegReply.TheVariants.{Stored}
use Rattle.mr_node.specs.declared.command.NodeCommand.{NodeCommand}
use Rattle.mr_node.specs.declared.command.NodeCommand.TheVariants.{Set}
use Rattle.mr_node.specs.CacheStep.{Datum, Holds, CacheStep, contents_of}
use Rattle.mr_node.specs.Recency.{CacheView, RecencyStep}
use Rattle.mr_phases.specs.Schedule.{least_interval}
use Rattle.mr_pools.specs.Routing.{RoutingView}
use Rattle.mr_world.specs.declared.node.Node.{Node}
use Rattle.mr_world.specs.declared.setup.HeldItem.{HeldItem}
use Rattle.mr_world.specs.declared.setup.ProxySetup.{ProxySetup}
use Rattle.mr_world.specs.Lists.{Has}
use Rattle.mr_world.specs.Positions.{node_number}
use Rattle.mr_world.specs.Setup.{SetupView, empty_node, with_name, with_pool, with_routing, nodes_of, with_item, hold_at, hold, nodes_at_first, least_interval_from, least_interval_of}
use Rattle.mr_world.proofs.Lists.{test_holds, at_there, has_head, has_tail, has_none, has_cases, has_one, has_set}

-- the node of a name has that name
number_named : (nodes : List Node) (name : List ℕ) (node : Node) → slice_get nodes (node_number nodes name) ≡ Some node → node.name ≡ name
number_named nodes name node e =
    (bytes_eq-Decides node.name name).0 (test_holds (λ (x : Node). bytes_eq x.name name) nodes node e)

-- two numbers of nodes that are there tell their names
pub same_name : (nodes : List Node) (one other : List ℕ) → node_number nodes one < length nodes → node_number nodes one ≡ node_number nodes other → one ≡ other
same_name nodes one other below same =
    let (node, there) = at_there nodes (node_number nodes one) below in
    let is_other : slice_get nodes (node_number nodes other) ≡ Some node = subst (λ k. slice_get nodes k ≡ Some node) same there.gets in
    sym (number_named nodes one node there.gets) ∙ number_named nodes other node is_other

-- the least interval

least_first : (least : ℕ) (proxies : List ProxySetup) → least_interval_from least proxies ≤ least
least_first least [] = omega arith
least_first least (x ∷ proxies) =
    let later = least_first (min least (least_interval x.schedule)) proxies in
    omega (arith, later)

least_rest : (least : ℕ) (proxies : List ProxySetup) (place : ℕ) (proxy : ProxySetup) → slice_get proxies place ≡ Some proxy
    → least_interval_from least proxies ≤ least_interval proxy.schedule
least_rest least [] place proxy e = cc
least_rest least (x ∷ proxies) zero proxy e =
    let same : x ≡ proxy = cc in
    let later = least_first (min least (least_interval x.schedule)) proxies in
    subst (λ (y : ProxySetup). least_interval_from (min least (least_interval x.schedule)) proxies ≤ least_interval y.schedule) same (omega (arith, later))
least_rest least (x ∷ proxies) (suc place) proxy e = least_rest (min least (least_interval x.schedule)) proxies place proxy e

-- no proxy's interval is less
pub least_below : (proxies : List ProxySetup) (place : ℕ) (proxy : ProxySetup) → slice_get proxies place ≡ Some proxy → least_interval_of proxies ≤ least_interval proxy.schedule
least_below [] place proxy e = cc
least_below (x ∷ proxies) zero proxy e =
    let same : x ≡ proxy = cc in
    subst (λ (y : ProxySetup). least_interval_from (least_interval x.schedule) proxies ≤ least_interval y.schedule) same (least_first (least_interval x.schedule) proxies)
least_below (x ∷ proxies) (suc place) proxy e = least_rest (least_interval x.schedule) proxies place proxy e

-- what nodes hold at the beginning

-- a step on a list of items is one on its map
abbrev pub CacheLaw : Type 0
CacheLaw = (old new : CacheView) (now : ℕ) (command : NodeCommand) (reply : LegReply) → RecencyStep old now command reply new
    → CacheStep (contents_of old.items) command reply (contents_of new.items)

-- an item of this key and datum was held by the node of this name
pub record WasHeld (held : List HeldItem) (name key : List ℕ) (datum : Datum) : Type 0 where
  pub item : HeldItem
  pub has : Has held item
  pub at_node : item.node ≡ name
  pub of_key : item.key ≡ key
  pub is : datum ≡ record { flags = item.flags; block = item.block }

-- each node holds only what was held by the node of its name
abbrev HoldsHeld : List HeldItem → List Node → Type 0
HoldsHeld held nodes = (node : Node) → Has nodes node → (key : List ℕ) (datum : Datum) → Holds (contents_of node.cache.items) key datum → WasHeld held node.name key datum

fold_keeps : {X : Type 0} (held : List HeldItem) (f : List Node → X → List Node) → ((nodes : List Node) (x : X) → HoldsHeld held nodes → HoldsHeld held (f nodes x))
    → (xs : List X) (nodes : List Node) → HoldsHeld held nodes → HoldsHeld held (fold f nodes xs)
fold_keeps held f keep [] nodes h = h
fold_keeps held f keep (x ∷ xs) nodes h = fold_keeps held f keep xs (f nodes x) (keep nodes x h)

-- an empty node holds nothing
empty_holds : (held : List HeldItem) (capacity : ℕ) (name : List ℕ) (node : Node) → node ≡ empty_node capacity name → (key : List ℕ) (datum : Datum)
    → Holds (contents_of node.cache.items) key datum → WasHeld held node.name key datum
empty_holds held capacity name node same key datum holds =
    let nothing : contents_of node.cache.items key ≡ None = ap (λ (x : Node). contents_of x.cache.items key) same in
    cc

name_keeps_if : (held : List HeldItem) (capacity : ℕ) (nodes : List Node) (name : List ℕ) (b : Bool) → HoldsHeld held nodes
    → HoldsHeld held (if b then nodes else nodes ++ empty_node capacity name ∷ [])
name_keeps_if held capacity nodes name true h = h
name_keeps_if held capacity nodes name false h = λ node has.
    elim (has_cases nodes (empty_node capacity name ∷ []) has) [
      | inl old ↦ h node old
      | inr new ↦ empty_holds held capacity name node (has_one new)
    ]

name_keeps : (held : List HeldItem) (capacity : ℕ) (nodes : List Node) (name : List ℕ) → HoldsHeld held nodes → HoldsHeld held (with_name capacity nodes name)
name_keeps held capacity nodes name h = name_keeps_if held capacity nodes name (nat_lt (node_number nodes name) (length nodes)) h

pool_keeps : (held : List HeldItem) (capacity : ℕ) (nodes : List Node) (pool : List (List ℕ)) → HoldsHeld held nodes → HoldsHeld held (with_pool capacity nodes pool)
pool_keeps held capacity nodes pool h = fold_keeps held (with_name capacity) (λ before name. name_keeps held capacity before name) pool nodes h

routing_keeps : (held : List HeldItem) (capacity : ℕ) (nodes : List Node) (routing : RoutingView) → HoldsHeld held nodes → HoldsHeld held (with_routing capacity nodes routing)
routing_keeps held capacity nodes routing h = fold_keeps held (with_pool capacity) (λ before pool. pool_keeps held capacity before pool) routing.pools nodes h

nodes_hold : (held : List HeldItem) (capacity : ℕ) (proxies : List ProxySetup) → HoldsHeld held (nodes_of capacity proxies)
nodes_hold held capacity proxies =
    fold_keeps held (λ nodes proxy. with_routing capacity nodes proxy.routing) (λ before proxy. routing_keeps held capacity before proxy.routing) proxies []
    (λ node has. has_none has)

-- the node in which an item is put holds that, and what it held
item_holds : CacheLaw → (held : List HeldItem) (node : Node) (item : HeldItem) → Has held item → node.name ≡ item.node
    → ((key : List ℕ) (datum : Datum) → Holds (contents_of node.cache.items) key datum → WasHeld held node.name key datum)
    → (key : List ℕ) (datum : Datum) → Holds (contents_of (with_item item node).cache.items) key datum → WasHeld held node.name key datum
item_holds law held node item has named old key datum holds =
    let step : RecencyStep node.cache 0 (Set item.key item.flags (pos 0) item.block) Stored (with_item item node).cache = record { answers = refl; leaves = refl } in
    elim (law _ _ _ _ _ step key datum holds) [
      | inl put ↦ record { item = item; has = has; at_node = sym named; of_key = sym put.0; is = put.1 }
      | inr kept ↦ old key datum kept.1
    ]

hold_keeps_at : CacheLaw → (held : List HeldItem) (nodes : List Node) (number : ℕ) (item : HeldItem) (o : Option Node) → slice_get nodes number ≡ o
    → ((node : Node) → o ≡ Some node → node.name ≡ item.node) → Has held item → HoldsHeld held nodes → HoldsHeld held (hold_at nodes number item o)
hold_keeps_at law held nodes number item None e named has h = h
hold_keeps_at law held nodes number item (Some node) e named has h = λ x there.
    elim (has_set nodes number (with_item item node) there) [
      | inl new ↦
          subst (λ (y : Node). (key : List ℕ) (datum : Datum) → Holds (contents_of y.cache.items) key datum → WasHeld held y.name key datum) (sym new)
          (item_holds law held node item has (named node refl) (h node (record { place = number; there = record { gets = e } })))
      | inr old ↦ h x old
    ]

hold_keeps : CacheLaw → (held : List HeldItem) (nodes : List Node) (item : HeldItem) → Has held item → HoldsHeld held nodes → HoldsHeld held (hold nodes item)
hold_keeps law held nodes item has h =
    hold_keeps_at law held nodes (node_number nodes item.node) item (slice_get nodes (node_number nodes item.node)) refl
    (λ node e. number_named nodes item.node node e) has h

holds_keep : CacheLaw → (held : List HeldItem) (items : List HeldItem) (nodes : List Node) → ((item : HeldItem) → Has items item → Has held item)
    → HoldsHeld held nodes → HoldsHeld held (fold hold nodes items)
holds_keep law held [] nodes among h = h
holds_keep law held (x ∷ items) nodes among h =
    holds_keep law held items (hold nodes x) (λ item has. among item (has_tail x has)) (hold_keeps law held nodes x (among x (has_head x items)) h)

-- what a node holds at the beginning was held in the setup, by the node of that name
pub held_at_first : CacheLaw → (setup : SetupView) (name : List ℕ) (node : Node) (key : List ℕ) (datum : Datum)
    → At (nodes_at_first setup) (node_number (nodes_at_first setup) name) node → Holds (contents_of node.cache.items) key datum → WasHeld setup.held name key datum
held_at_first law setup name node key datum there holds =
    let nodes = nodes_at_first setup in
    let all : HoldsHeld setup.held nodes =
    holds_keep law setup.held setup.held (nodes_of setup.capacity setup.proxies) (λ item has. has) (nodes_hold setup.held setup.capacity setup.proxies) in
    subst (λ (n : List ℕ). WasHeld setup.held n key datum) (number_named nodes name node there.gets)
    (all node (record { place = node_number nodes name; there = there }) key datum holds)
