-- A fleet as it is made is in order.
use Rattle.std.proofs.Common.{◌≡◌, ◌↔◌, ℕ, zero, suc, ◌+◌, ◌<◌, ◌≤◌, Bool, true, false, not, cond, nat_lt, take, List, [], ◌∷◌, ◌++◌, length, map, fold, All, bytes_eq, slice_get, Option, Some, None, if◌then◌else◌, refl, sym, ap, subst, ◌∙◌, arith}
use Rattle.std.proofs.lemmas.List.{length-map}
use Rattle.std.proofs.lemmas.Option.{slice_get-get_or, get_or_from_slice_get}
use Rattle.std.proofs.lemmas.Slice.Eq.{bytes_eq-Decides}
use borrow.Author.Tests.{ltb-true}
use Rattle.mr_clock.specs.Readings.{AreWithin, spread_of}
use Rattle.mr_history.specs.declared.entry.Entry.{Entry}
use Rattle.mr_history.specs.History.{IsWellFormed, WasIssued, Fits}
use Rattle.mr_history.specs.Places.{At}
use Rattle.mr_pools.specs.Names.{HasNode, name_at}
use Rattle.mr_pools.specs.Routing.{RoutingView, pool_of}
use Rattle.mr_proxy.specs.ProxyView.{ProxyView, fresh_proxy}
use Rattle.mr_proxy.specs.Sound.{IsSound}
use Rattle.mr_world.specs.declared.node.Node.{Node}
use Rattle.mr_world.specs.declared.setup.HeldItem.{HeldItem}
use Rattle.mr_world.specs.declared.setup.ProxySetup.{ProxySetup}
use Rattle.mr_world.specs.Setup.{SetupView, with_name, with_pool, with_routing, nodes_of, with_item, hold, hold_at, held_entry, proxies_from, empty_node, Begins}
use Rattle.mr_world.specs.Positions.{node_number}
use Rattle.mr_world.specs.Tracked.{IsTracked}
use Rattle.mr_world.specs.WorldView.{WorldView}
use Rattle.mr_world.specs.Lists.{Has}
use Rattle.mr_world.proofs.Lists.{at_none, at_within, has_map, has_none, length_set}
use Rattle.mr_world.proofs.TrackedLemmas.{number_written}

-- a node of the name is among the nodes
abbrev pub IsThere : List ℕ → List Node → Type 0
IsThere name nodes = node_number nodes name < length nodes

-- once there, a name stays while nodes are added
there_kept : (name : List ℕ) (nodes : List Node) (node : Node) → IsThere name nodes → node_number (nodes ++ node ∷ []) name ≡ node_number nodes name
there_kept name [] node h = absurd (omega arith)
there_kept name (x ∷ nodes) node h =
    elim (bytes_eq x.name name) as (λ b. cond (not b) (1 + node_number nodes name) 0 < suc (length nodes)
    → cond (not b) (1 + node_number (nodes ++ node ∷ []) name) 0 ≡ cond (not b) (1 + node_number nodes name) 0) [
      | true ↦ λ _. refl
      | false ↦ λ below. ap (λ n. 1 + n) (there_kept name nodes node (omega arith))
    ] h

pub length_pushed : {X : Type 0} (xs : List X) (x : X) → length (xs ++ x ∷ []) ≡ length xs + 1
length_pushed [] x = refl
length_pushed (y ∷ xs) x = let later = length_pushed xs x in omega arith

there_added_if : (capacity : ℕ) (nodes : List Node) (added name : List ℕ) (b : Bool) → IsThere name nodes
    → IsThere name (if b then nodes else nodes ++ empty_node capacity added ∷ [])
there_added_if capacity nodes added name true h = h
there_added_if capacity nodes added name false h =
    let same = there_kept name nodes (empty_node capacity added) h in
    let longer = length_pushed nodes (empty_node capacity added) in
    omega arith

there_added : (capacity : ℕ) (name : List ℕ) (nodes : List Node) (added : List ℕ) → IsThere name nodes → IsThere name (with_name capacity nodes added)
there_added capacity name nodes added h = there_added_if capacity nodes added name (nat_lt (node_number nodes added) (length nodes)) h

-- a name that is added is there
last_there : (capacity : ℕ) (name : List ℕ) (nodes : List Node) → IsThere name (nodes ++ empty_node capacity name ∷ [])
last_there capacity name [] =
    let same : bytes_eq name name ≡ true = (bytes_eq-Decides name name).1 refl in
    rw same (omega arith)
last_there capacity name (x ∷ nodes) =
    let later = last_there capacity name nodes in
    elim (bytes_eq x.name name) as (λ b. cond (not b) (1 + node_number (nodes ++ empty_node capacity name ∷ []) name) 0 < suc (length (nodes ++ empty_node capacity name ∷ []))) [
      | true ↦ omega arith
      | false ↦ omega arith
    ]

there_new_if : (capacity : ℕ) (name : List ℕ) (nodes : List Node) (b : Bool) → nat_lt (node_number nodes name) (length nodes) ≡ b
    → IsThere name (if b then nodes else nodes ++ empty_node capacity name ∷ [])
there_new_if capacity name nodes true e = ltb-true _ _ e
there_new_if capacity name nodes false e = last_there capacity name nodes

there_new : (capacity : ℕ) (name : List ℕ) (nodes : List Node) → IsThere name (with_name capacity nodes name)
there_new capacity name nodes = there_new_if capacity name nodes (nat_lt (node_number nodes name) (length nodes)) refl

-- folds that keep it, and that reach it
fold_keeps : {X : Type 0} (name : List ℕ) (f : List Node → X → List Node) → ((nodes : List Node) (x : X) → IsThere name nodes → IsThere name (f nodes x))
    → (xs : List X) (nodes : List Node) → IsThere name nodes → IsThere name (fold f nodes xs)
fold_keeps name f keep [] nodes h = h
fold_keeps name f keep (x ∷ xs) nodes h = fold_keeps name f keep xs (f nodes x) (keep nodes x h)

fold_reaches : {X : Type 0} (name : List ℕ) (f : List Node → X → List Node) → ((nodes : List Node) (x : X) → IsThere name nodes → IsThere name (f nodes x))
    → (xs : List X) (nodes : List Node) (i : ℕ) (y : X) → slice_get xs i ≡ Some y → ((nodes : List Node) → IsThere name (f nodes y)) → IsThere name (fold f nodes xs)
fold_reaches name f keep [] nodes i y e new = cc
fold_reaches name f keep (x ∷ xs) nodes zero y e new =
    let same : x ≡ y = cc in
    fold_keeps name f keep xs (f nodes x) (subst (λ z. IsThere name (f nodes z)) (sym same) (new nodes))
fold_reaches name f keep (x ∷ xs) nodes (suc i) y e new = fold_reaches name f keep xs (f nodes x) i y e new

pool_keeps : (capacity : ℕ) (name : List ℕ) (nodes : List Node) (pool : List (List ℕ)) → IsThere name nodes → IsThere name (with_pool capacity nodes pool)
pool_keeps capacity name nodes pool h = fold_keeps name (with_name capacity) (λ nodes x. there_added capacity name nodes x) pool nodes h

pool_reaches : (capacity : ℕ) (name : List ℕ) (nodes : List Node) (pool : List (List ℕ)) (i : ℕ) → slice_get pool i ≡ Some name → IsThere name (with_pool capacity nodes pool)
pool_reaches capacity name nodes pool i e =
    fold_reaches name (with_name capacity) (λ nodes x. there_added capacity name nodes x) pool nodes i name e (λ nodes. there_new capacity name nodes)

routing_keeps : (capacity : ℕ) (name : List ℕ) (nodes : List Node) (routing : RoutingView) → IsThere name nodes → IsThere name (with_routing capacity nodes routing)
routing_keeps capacity name nodes routing h = fold_keeps name (with_pool capacity) (λ nodes x. pool_keeps capacity name nodes x) routing.pools nodes h

routing_reaches : (capacity : ℕ) (nodes : List Node) (routing : RoutingView) (pool index : ℕ) → HasNode routing pool index
    → IsThere (name_at routing pool index) (with_routing capacity nodes routing)
routing_reaches capacity nodes routing pool index has =
    let name = name_at routing pool index in
    fold_reaches name (with_pool capacity) (λ nodes x. pool_keeps capacity name nodes x) routing.pools nodes pool (pool_of routing pool)
    (slice_get-get_or routing.pools pool [] has.pool)
    (λ nodes. pool_reaches capacity name nodes (pool_of routing pool) index (slice_get-get_or (pool_of routing pool) index [] has.within))

pub nodes_reach : (capacity : ℕ) (proxies : List ProxySetup) (place : ℕ) (proxy : ProxySetup) (pool index : ℕ) → slice_get proxies place ≡ Some proxy
    → HasNode proxy.routing pool index → IsThere (name_at proxy.routing pool index) (nodes_of capacity proxies)
nodes_reach capacity proxies place proxy pool index e has =
    let name = name_at proxy.routing pool index in
    fold_reaches name (λ nodes x. with_routing capacity nodes x.routing) (λ nodes x. routing_keeps capacity name nodes x.routing) proxies [] place proxy e
    (λ nodes. routing_reaches capacity nodes proxy.routing pool index has)

hold_keeps_at : (name : List ℕ) (nodes : List Node) (number : ℕ) (item : HeldItem) (o : Option Node) → slice_get nodes number ≡ o → IsThere name nodes
    → IsThere name (hold_at nodes number item o)
hold_keeps_at name nodes number item None e h = h
hold_keeps_at name nodes number item (Some node) e h =
    let same = number_written nodes number node (with_item item node) name e refl in
    let count = length_set nodes number (with_item item node) in
    omega arith

hold_keeps : (name : List ℕ) (nodes : List Node) (item : HeldItem) → IsThere name nodes → IsThere name (hold nodes item)
hold_keeps name nodes item h = hold_keeps_at name nodes (node_number nodes item.node) item (slice_get nodes (node_number nodes item.node)) refl h

-- the proxies by number
pub proxy_from : (number : ℕ) (proxies : List ProxySetup) (place : ℕ) (p : ProxyView) → slice_get (proxies_from number proxies) place ≡ Some p
    → (proxy : ProxySetup) × (slice_get proxies place ≡ Some proxy) × (p ≡ fresh_proxy (number + place) 0 proxy.routing proxy.schedule proxy.room)
proxy_from number [] place p e = cc
proxy_from number (x ∷ proxies) zero p e =
    let here : number + 0 ≡ number = omega arith in
    (x, refl, rw here (let is : fresh_proxy number 0 x.routing x.schedule x.room ≡ p = cc in sym is))
proxy_from number (x ∷ proxies) (suc place) p e =
    let (proxy, there, is) = proxy_from (number + 1) proxies place p e in
    let later : number + 1 + place ≡ number + suc place = omega arith in
    (proxy, there, subst (λ n. p ≡ fresh_proxy n 0 proxy.routing proxy.schedule proxy.room) later is)

length_from : (number : ℕ) (proxies : List ProxySetup) → length (proxies_from number proxies) ≡ length proxies
length_from number [] = refl
length_from number (x ∷ proxies) = ap suc (length_from (number + 1) proxies)

-- held entries fit, and issue nothing
held_formed : (items : List HeldItem) → IsWellFormed (map held_entry items)
held_formed items = record {
  fits = λ place e there.
      let (item, has, is) = has_map held_entry items (record { place = place; there = there }) in
      subst (λ (x : Entry). Fits (take place (map held_entry items)) x) (sym is) tt;
}

not_issued : (items : List HeldItem) {op : _} → WasIssued (map held_entry items) op → ⊥
not_issued items was =
    let (item, has, is) = has_map held_entry items (record { place = was.place; there = was.issued.there }) in
    cc

pub begin_tracked : ((most : ℕ) (readings : List ℕ) → (spread_of readings ≤ most) ↔ AreWithin most readings) → (setup : SetupView) (w : WorldView) → Begins setup w → All IsSound w.proxies → IsTracked w
begin_tracked law setup w b sound = record {
  clocks = ap (λ r. length r.standing) b.readings ∙ length-map setup.proxies (λ proxy. proxy.reading) ∙ sym (length_from 0 setup.proxies) ∙ sym (ap length b.proxies);
  within = (law w.readings.spread w.readings.standing).0
      (let r = b.readings in let same : w.readings.spread ≡ spread_of w.readings.standing = ap (λ x. x.spread) r ∙ sym (ap (λ x. spread_of x.standing) r) in omega arith);
  proxies = λ k p there.
      let below = at_within there in
      let sound_here : IsSound p = subst IsSound (get_or_from_slice_get w.proxies k p p there.gets) (sound k p below) in
      let (proxy, at, is) = proxy_from 0 setup.proxies k p (subst (λ l. slice_get l k ≡ Some p) b.proxies there.gets) in
      record {
        number = ap (λ (x : ProxyView). x.number) is ∙ (let none : 0 + k ≡ k = omega arith in none);
        sound = sound_here;
        named = λ pool index has.
            let has' : HasNode proxy.routing pool index = subst (λ (x : ProxyView). HasNode x.routing pool index) is has in
            let name = name_at proxy.routing pool index in
            let first = nodes_reach setup.capacity setup.proxies k proxy pool index at has' in
            let kept = fold_keeps name hold (λ nodes item. hold_keeps name nodes item) setup.held (nodes_of setup.capacity setup.proxies) first in
            let here : IsThere name w.nodes = subst (IsThere name) (sym b.nodes) kept in
            subst (λ (x : ProxyView). IsThere (name_at x.routing pool index) w.nodes) (sym is) here;
      };
  sent = λ k m there. at_none (subst (λ l. At l k m) b.sent there);
  goes = λ k m there. at_none (subst (λ l. At l k m) b.sent there);
  hops = λ one other has. absurd (has_none (subst (λ l. Has l one) b.sent has));
  replies = λ k d there. at_none (subst (λ l. At l k d) b.replies there);
  formed = subst IsWellFormed (sym b.history) (held_formed setup.held);
  given_out = λ op was. absurd (not_issued setup.held (subst (λ h. WasIssued h op) b.history was));
  waiting = λ pending w'.
      let (proxy, at, is) = proxy_from 0 setup.proxies w'.number w'.proxy (subst (λ l. slice_get l w'.number ≡ Some w'.proxy) b.proxies w'.home.gets) in
      at_none (subst (λ (x : ProxyView). At x.outstanding w'.place pending) is w'.there);
}
