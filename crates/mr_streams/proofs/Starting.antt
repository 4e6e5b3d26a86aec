-- Streams to which nothing happened yet mirror a world to which nothing happened yet.
use Rattle.std.proofs.Common.{◌≡◌, ℕ, zero, suc, ◌+◌, ◌<◌, ◌≤◌, inl, inr, Bool, true, false, cond, not, All, List, [], ◌∷◌, ◌++◌, length, slice_get, slice_set, replicate, Option, Some, None, if◌then◌else◌, refl, sym, ap, ◌∙◌, subst, arith, nat_lt, ltb-false, eq-eqb, ne_eqb, eqb}
use Rattle.std.specs.Prelude.{pos, bytes_eq, fold}
use Rattle.std.specs.List.{AllByRecursion}
use Rattle.std.proofs.lemmas.List.Elements.{recursion_from_All}
use Rattle.std.proofs.lemmas.List.Folds.{position_or_len_push}
use Rattle.std.proofs.lemmas.List.Sums.{prefix_len-le-length}
use Rattle.std.proofs.lemmas.Option.{slice_get_within, get_or_from_slice_get}
use Rattle.std.proofs.lemmas.Slice.Eq.{bytes_eq-Decides}
use Rattle.mr_history.specs.Places.{At}
use Rattle.mr_pools.specs.Routing.{RoutingView}
use Rattle.mr_proxy.specs.ProxyView.{ProxyView, fresh_proxy}
use Rattle.mr_loop.specs.Counts.{no_link_counts}
use Rattle.mr_loop.specs.Links.{down_link}
use Rattle.mr_loop.specs.LoopView.{LoopView, nodes_of as links_of}
use Rattle.mr_loop.specs.declared.link.Link.{Link}
use Rattle.mr_world.specs.Headline.{IsPlan}
use Rattle.mr_world.specs.Positions.{node_number}
use Rattle.mr_world.specs.Setup.{SetupView, Begins, proxies_from, nodes_of, with_name, with_pool, with_routing, empty_node, hold, hold_at, with_item}
use Rattle.mr_world.specs.WorldView.{WorldView}
use Rattle.mr_world.specs.declared.node.Node.{Node}
use Rattle.mr_world.specs.declared.setup.HeldItem.{HeldItem}
use Rattle.mr_world.specs.declared.setup.ProxySetup.{ProxySetup}
use Rattle.mr_streams.specs.Flows.{AreOf}
use Rattle.mr_streams.specs.Headline.{Starts, IsFreshLoop, HasText}
use Rattle.mr_streams.specs.Kept.{AreTellable}
use Rattle.mr_streams.specs.Refines.{Tells}
use Rattle.mr_streams.specs.StreamsView.{StreamsView, Connection, cores_of, world_nodes}
use Rattle.mr_streams.proofs.Caches.{put_kept}
use Rattle.mr_streams.proofs.Changing.{numbered_still}
use Rattle.mr_streams.proofs.Lists.{at_last, at_map, at_nothing, at_replicate, at_set}
use Rattle.mr_streams.proofs.Mirrors.{MirrorsStreams}

-- each node's number is the one that its name has, and what it holds can be told of
record IsFleet (nodes : List Node) : Type 0 where
  named : (n : ℕ) (node : Node) → At nodes n node → node_number nodes node.name ≡ n
  tellable : (n : ℕ) (node : Node) → At nodes n node → AreTellable node.cache.items

named_push : (nodes : List Node) (y : Node) (name : List ℕ) → node_number (nodes ++ y ∷ []) name
    ≡ cond (eqb (node_number nodes name) (length nodes)) (length nodes + cond (bytes_eq y.name name) 0 1) (node_number nodes name)
named_push nodes y name = position_or_len_push (λ (node : Node). bytes_eq node.name name) nodes y

cond_no : (b : Bool) (x y : ℕ) → b ≡ false → cond b x y ≡ y
cond_no true x y e = absurd (let no : true ≡ false = e in cc)
cond_no false x y e = refl

cond_yes : (b : Bool) (x y : ℕ) → b ≡ true → cond b x y ≡ x
cond_yes true x y e = refl
cond_yes false x y e = absurd (let no : false ≡ true = e in cc)

fleet_push : (capacity : ℕ) (nodes : List Node) (name : List ℕ) → IsFleet nodes → length nodes ≤ node_number nodes name → IsFleet (nodes ++ empty_node capacity name ∷ [])
fleet_push capacity nodes name f none =
    let new : Node = empty_node capacity name in
    record {
      named = λ n node h. elim (at_last nodes new h) [
        | inl old ↦ (
            let was = f.named n node old in
            let within : n < length nodes = slice_get_within nodes n node old.gets in
            let other : eqb (node_number nodes node.name) (length nodes) ≡ false = ne_eqb (node_number nodes node.name) (length nodes) (λ e. omega arith) in
            named_push nodes new node.name
            ∙ cond_no (eqb (node_number nodes node.name) (length nodes)) (length nodes + cond (bytes_eq new.name node.name) 0 1) (node_number nodes node.name) other ∙ was)
        | inr last ↦ (
            let is : node.name ≡ name = ap (λ (x : Node). x.name) last.1 in
            let most : node_number nodes name ≤ length nodes = prefix_len-le-length (λ (x : Node). not (bytes_eq x.name name)) nodes in
            let same : node_number nodes name ≡ length nodes = omega arith in
            let yes : eqb (node_number nodes name) (length nodes) ≡ true = eq-eqb (node_number nodes name) (length nodes) same in
            let zero_more : length nodes + 0 ≡ length nodes = omega arith in
            let itself : cond (bytes_eq name name) 0 1 ≡ 0 = cond_yes (bytes_eq name name) 0 1 ((bytes_eq-Decides name name).1 refl) in
            let there : length nodes + cond (bytes_eq name name) 0 1 ≡ length nodes = ap (λ k. length nodes + k) itself ∙ zero_more in
            ap (λ x. node_number (nodes ++ new ∷ []) x) is ∙ named_push nodes new name
            ∙ cond_yes (eqb (node_number nodes name) (length nodes)) (length nodes + cond (bytes_eq name name) 0 1) (node_number nodes name) yes ∙ there ∙ sym last.0)
      ];
      tellable = λ n node h. elim (at_last nodes new h) [
        | inl old ↦ f.tellable n node old
        | inr last ↦ subst (λ (x : Node). AreTellable x.cache.items) (sym last.1) tt
      ];
    }

fleet_name_if : (capacity : ℕ) (nodes : List Node) (name : List ℕ) (b : Bool) → nat_lt (node_number nodes name) (length nodes) ≡ b → IsFleet nodes
    → IsFleet (if b then nodes else nodes ++ empty_node capacity name ∷ [])
fleet_name_if capacity nodes name true e f = f
fleet_name_if capacity nodes name false e f = fleet_push capacity nodes name f (ltb-false (node_number nodes name) (length nodes) e)

fleet_name : (capacity : ℕ) (nodes : List Node) (name : List ℕ) → IsFleet nodes → IsFleet (with_name capacity nodes name)
fleet_name capacity nodes name f = fleet_name_if capacity nodes name (nat_lt (node_number nodes name) (length nodes)) refl f

fleet_fold : {X : Type 0} (f : List Node → X → List Node) → ((nodes : List Node) (x : X) → IsFleet nodes → IsFleet (f nodes x)) → (xs : List X) (nodes : List Node) → IsFleet nodes → IsFleet (fold f nodes xs)
fleet_fold f keeps [] nodes h = h
fleet_fold f keeps (x ∷ xs) nodes h = fleet_fold f keeps xs (f nodes x) (keeps nodes x h)

fleet_pool : (capacity : ℕ) (nodes : List Node) (pool : List (List ℕ)) → IsFleet nodes → IsFleet (with_pool capacity nodes pool)
fleet_pool capacity nodes pool f = fleet_fold (with_name capacity) (fleet_name capacity) pool nodes f

fleet_routing : (capacity : ℕ) (nodes : List Node) (routing : RoutingView) → IsFleet nodes → IsFleet (with_routing capacity nodes routing)
fleet_routing capacity nodes routing f = fleet_fold (with_pool capacity) (fleet_pool capacity) routing.pools nodes f

fleet_empty : (capacity : ℕ) (proxies : List ProxySetup) → IsFleet (nodes_of capacity proxies)
fleet_empty capacity proxies =
    fleet_fold (λ nodes (proxy : ProxySetup). with_routing capacity nodes proxy.routing) (λ nodes proxy f. fleet_routing capacity nodes proxy.routing f) proxies []
    (record { named = λ n node h. absurd (at_nothing h); tellable = λ n node h. absurd (at_nothing h) })

fleet_hold_at : (nodes : List Node) (number : ℕ) (item : HeldItem) (o : Option Node) → slice_get nodes number ≡ o → HasText item → IsFleet nodes → IsFleet (hold_at nodes number item o)
fleet_hold_at nodes number item None e text f = f
fleet_hold_at nodes number item (Some node) e text f =
    let new : Node = with_item item node in
    record {
      named = λ n other h. elim (at_set nodes number new h) [
        | inl is ↦ ap (λ (x : Node). node_number (slice_set nodes number new) x.name) is.1 ∙ numbered_still nodes number node new node.name e refl
            ∙ f.named number node (record { gets = e }) ∙ sym is.0
        | inr is ↦ numbered_still nodes number node new other.name e refl ∙ f.named n other is.1
      ];
      tellable = λ n other h. elim (at_set nodes number new h) [
        | inl is ↦ subst (λ (x : Node). AreTellable x.cache.items) (sym is.1)
            (put_kept node.cache.capacity 0 item.key item.flags (pos 0) item.block node.cache.items text.flags_fit text.is_block (f.tellable number node (record { gets = e })))
        | inr is ↦ f.tellable n other is.1
      ];
    }

fleet_hold : (nodes : List Node) (item : HeldItem) → HasText item → IsFleet nodes → IsFleet (hold nodes item)
fleet_hold nodes item text f = fleet_hold_at nodes (node_number nodes item.node) item (slice_get nodes (node_number nodes item.node)) refl text f

fleet_held : (items : List HeldItem) (nodes : List Node) → AllByRecursion HasText items → IsFleet nodes → IsFleet (fold hold nodes items)
fleet_held [] nodes all f = f
fleet_held (item ∷ items) nodes all f = fleet_held items (hold nodes item) all.1 (fleet_hold nodes item all.0 f)

-- the proxies by number
record IsProxyAt (proxies : List ProxySetup) (number place : ℕ) (p : ProxyView) : Type 0 where
  proxy : ProxySetup
  there : slice_get proxies place ≡ Some proxy
  number_is : p.number ≡ number + place
  routing_is : p.routing ≡ proxy.routing
  schedule_is : p.schedule ≡ proxy.schedule

proxy_at : (number : ℕ) (proxies : List ProxySetup) (place : ℕ) (p : ProxyView) → slice_get (proxies_from number proxies) place ≡ Some p → IsProxyAt proxies number place p
proxy_at number [] place p e = cc
proxy_at number (x ∷ proxies) zero p e =
    let is : p ≡ fresh_proxy number 0 x.routing x.schedule x.room = (let same : fresh_proxy number 0 x.routing x.schedule x.room ≡ p = cc in sym same) in
    let here : number ≡ number + 0 = omega arith in
    record {
      proxy = x;
      there = refl;
      number_is = ap (λ (q : ProxyView). q.number) is ∙ here;
      routing_is = ap (λ (q : ProxyView). q.routing) is;
      schedule_is = ap (λ (q : ProxyView). q.schedule) is;
    }
proxy_at number (x ∷ proxies) (suc place) p e =
    let later = proxy_at (number + 1) proxies place p e in
    let same : number + 1 + place ≡ number + suc place = omega arith in
    record { proxy = later.proxy; there = later.there; number_is = later.number_is ∙ same; routing_is = later.routing_is; schedule_is = later.schedule_is }

-- a loop that is fresh, wherever it stands
pub fresh_at : (loops : List LoopView) (number : ℕ) (loop : LoopView) → AllByRecursion IsFreshLoop loops → slice_get loops number ≡ Some loop → IsFreshLoop loop
fresh_at [] number loop all e = cc
fresh_at (x ∷ loops) zero loop all e = let same : x ≡ loop = cc in subst IsFreshLoop same all.0
fresh_at (x ∷ loops) (suc number) loop all e = fresh_at loops number loop all.1 e

pub starts_mirrored : (setup : SetupView) (s : StreamsView) (w : WorldView) → All (λ (proxy : ProxySetup). IsPlan proxy.routing proxy.schedule) setup.proxies → All HasText setup.held
    → Starts setup s → Begins setup w → MirrorsStreams w s
starts_mirrored setup s w plans texts starts begins =
    let fleet : IsFleet (world_nodes s.nodes) = subst IsFleet (sym starts.holds)
    (fleet_held setup.held (nodes_of setup.capacity setup.proxies) (recursion_from_All HasText setup.held texts) (fleet_empty setup.capacity setup.proxies)) in
    let fresh : (number : ℕ) (loop : LoopView) → At s.loops number loop → IsFreshLoop loop = λ number loop h. fresh_at s.loops number loop starts.loops h.gets in
    let at : (number : ℕ) (core : ProxyView) → At (cores_of s.loops) number core → IsProxyAt setup.proxies 0 number core = λ number core h.
    proxy_at 0 setup.proxies number core (subst (λ x. slice_get x number ≡ Some core) starts.cores h.gets) in
    let none : (i : ℕ) (c : Connection) → At s.connections i c → ⊥ = λ i c h. at_nothing (subst (λ x. At x i c) starts.connections h) in
    record {
      mirrors = record {
        readings_are = begins.readings ∙ sym starts.readings;
        cores_are = begins.proxies ∙ sym starts.cores;
        nodes_are = begins.nodes ∙ sym starts.holds;
        tells = subst (λ x. Tells w.history x) (begins.history ∙ sym starts.history) (Tells.begins w.history);
        tellable = fleet.tellable;
        named = fleet.named;
        numbers = λ number core h. (let is = at number core h in let zero_first : 0 + number ≡ number = omega arith in is.number_is ∙ zero_first);
        plans = λ number core h. (
            let is = at number core h in
            let plan : IsPlan is.proxy.routing is.proxy.schedule =
            subst (λ (x : ProxySetup). IsPlan x.routing x.schedule) (get_or_from_slice_get setup.proxies number is.proxy is.proxy is.there)
            (plans number is.proxy (slice_get_within setup.proxies number is.proxy is.there)) in
            subst (λ x. IsPlan core.routing x) (sym is.schedule_is) (subst (λ x. IsPlan x is.proxy.schedule) (sym is.routing_is) plan));
        own = λ number place links link h k. (
            let from = at_map (λ (x : LoopView). x.links) s.loops h in
            let is = fresh number from.0 from.1 in
            let all : links ≡ replicate (links_of from.0.front.core.routing) (down_link no_link_counts) = from.2 ∙ ap (λ (x : LoopView). x.links) is in
            subst (λ (x : Link). AreOf number x.legs) (sym (at_replicate (links_of from.0.front.core.routing) (down_link no_link_counts) (subst (λ x. At x place link) all k))) tt);
        flows = λ i c h. absurd (none i c h);
        homes = λ i c h. absurd (none i c h);
        one_link = λ i j c d h k a b e f. absurd (none i c h);
        one_place = λ i j place c d h k e f g. absurd (none i c h);
      };
      known = λ number loop h. (λ place client there. absurd (at_nothing (subst (λ x. At x place client) (ap (λ (x : LoopView). x.front.clients) (fresh number loop h)) there)));
      legal = λ number loop h. (λ place inbox there. absurd (at_nothing (subst (λ x. At x place inbox) (ap (λ (x : LoopView). x.inboxes) (fresh number loop h)) there)));
    }
