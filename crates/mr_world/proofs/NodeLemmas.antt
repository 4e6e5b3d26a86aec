-- The numbers of nodes by their names: where nodes are added, and where one of them changes what it keeps.
use Rattle.std.proofs.Common.{◌≡◌, ◌↔◌, inl, inr, ℕ, suc, Bool, true, false, cond, nat_lt, position, bytes_eq, is_some, IsTrue, Contains, List, [], ◌∷◌, ◌++◌, String, length, fold, slice_get, slice_set, Some, None, if◌then◌else◌, refl, sym, ap, subst, ◌∙◌, arith}
use Rattle.std.specs.BTreeMap.{BTreeMap, get_by_text}
use Rattle.std.proofs.lemmas.Bool.{le-leb}
use Rattle.std.proofs.lemmas.List.{get_or_default}
use Rattle.std.proofs.lemmas.List.Folds.{position_or_len_push}
use Rattle.std.proofs.lemmas.Option.{slice_get-get_or, get_or_from_slice_get}
use Rattle.std.proofs.lemmas.Slice.Eq.{bytes_eq-Decides}
use borrow.Author.Tests.{ltb-true}
use Rattle.mr_history.specs.Places.{At}
use Rattle.mr_pools.specs.Names.{HasNode, name_at}
use Rattle.mr_pools.specs.Routing.{RoutingView, pool_of}
use Rattle.mr_world.specs.declared.node.Node.{Node}
use Rattle.mr_world.specs.declared.setup.ProxySetup.{ProxySetup}
use Rattle.mr_world.specs.Lists.{Has}
use Rattle.mr_world.specs.Nodes.{KnowsNumbers}
use Rattle.mr_world.specs.Positions.{node_number}
use Rattle.mr_world.specs.Setup.{NamesNode, IsNamed, with_name, with_pool, with_routing, nodes_of, empty_node}
use Rattle.mr_world.proofs.Lists.{at_there, at_within, at_last, at_none, has_head, has_tail, length_set}
use Rattle.mr_world.proofs.NetworkLemmas.{not_found, within_length}
use Rattle.mr_world.proofs.StartLemmas.{IsThere, length_pushed, nodes_reach}
use Rattle.mr_world.proofs.TrackedLemmas.{number_named, number_written}

abbrev has_name : List ℕ → Node → Bool
has_name name node = bytes_eq node.name name

-- the first place in a list to which an element is added

position_passed : {X : Type 0} (test : X → Bool) (xs : List X) (x : X) → test x ≡ false → position test (xs ++ x ∷ []) ≡ position test xs
position_passed test xs x fails =
    let pushed = position_or_len_push test xs x in
    let more = length_pushed xs x in
    let most = within_length test xs in
    grind (arith)

position_last : {X : Type 0} (test : X → Bool) (xs : List X) (x : X) → position test xs ≡ None → test x ≡ true → position test (xs ++ x ∷ []) ≡ Some (length xs)
position_last test xs x none passes =
    let pushed = position_or_len_push test xs x in
    let more = length_pushed xs x in
    let last = not_found test xs none in
    grind (arith)

missing_if : (nodes : List Node) (name : List ℕ) (b : Bool) → nat_lt (node_number nodes name) (length nodes) ≡ b → ¬ IsThere name nodes
    → (if b then Some (node_number nodes name) else None) ≡ None
missing_if nodes name true e past = absurd (past (ltb-true _ _ e))
missing_if nodes name false e past = refl

-- a name that has no number is not found
pub missing : (nodes : List Node) (name : List ℕ) → ¬ IsThere name nodes → position (λ node. bytes_eq node.name name) nodes ≡ None
missing nodes name past = missing_if nodes name (nat_lt (node_number nodes name) (length nodes)) refl past

-- the numbers are known where a node of a new name is added

pub knows_pushed : {Y : Type 0} (old new : BTreeMap (String Y) ℕ) (nodes : List Node) (node : Node) → KnowsNumbers old nodes → position (has_name node.name) nodes ≡ None
    → ((name : List ℕ) → get_by_text new name ≡ cond (bytes_eq node.name name) (Some (length nodes)) (get_by_text old name)) → KnowsNumbers new (nodes ++ node ∷ [])
knows_pushed old new nodes node knows none changes name =
    changes name ∙
    (elim (bytes_eq node.name name) as (λ b. bytes_eq node.name name ≡ b → cond b (Some (length nodes)) (get_by_text old name) ≡ position (has_name name) (nodes ++ node ∷ [])) [
      | true ↦ λ e.
          let same : node.name ≡ name = (bytes_eq-Decides node.name name).0 e in
          sym (position_last (has_name name) nodes node (subst (λ n. position (has_name n) nodes ≡ None) same none) e)
      | false ↦ λ e. knows name ∙ sym (position_passed (has_name name) nodes node e)
    ] refl)

-- and where a node changes what it keeps

position_written : (nodes : List Node) (k : ℕ) (old new : Node) (name : List ℕ) → slice_get nodes k ≡ Some old → new.name ≡ old.name
    → position (has_name name) (slice_set nodes k new) ≡ position (has_name name) nodes
position_written nodes k old new name there same =
    let number = number_written nodes k old new name there same in
    let count = length_set nodes k new in
    rw (number, count) refl

pub knows_written : {Y : Type 0} (numbers : BTreeMap (String Y) ℕ) (nodes : List Node) (k : ℕ) (old new : Node) → KnowsNumbers numbers nodes → slice_get nodes k ≡ Some old
    → new.name ≡ old.name → KnowsNumbers numbers (slice_set nodes k new)
knows_written numbers nodes k old new knows there same name = knows name ∙ sym (position_written nodes k old new name there same)

-- the nodes of a setup are those that its routings name

abbrev AreNamed : (List ℕ → Type 0) → List Node → Type 0
AreNamed N nodes = (place : ℕ) (node : Node) → At nodes place node → N node.name

named_if : (N : List ℕ → Type 0) (capacity : ℕ) (nodes : List Node) (name : List ℕ) (b : Bool) → AreNamed N nodes → N name
    → AreNamed N (if b then nodes else nodes ++ empty_node capacity name ∷ [])
named_if N capacity nodes name true named new = named
named_if N capacity nodes name false named new = λ place node there.
    elim (at_last nodes (empty_node capacity name) there) [
      | inl before ↦ named place node before
      | inr last ↦ subst (λ (x : Node). N x.name) (sym last.1) new
    ]

fold_named : {X : Type 0} (N : List ℕ → Type 0) (f : List Node → X → List Node) (xs : List X) → ((nodes : List Node) (x : X) → Has xs x → AreNamed N nodes → AreNamed N (f nodes x))
    → (nodes : List Node) → AreNamed N nodes → AreNamed N (fold f nodes xs)
fold_named N f [] keep nodes named = named
fold_named N f (x ∷ xs) keep nodes named = fold_named N f xs (λ nodes y has. keep nodes y (has_tail x has)) (f nodes x) (keep nodes x (has_head x xs) named)

contains_has : {X : Type 0} {xs : List X} {x : X} → Has xs x → Contains xs x
contains_has {xs = xs} {x = x} has = (has.place, at_within has.there, get_or_from_slice_get xs has.place x x has.there.gets)

routing_named : (N : List ℕ → Type 0) (capacity : ℕ) (nodes : List Node) (routing : RoutingView) → ((name : List ℕ) → NamesNode routing name → N name) → AreNamed N nodes
    → AreNamed N (with_routing capacity nodes routing)
routing_named N capacity nodes routing each named =
    fold_named N (with_pool capacity) routing.pools
    (λ nodes pool has named.
    fold_named N (with_name capacity) pool
    (λ nodes name has_it named. named_if N capacity nodes name (nat_lt (node_number nodes name) (length nodes)) named
    (each name (record {
      pool = has.place;
      has = record {
        there = at_within has.there;
        names = subst (λ l. Contains l name) (sym (get_or_from_slice_get routing.pools has.place pool [] has.there.gets)) (contains_has has_it);
      };
    }))) nodes named) nodes named

all_named : (capacity : ℕ) (proxies : List ProxySetup) → AreNamed (IsNamed proxies) (nodes_of capacity proxies)
all_named capacity proxies =
    fold_named (IsNamed proxies) (λ nodes proxy. with_routing capacity nodes proxy.routing) proxies
    (λ nodes proxy has named. routing_named (IsNamed proxies) capacity nodes proxy.routing
    (λ name names. record { proxy = proxy; home = contains_has has; names = names }) named)
    [] (λ place node there. at_none there)

there_if_found : (nodes : List Node) (name : List ℕ) (b : Bool) → nat_lt (node_number nodes name) (length nodes) ≡ b
    → IsTrue (is_some (if b then Some (node_number nodes name) else None)) → IsThere name nodes
there_if_found nodes name true e found = ltb-true _ _ e
there_if_found nodes name false e found = cc

found_if_there : (nodes : List Node) (name : List ℕ) → IsThere name nodes → IsTrue (is_some (position (has_name name) nodes))
found_if_there nodes name there =
    let e : nat_lt (node_number nodes name) (length nodes) ≡ true = le-leb (suc (node_number nodes name)) (length nodes) (omega arith) in
    rw e refl

pub housed : (capacity : ℕ) (proxies : List ProxySetup) (name : List ℕ) → IsTrue (is_some (position (λ node. bytes_eq node.name name) (nodes_of capacity proxies))) ↔ IsNamed proxies name
housed capacity proxies name = (
  λ found.
      let nodes = nodes_of capacity proxies in
      let there = there_if_found nodes name (nat_lt (node_number nodes name) (length nodes)) refl found in
      let (node, at) = at_there nodes (node_number nodes name) there in
      subst (IsNamed proxies) (number_named nodes name node at) (all_named capacity proxies (node_number nodes name) node at),
  λ named.
      let routing = named.proxy.routing in
      let pool = named.names.pool in
      let has = named.names.has in
      let (k, below, there) = named.home in
      let (index, within, is) = has.names in
      let here : HasNode routing pool index = record { pool = has.there; within = within } in
      let home : slice_get proxies k ≡ Some named.proxy = slice_get-get_or proxies k named.proxy below ∙ ap Some there in
      let reached = nodes_reach capacity proxies k named.proxy pool index home here in
      let same : name_at routing pool index ≡ name = get_or_default (pool_of routing pool) index [] name within ∙ is in
      found_if_there (nodes_of capacity proxies) name (subst (λ n. IsThere n (nodes_of capacity proxies)) same reached),
)
