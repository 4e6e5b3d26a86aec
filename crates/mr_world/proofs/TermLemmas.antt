-- The nodes that proxies move to, as names that are looked up tell of them.
use Rattle.std.proofs.Common.{◌≡◌, ◌↔◌, ◌||◌, ℕ, zero, suc, ◌<◌, Bool, true, false, cond, bytes_eq, IsTrue, Contains, All, List, [], ◌∷◌, length, get_or, refl, sym, ap, subst, ◌∙◌, arith}
use Rattle.std.specs.List.{list_any}
use Rattle.std.proofs.lemmas.List.{get_or_default}
use Rattle.std.proofs.lemmas.List.Folds.{Any-from_list_any, list_any_at}
use Rattle.std.proofs.lemmas.Map.Text.{is_eq-slice_cmp}
use Rattle.std.proofs.lemmas.Slice.Eq.{bytes_eq-Decides}
use Rattle.std.specs.BTreeSet.{BTreeSet, UpdatesBy}
use Rattle.std.specs.Cmp.Lexicographic.{slice_cmp}
use Rattle.std.specs.Ordering.{nat_cmp}
use denote.Ref.{Bor}
use Rattle.mr_pools.specs.Routing.{RoutingView}
use Rattle.mr_world.specs.declared.setup.HeldItem.{HeldItem}
use Rattle.mr_world.specs.declared.setup.ProxySetup.{ProxySetup}
use Rattle.mr_world.specs.Setup.{SetupView, MovesTo, IsNewPoolEmpty}
use Rattle.mr_world.specs.Terms.{is_in, is_moved_to, is_among}

-- a name that is added

pub name_added : (first : List ℕ) (old new : BTreeSet (Bor (List ℕ))) → UpdatesBy (λ a b. slice_cmp nat_cmp a.now b.now) (λ known. slice_cmp nat_cmp first known.now) old new true
    → (name : List ℕ) → is_among new name ≡ cond (bytes_eq first name) true (is_among old name)
name_added first old new updates name =
    updates.0 (record { ref_ptr = (0, 0); now = name }) ∙ ap (λ is. cond is true (is_among old name)) (is_eq-slice_cmp first name)

pub or_added : (a b c : Bool) → cond c true (a || b) ≡ (a || (b || c))
or_added true b true = refl
or_added true b false = refl
or_added false true true = refl
or_added false true false = refl
or_added false false true = refl
or_added false false false = refl

-- the names that a routing moves to

in_contains : (pool : List (List ℕ)) (name : List ℕ) → is_in pool name ≡ true → Contains pool name
in_contains pool name e =
    let (k, other, below, is, same) = Any-from_list_any (λ other. bytes_eq other name) pool e in
    (k, below, get_or_default pool k name other below ∙ is ∙ (bytes_eq-Decides other name).0 same)

contains_in : (pool : List (List ℕ)) (name : List ℕ) → Contains pool name → is_in pool name ≡ true
contains_in pool name (k, below, is) = list_any_at (λ other. bytes_eq other name) pool k name below ((bytes_eq-Decides (get_or pool k name) name).1 is)

moved : (pools : List (List (List ℕ))) (name : List ℕ) → is_moved_to pools name ≡ true
    → (number : ℕ) × (0 < number) × (number < length pools) × Contains (get_or pools number []) name
moved [] name e = cc
moved (first ∷ later) name e =
    let (k, pool, below, is, has) = Any-from_list_any (λ pool. is_in pool name) later e in
    let same : pool ≡ get_or later k [] = sym (get_or_default later k [] pool below ∙ is) in
    (suc k, omega arith, omega arith, subst (λ l. Contains l name) same (in_contains pool name has))

moves : (pools : List (List (List ℕ))) (name : List ℕ) (number : ℕ) → 0 < number → number < length pools → Contains (get_or pools number []) name → is_moved_to pools name ≡ true
moves [] name number later below names = absurd (omega arith)
moves (first ∷ rest) name zero later below names = absurd (omega arith)
moves (first ∷ rest) name (suc number) later below names =
    list_any_at (λ pool. is_in pool name) rest number [] (omega arith) (contains_in (get_or rest number []) name names)

-- a routing that moves to the node is told, and no other
pub moves_to_told : (routing : RoutingView) (name : List ℕ) → IsTrue (is_moved_to routing.pools name) ↔ MovesTo routing name
moves_to_told routing name = (
  λ told.
      let (number, later, there, names) = moved routing.pools name told in
      record { pool = number; later = later; has = record { there = there; names = names } },
  λ to. moves routing.pools name to.pool to.later to.has.there to.has.names,
)

abbrev pub is_told : List ProxySetup → HeldItem → Bool
is_told proxies item = list_any (λ proxy. is_moved_to proxy.routing.pools item.node) proxies

none_moves : (proxies : List ProxySetup) (item : HeldItem) → is_told proxies item ≡ false → All (λ proxy. ¬ MovesTo proxy.routing item.node) proxies
none_moves proxies item none k d below to =
    let told = (moves_to_told (get_or proxies k d).routing item.node).1 to in
    let any = list_any_at (λ (proxy : ProxySetup). is_moved_to proxy.routing.pools item.node) proxies k d below told in
    cc

-- no item is told where the new pools are empty
pub empty_if_none : (setup : SetupView) → ((k : ℕ) (d : HeldItem) → k < length setup.held → is_told setup.proxies (get_or setup.held k d) ≡ false) → IsNewPoolEmpty setup
empty_if_none setup none k d below = none_moves setup.proxies (get_or setup.held k d) (none k d below)

pub told_if_some : (setup : SetupView) (k : ℕ) (item : HeldItem) → k < length setup.held → item ≡ get_or setup.held k item → is_told setup.proxies item ≡ true → ¬ IsNewPoolEmpty setup
told_if_some setup k item below read told empty =
    let (place, proxy, within, is, moved) = Any-from_list_any (λ (proxy : ProxySetup). is_moved_to proxy.routing.pools item.node) setup.proxies told in
    let apart = subst (λ (x : HeldItem). All (λ proxy. ¬ MovesTo proxy.routing x.node) setup.proxies) (sym read) (empty k item below) in
    apart place proxy within (subst (λ (x : ProxySetup). MovesTo x.routing item.node) (sym is) ((moves_to_told proxy.routing item.node).0 moved))
