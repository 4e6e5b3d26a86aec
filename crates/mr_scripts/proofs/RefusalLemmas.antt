-- A setup whose fleet can be made isn't refused.
use Rattle.std.proofs.Common.{◌≡◌, ℕ, zero, suc, ◌<◌, ◌≤◌, ◌&&◌, ◌||◌, Bool, true, false, List, [], ◌∷◌, length, slice_index_or, All, Ok, Err, refl, ap, ◌∙◌, inl, inr, ◌⊎◌, arith, if◌then◌else◌}
use Rattle.std.specs.Str.{bytes_eq}
use Rattle.std.proofs.lemmas.Slice.Eq.{bytes_eq-Decides}
use Rattle.std.proofs.lemmas.Bool.{le-leb}
use Rattle.mr_world.specs.Setup.{SetupView, CanBeMade, IsNamed}
use Rattle.mr_proxy.specs.declared.world_error.WorldError.TheVariants.{NoSuchNode}
use Rattle.mr_world.specs.declared.setup.HeldItem.{HeldItem}
use Rattle.mr_world.specs.declared.setup.ProxySetup.{ProxySetup}
use Rattle.mr_configs.specs.Fields.{Text, is_one_of}
use Rattle.mr_configs.specs.declared.error.PlanError.{PlanError}
use Rattle.mr_configs.specs.declared.error.PlanError.TheVariants.{BadSetup}
use Rattle.mr_scripts.specs.Setups.{pools_name, proxies_name, have_homes, have_room, checked_setup}

left_or : (a b : Bool) → a ≡ true → (a || b) ≡ true
left_or true b e = refl
left_or false b e = cc

right_or : (a b : Bool) → b ≡ true → (a || b) ≡ true
right_or true b e = refl
right_or false b e = e

both : (a b : Bool) → a ≡ true → b ≡ true → (a && b) ≡ true
both true b e f = f
both false b e f = cc

-- a name that stands at a place is found
found : (names : List Text) (name : Text) (k : ℕ) → k < length names → slice_index_or names k name ≡ name → is_one_of names name ≡ true
found [] name k within is = absurd (omega arith)
found (first ∷ names) name zero within is = left_or (bytes_eq first name) (is_one_of names name) ((bytes_eq-Decides first name).1 is)
found (first ∷ names) name (suc k) within is = right_or (bytes_eq first name) (is_one_of names name) (found names name k (omega arith) is)

-- a name of the pool at a place is found
pool_found : (pools : List (List Text)) (name : Text) (k : ℕ) → k < length pools → is_one_of (slice_index_or pools k []) name ≡ true → pools_name pools name ≡ true
pool_found [] name k within is = absurd (omega arith)
pool_found (first ∷ pools) name zero within is = left_or (is_one_of first name) (pools_name pools name) is
pool_found (first ∷ pools) name (suc k) within is = right_or (is_one_of first name) (pools_name pools name) (pool_found pools name k (omega arith) is)

-- a name of the proxy at a place is found
proxy_found : (proxies : List ProxySetup) (proxy : ProxySetup) (name : Text) (k : ℕ) → k < length proxies → slice_index_or proxies k proxy ≡ proxy
    → pools_name proxy.routing.pools name ≡ true → proxies_name proxies name ≡ true
proxy_found [] proxy name k within is named = absurd (omega arith)
proxy_found (first ∷ proxies) proxy name zero within is named =
    left_or (pools_name first.routing.pools name) (proxies_name proxies name)
    (ap (λ (p : ProxySetup). pools_name p.routing.pools name) is ∙ named)
proxy_found (first ∷ proxies) proxy name (suc k) within is named =
    right_or (pools_name first.routing.pools name) (proxies_name proxies name) (proxy_found proxies proxy name k (omega arith) is named)

-- a node that a routing names is found
home_found : (proxies : List ProxySetup) (name : Text) → IsNamed proxies name → proxies_name proxies name ≡ true
home_found proxies name n =
    let at = n.names.has.names in
    proxy_found proxies n.proxy name n.home.0 n.home.1 n.home.2
    (pool_found n.proxy.routing.pools name n.names.pool n.names.has.there (found (slice_index_or n.proxy.routing.pools n.names.pool []) name at.0 at.1 at.2))

homes_found : (proxies : List ProxySetup) (items : List HeldItem) → All (λ item. IsNamed proxies item.node) items → have_homes proxies items ≡ true
homes_found proxies [] all = refl
homes_found proxies (item ∷ items) all =
    both (proxies_name proxies item.node) (have_homes proxies items) (home_found proxies item.node (all zero item (omega arith)))
    (homes_found proxies items (λ k d within. all (suc k) d (omega arith)))

room_found : (capacity : ℕ) (proxies : List ProxySetup) → (proxies ≡ []) ⊎ (1 ≤ capacity) → have_room capacity proxies ≡ true
room_found capacity [] either = refl
room_found capacity (proxy ∷ proxies) (inl e) = absurd (cc)
room_found capacity (proxy ∷ proxies) (inr room) = le-leb 1 capacity room

not_settled : (setup : SetupView) (e : PlanError) (test : Bool) → test ≡ true → (if test then Ok setup else Err (BadSetup NoSuchNode)) ≡ Err e → ⊥
not_settled setup e true is refused = cc
not_settled setup e false is refused = cc

pub refused_has_no_fleet : (setup : SetupView) (e : PlanError) → checked_setup setup ≡ Err e → CanBeMade setup → ⊥
refused_has_no_fleet setup e refused can =
    not_settled setup e (have_room setup.capacity setup.proxies && have_homes setup.proxies setup.held)
    (both (have_room setup.capacity setup.proxies) (have_homes setup.proxies setup.held) (room_found setup.capacity setup.proxies can.homes.not_zero)
    (homes_found setup.proxies setup.held can.homes.named)) refused
