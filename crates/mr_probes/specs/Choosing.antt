-- Which keys a canary has.
use Rattle.std.specs.Prelude.{◌≡◌, ℕ, zero, suc, ◌<◌, ◌==◌, ◌||◌, nat_lt, not, max, Bool, List, [], ◌∷◌, ◌++◌, length, sum_by, count_by, if◌then◌else◌, Result, Ok, Err, Vec}
use Rattle.std.specs.List.{list_any, range_with_len}
use Rattle.mr_pools.specs.Routing.{RoutingView, place_of, pool_of}
use Rattle.mr_text.specs.Key.{IsKey}
use Rattle.mr_probes.specs.Naming.{key_text}
use Rattle.mr_probes.specs.declared.choosing.ChosenKeys.{ChosenKeys}
use Rattle.mr_probes.specs.declared.naming.KeyError.{KeyError}
use Rattle.mr_probes.specs.declared.naming.KeyError.TheVariants.{BadPrefix, OutOfMemory}

-- the key lies at the node of this index, of the pool of this number
abbrev pub lies_at : RoutingView → (number index : ℕ) → List ℕ → Bool
lies_at routing number index key = place_of routing.hash (pool_of routing number) key == index

-- none of the keys lies at the node of this index, of the pool of this number
abbrev pub is_bare : RoutingView → List (List ℕ) → (number index : ℕ) → Bool
is_bare routing keys number index = not (list_any (lies_at routing number index) keys)

-- the key lies at such a node of the pool of this number
abbrev pub hits_bare_in : RoutingView → List (List ℕ) → List ℕ → ℕ → Bool
hits_bare_in routing keys key number = is_bare routing keys number (place_of routing.hash (pool_of routing number) key)

-- the key lies at such a node of some pool
abbrev pub hits_bare : RoutingView → List (List ℕ) → List ℕ → Bool
hits_bare routing keys key = list_any (hits_bare_in routing keys key) (range_with_len 0 (length routing.pools))

-- how many nodes of the pool of a number keep none of the keys
abbrev pub bare_in : RoutingView → List (List ℕ) → ℕ → ℕ
bare_in routing keys number = count_by (is_bare routing keys number) (range_with_len 0 (length (pool_of routing number)))

-- how many nodes of all pools do
abbrev pub bare_nodes : RoutingView → List (List ℕ) → ℕ
bare_nodes routing keys = sum_by (bare_in routing keys) (range_with_len 0 (length routing.pools))

-- some node of the pool of a number keeps none of the keys
abbrev pub has_bare_in : RoutingView → List (List ℕ) → ℕ → Bool
has_bare_in routing keys number = list_any (is_bare routing keys number) (range_with_len 0 (length (pool_of routing number)))

-- some node of some pool does
abbrev pub has_bare : RoutingView → List (List ℕ) → Bool
has_bare routing keys = list_any (has_bare_in routing keys) (range_with_len 0 (length routing.pools))

-- with the key of a number: it is taken if its number is low enough, or if it lies where no other does
abbrev pub chosen_with : RoutingView → (count number : ℕ) → List ℕ → List (List ℕ) → List (List ℕ)
chosen_with routing count number key keys = if nat_lt number count || hits_bare routing keys key then keys ++ key ∷ [] else keys

-- of the keys with numbers below the last: the first so many, and each further one that lies at a node at which none before it does
unfoldable pub chosen_below : RoutingView → (prefix : List ℕ) → (run count : ℕ) → ℕ → List (List ℕ)
chosen_below routing prefix run count zero = []
chosen_below routing prefix run count (suc number) =
    chosen_with routing count number (key_text prefix run number) (chosen_below routing prefix run count number)

-- so many numbers are looked at: 65,536, or as many as keys are asked for
abbrev pub looked_at : ℕ → ℕ
looked_at count = max 65536 count

-- some number makes no key; memory may be wanted
abbrev pub RefusesChoice : (prefix : List ℕ) → (run count : ℕ) → KeyError → Type 0
RefusesChoice prefix run count BadPrefix = (number : ℕ) × (number < looked_at count) × ¬ IsKey (key_text prefix run number)
RefusesChoice prefix run count OutOfMemory = Unit {0}

-- the keys that are chosen, or why there are none
abbrev pub AreChosen : {Z : Type 0} → RoutingView → (prefix : List ℕ) → (run count : ℕ) → Result (Vec (List ℕ) Z) KeyError → Type 0
AreChosen routing prefix run count (Ok keys) = keys.items ≡ chosen_below routing prefix run count (looked_at count)
AreChosen routing prefix run count (Err e) = RefusesChoice prefix run count e

-- they, and at how many nodes none of them lies, or why there are none
abbrev pub IsChoice : RoutingView → (prefix : List ℕ) → (run count : ℕ) → Result ChosenKeys KeyError → Type 0
IsChoice routing prefix run count (Ok chosen) =
    (chosen.keys.items ≡ chosen_below routing prefix run count (looked_at count)) × (chosen.bare ≡ bare_nodes routing chosen.keys.items)
IsChoice routing prefix run count (Err e) = RefusesChoice prefix run count e
