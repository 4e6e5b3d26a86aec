-- Nodes counted pool by pool.
use Rattle.std.proofs.Common.{◌≡◌, ℕ, zero, suc, ◌+◌, ◌-◌, ◌<◌, ◌≤◌, List, [], ◌∷◌, ◌++◌, length, map, drop, get_or, Some, slice_get, option_map, refl, sym, ap, ◌∙◌, add-one, drop-cons, arith}
use Rattle.std.proofs.lemmas.List.{length-map}
use Rattle.std.proofs.lemmas.Option.{slice_get-map}
use Rattle.mr_log.specs.Nodes.{nodes_from, nodes_of}

-- a node of a pool
abbrev pub in_pool : ℕ → List ℕ → ℕ × List ℕ
in_pool pool name = (pool, name)

-- what stands in the front of joined lists
slice_get-front : {X : Type 0} (xs ys : List X) (i : ℕ) → i < length xs → slice_get (xs ++ ys) i ≡ slice_get xs i
slice_get-front [] ys i within = absurd (omega arith)
slice_get-front (x ∷ xs) ys zero within = refl
slice_get-front (x ∷ xs) ys (suc i) within = slice_get-front xs ys i (omega arith)

-- and behind it
slice_get-behind : {X : Type 0} (xs ys : List X) (i : ℕ) → length xs ≤ i → slice_get (xs ++ ys) i ≡ slice_get ys (i - length xs)
slice_get-behind [] ys i past = ap (slice_get ys) (omega arith)
slice_get-behind (x ∷ xs) ys zero past = absurd (omega arith)
slice_get-behind (x ∷ xs) ys (suc i) past = slice_get-behind xs ys i (omega arith) ∙ ap (slice_get ys) (omega arith)

-- a node of the first pool
pub node_here : (pool : ℕ) (names : List (List ℕ)) (pools : List (List (List ℕ))) (i : ℕ) (name : List ℕ) → slice_get names i ≡ Some name → i < length names
    → slice_get (nodes_from pool (names ∷ pools)) i ≡ Some (pool, name)
node_here pool names pools i name there within =
    slice_get-front (map (in_pool pool) names) (nodes_from (pool + 1) pools) i (omega (arith, length-map names (in_pool pool)))
    ∙ slice_get-map (in_pool pool) names i ∙ ap (option_map (in_pool pool)) there

-- a node of a later pool
pub node_behind : (pool : ℕ) (names : List (List ℕ)) (pools : List (List (List ℕ))) (i : ℕ) → length names ≤ i
    → slice_get (nodes_from pool (names ∷ pools)) i ≡ slice_get (nodes_from (pool + 1) pools) (i - length names)
node_behind pool names pools i past =
    let same = length-map names (in_pool pool) in
    slice_get-behind (map (in_pool pool) names) (nodes_from (pool + 1) pools) i (omega (arith, same))
    ∙ ap (λ n. slice_get (nodes_from (pool + 1) pools) (i - n)) same

-- the pools that are left begin with the one that comes next
pools_left : (pools : List (List (List ℕ))) (index : ℕ) (names : List (List ℕ)) → index < length pools → names ≡ get_or pools index names
    → drop index pools ≡ names ∷ drop (index + 1) pools
pools_left pools index names within read = rw add-one (drop-cons pools index names within ∙ ap (λ (first : List (List ℕ)). first ∷ drop (suc index) pools) (sym read))

-- the node is one of the next pool
pub node_found : (pools : List (List (List ℕ))) (number left index : ℕ) (names : List (List ℕ)) (name : List ℕ)
    → slice_get (nodes_of pools) number ≡ slice_get (nodes_from index (drop index pools)) left → index < length pools → names ≡ get_or pools index names
    → slice_get names left ≡ Some name → left < length names → slice_get (nodes_of pools) number ≡ Some (index, name)
node_found pools number left index names name so_far within read there here =
    so_far ∙ ap (λ (ps : List (List (List ℕ))). slice_get (nodes_from index ps) left) (pools_left pools index names within read)
    ∙ node_here index names (drop (index + 1) pools) left name there here

-- the node is one of a later pool
pub node_later : (pools : List (List (List ℕ))) (number left index many : ℕ) (names : List (List ℕ))
    → slice_get (nodes_of pools) number ≡ slice_get (nodes_from index (drop index pools)) left → index < length pools → names ≡ get_or pools index names
    → many ≡ length names → length names ≤ left
    → slice_get (nodes_of pools) number ≡ slice_get (nodes_from (index + 1) (drop (index + 1) pools)) (left - many)
node_later pools number left index many names so_far within read same past =
    so_far ∙ ap (λ (ps : List (List (List ℕ))). slice_get (nodes_from index ps) left) (pools_left pools index names within read)
    ∙ node_behind index names (drop (index + 1) pools) left past
    ∙ ap (λ (n : ℕ). slice_get (nodes_from (index + 1) (drop (index + 1) pools)) (left - n)) (sym same)
