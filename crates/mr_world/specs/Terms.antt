-- The nodes that a setup's proxies move to. No clause of a public call cites these definitions.
use Rattle.std.specs.Prelude.{ℕ, List, [], ◌∷◌, Bool, false, bytes_eq}
use Rattle.std.specs.List.{list_any}
use Rattle.std.specs.BTreeSet.{BTreeSet, contains_by}
use Rattle.std.specs.Cmp.Lexicographic.{slice_cmp}
use Rattle.std.specs.Ordering.{nat_cmp}
use denote.Ref.{Bor}

-- a pool has a node of this name
abbrev pub is_in : List (List ℕ) → List ℕ → Bool
is_in pool name = list_any (λ other. bytes_eq other name) pool

-- one of the pools other than the first has
abbrev pub is_moved_to : List (List (List ℕ)) → List ℕ → Bool
is_moved_to [] name = false
is_moved_to (first ∷ later) name = list_any (λ pool. is_in pool name) later

-- a set of names has this one
abbrev pub is_among : BTreeSet (Bor (List ℕ)) → List ℕ → Bool
is_among names name = contains_by (λ known. slice_cmp nat_cmp name known.now) names
