-- Places in lists that only grow, and in lists of which one element changes.
use Rattle.std.specs.List.{position_or_len}
use Rattle.std.proofs.Common.{Bool, true, false, not, cond, ◌≡◌, ℕ, zero, suc, ◌+◌, ◌<◌, ◌≤◌, ◌⊎◌, List, [], ◌∷◌, ◌++◌, length, take, drop, get_or, slice_get, slice_set, remove, Some, map, refl, ap, sym, ◌∙◌, subst, inl, inr, arith}
use Rattle.std.proofs.lemmas.Option.{slice_get_within, slice_get_read, none-some}
use Rattle.std.proofs.lemmas.Bool.{cases_order}
use Rattle.mr_history.specs.Places.{At}
use Rattle.mr_world.specs.Lists.{Has}

pub at_within : {X : Type 0} {xs : List X} {i : ℕ} {x : X} → At xs i x → i < length xs
at_within {xs = xs} {i = i} {x = x} h = slice_get_within xs i x h.gets

pub at_one : {X : Type 0} {xs : List X} {i : ℕ} {x y : X} → At xs i x → At xs i y → x ≡ y
at_one h k = let e = h.gets in let f = k.gets in cc

get_left : {X : Type 0} (xs ys : List X) (i : ℕ) (x : X) → slice_get xs i ≡ Some x → slice_get (xs ++ ys) i ≡ Some x
get_left [] ys i x e = cc
get_left (z ∷ xs) ys zero x e = e
get_left (z ∷ xs) ys (suc i) x e = get_left xs ys i x e

pub at_left : {X : Type 0} {xs : List X} (ys : List X) {i : ℕ} {x : X} → At xs i x → At (xs ++ ys) i x
at_left {xs = xs} ys {i = i} {x = x} h = record { gets = get_left xs ys i x h.gets }

get_right : {X : Type 0} (xs ys : List X) (i : ℕ) (x : X) → slice_get ys i ≡ Some x → slice_get (xs ++ ys) (length xs + i) ≡ Some x
get_right [] ys i x e = let z : 0 + i ≡ i = omega arith in rw z e
get_right (w ∷ xs) ys i x e = let z : suc (length xs) + i ≡ suc (length xs + i) = omega arith in rw z (get_right xs ys i x e)

pub at_right : {X : Type 0} (xs : List X) {ys : List X} {i : ℕ} {x : X} → At ys i x → At (xs ++ ys) (length xs + i) x
at_right xs {ys = ys} {i = i} {x = x} h = record { gets = get_right xs ys i x h.gets }

-- the list that grew has the element where it had it, or it is one of the new ones
get_cases : {X : Type 0} (xs ys : List X) (i : ℕ) (x : X) → slice_get (xs ++ ys) i ≡ Some x → (slice_get xs i ≡ Some x) ⊎ ((length xs ≤ i) × Has ys x)
get_cases [] ys i x e = inr (omega arith, record { place = i; there = record { gets = e } })
get_cases (z ∷ xs) ys zero x e = inl e
get_cases (z ∷ xs) ys (suc i) x e = elim (get_cases xs ys i x e) [ inl h ↦ inl h | inr h ↦ inr (omega arith, h.1) ]

pub at_cases : {X : Type 0} (xs ys : List X) {i : ℕ} {x : X} → At (xs ++ ys) i x → (At xs i x) ⊎ ((length xs ≤ i) × Has ys x)
at_cases xs ys {i = i} {x = x} h = elim (get_cases xs ys i x h.gets) [ inl e ↦ inl (record { gets = e }) | inr e ↦ inr e ]

-- below the end of what was there, the list that grew has what was there
pub at_before : {X : Type 0} (xs ys : List X) {i : ℕ} {x : X} → At (xs ++ ys) i x → i < length xs → At xs i x
at_before xs ys h below = elim (at_cases xs ys h) [ inl e ↦ e | inr e ↦ absurd (omega arith) ]

get_one : {X : Type 0} (y : X) (i : ℕ) (x : X) → slice_get (y ∷ []) i ≡ Some x → x ≡ y
get_one y zero x e = cc
get_one y (suc i) x e = cc

pub has_one : {X : Type 0} {y x : X} → Has (y ∷ []) x → x ≡ y
has_one {y = y} {x = x} h = get_one y h.place x h.there.gets

get_last : {X : Type 0} (xs : List X) (y : X) (i : ℕ) (x : X) → slice_get (xs ++ y ∷ []) i ≡ Some x → (slice_get xs i ≡ Some x) ⊎ ((i ≡ length xs) × (x ≡ y))
get_last [] y zero x e = inr (refl, cc)
get_last [] y (suc i) x e = cc
get_last (z ∷ xs) y zero x e = inl e
get_last (z ∷ xs) y (suc i) x e = elim (get_last xs y i x e) [ inl h ↦ inl h | inr h ↦ inr (ap suc h.0, h.1) ]

pub at_last : {X : Type 0} (xs : List X) (y : X) {i : ℕ} {x : X} → At (xs ++ y ∷ []) i x → (At xs i x) ⊎ ((i ≡ length xs) × (x ≡ y))
at_last xs y {i = i} {x = x} h = elim (get_last xs y i x h.gets) [ inl e ↦ inl (record { gets = e }) | inr e ↦ inr e ]

pub at_new : {X : Type 0} (xs : List X) (y : X) → At (xs ++ y ∷ []) (length xs) y
at_new xs y =
    let none : length xs + 0 ≡ length xs = omega arith in
    let first : At (y ∷ []) 0 y = record { gets = refl } in
    rw none at (at_right xs first)

pub has_left : {X : Type 0} {xs : List X} (ys : List X) {x : X} → Has xs x → Has (xs ++ ys) x
has_left ys h = record { place = h.place; there = at_left ys h.there }

pub has_right : {X : Type 0} (xs : List X) {ys : List X} {x : X} → Has ys x → Has (xs ++ ys) x
has_right xs h = record { place = length xs + h.place; there = at_right xs h.there }

pub has_cases : {X : Type 0} (xs ys : List X) {x : X} → Has (xs ++ ys) x → (Has xs x) ⊎ (Has ys x)
has_cases xs ys h = elim (at_cases xs ys h.there) [ inl e ↦ inl (record { place = h.place; there = e }) | inr e ↦ inr e.1 ]

pub has_head : {X : Type 0} (x : X) (xs : List X) → Has (x ∷ xs) x
has_head x xs = record { place = 0; there = record { gets = refl } }

pub has_tail : {X : Type 0} (y : X) {xs : List X} {x : X} → Has xs x → Has (y ∷ xs) x
has_tail y h = record { place = suc h.place; there = record { gets = h.there.gets } }

pub has_none : {X : Type 0} {P : Type 0} {x : X} → Has [] x → P
has_none {x = x} h = absurd (none-some x h.there.gets)

pub at_none : {X : Type 0} {P : Type 0} {i : ℕ} {x : X} → At [] i x → P
at_none {x = x} h = absurd (none-some x h.gets)

-- after a write the list has the new element at that place, and the old ones elsewhere
get_set : {X : Type 0} (xs : List X) (k : ℕ) (v : X) (i : ℕ) (x : X) → slice_get (slice_set xs k v) i ≡ Some x → ((i ≡ k) × (x ≡ v)) ⊎ ((i ≡ k → ⊥) × (slice_get xs i ≡ Some x))
get_set [] k v i x e = cc
get_set (z ∷ xs) zero v zero x e = inl (refl, cc)
get_set (z ∷ xs) zero v (suc i) x e = inr (λ (h : suc i ≡ 0). absurd (omega arith), e)
get_set (z ∷ xs) (suc k) v zero x e = inr (λ (h : 0 ≡ suc k). absurd (omega arith), e)
get_set (z ∷ xs) (suc k) v (suc i) x e =
    elim (get_set xs k v i x e) [
      | inl h ↦ inl (ap suc h.0, h.1)
      | inr h ↦ inr (λ (same : suc i ≡ suc k). h.0 (omega arith), h.1)
    ]

pub at_set : {X : Type 0} (xs : List X) (k : ℕ) (v : X) {i : ℕ} {x : X} → At (slice_set xs k v) i x → ((i ≡ k) × (x ≡ v)) ⊎ ((i ≡ k → ⊥) × At xs i x)
at_set xs k v {i = i} {x = x} h = elim (get_set xs k v i x h.gets) [ inl e ↦ inl e | inr e ↦ inr (e.0, record { gets = e.1 }) ]

pub has_set : {X : Type 0} (xs : List X) (k : ℕ) (v : X) {x : X} → Has (slice_set xs k v) x → (x ≡ v) ⊎ Has xs x
has_set xs k v h = elim (at_set xs k v h.there) [ inl e ↦ inl e.1 | inr e ↦ inr (record { place = h.place; there = e.1 }) ]

get_after_set : {X : Type 0} (xs : List X) (k : ℕ) (v w : X) (i : ℕ) (x : X) → slice_get xs k ≡ Some w → slice_get xs i ≡ Some x → (x ≡ w) ⊎ (slice_get (slice_set xs k v) i ≡ Some x)
get_after_set [] k v w i x g e = cc
get_after_set (z ∷ xs) zero v w zero x g e = inl cc
get_after_set (z ∷ xs) zero v w (suc i) x g e = inr e
get_after_set (z ∷ xs) (suc k) v w zero x g e = inr e
get_after_set (z ∷ xs) (suc k) v w (suc i) x g e = get_after_set xs k v w i x g e

get_written : {X : Type 0} (xs : List X) (k : ℕ) (v w : X) → slice_get xs k ≡ Some w → slice_get (slice_set xs k v) k ≡ Some v
get_written [] k v w g = cc
get_written (z ∷ xs) zero v w g = refl
get_written (z ∷ xs) (suc k) v w g = get_written xs k v w g

-- what is overwritten alone may be lost
pub has_kept : {X : Type 0} (xs : List X) (k : ℕ) (v : X) {w x : X} → At xs k w → Has xs x → (x ≡ w) ⊎ Has (slice_set xs k v) x
has_kept xs k v {w = w} {x = x} g h =
    elim (get_after_set xs k v w h.place x g.gets h.there.gets) [ inl e ↦ inl e | inr e ↦ inr (record { place = h.place; there = record { gets = e } }) ]

pub has_written : {X : Type 0} (xs : List X) (k : ℕ) (v : X) {w : X} → At xs k w → Has (slice_set xs k v) v
has_written xs k v {w = w} g = record { place = k; there = record { gets = get_written xs k v w g.gets } }

get_removed : {X : Type 0} (xs : List X) (k : ℕ) (i : ℕ) (x : X) → slice_get (take k xs ++ drop (suc k) xs) i ≡ Some x → Has xs x
get_removed [] zero i x e = cc
get_removed [] (suc k) i x e = cc
get_removed (z ∷ xs) zero i x e = record { place = suc i; there = record { gets = e } }
get_removed (z ∷ xs) (suc k) zero x e = record { place = 0; there = record { gets = e } }
get_removed (z ∷ xs) (suc k) (suc i) x e = has_tail z (get_removed xs k i x e)

pub has_removed : {X : Type 0} (xs : List X) (k : ℕ) {x : X} → Has (remove xs k) x → Has xs x
has_removed xs k {x = x} h = get_removed xs k h.place x h.there.gets

get_map : {X Y : Type 0} (f : X → Y) (xs : List X) (i : ℕ) (y : Y) → slice_get (map f xs) i ≡ Some y → (x : X) × (slice_get xs i ≡ Some x) × (y ≡ f x)
get_map f [] i y e = cc
get_map f (x ∷ xs) zero y e = (x, refl, cc)
get_map f (x ∷ xs) (suc i) y e = get_map f xs i y e

pub has_map : {X Y : Type 0} (f : X → Y) (xs : List X) {y : Y} → Has (map f xs) y → (x : X) × Has xs x × (y ≡ f x)
has_map f xs {y = y} h =
    let (x, e, s) = get_map f xs h.place y h.there.gets in
    (x, record { place = h.place; there = record { gets = e } }, s)

pub get_mapped : {X Y : Type 0} (f : X → Y) (xs : List X) (i : ℕ) (x : X) → slice_get xs i ≡ Some x → slice_get (map f xs) i ≡ Some (f x)
get_mapped f [] i x e = cc
get_mapped f (z ∷ xs) zero x e = let s : z ≡ x = cc in rw s refl
get_mapped f (z ∷ xs) (suc i) x e = get_mapped f xs i x e

pub has_mapped : {X Y : Type 0} (f : X → Y) (xs : List X) {x : X} → Has xs x → Has (map f xs) (f x)
has_mapped f xs {x = x} h = record { place = h.place; there = record { gets = get_mapped f xs h.place x h.there.gets } }

get_other : {X : Type 0} (xs : List X) (k : ℕ) (v : X) (i : ℕ) (x : X) → (i ≡ k → ⊥) → slice_get xs i ≡ Some x → slice_get (slice_set xs k v) i ≡ Some x
get_other [] k v i x apart e = e
get_other (z ∷ xs) zero v zero x apart e = absurd (apart refl)
get_other (z ∷ xs) zero v (suc i) x apart e = e
get_other (z ∷ xs) (suc k) v zero x apart e = e
get_other (z ∷ xs) (suc k) v (suc i) x apart e = get_other xs k v i x (λ same. apart (ap suc same)) e

pub at_other : {X : Type 0} {xs : List X} (k : ℕ) (v : X) {i : ℕ} {x : X} → (i ≡ k → ⊥) → At xs i x → At (slice_set xs k v) i x
at_other {xs = xs} k v {i = i} {x = x} apart h = record { gets = get_other xs k v i x apart h.gets }

pub at_written : {X : Type 0} {xs : List X} {k : ℕ} {w : X} (v : X) → At xs k w → At (slice_set xs k v) k v
at_written {xs = xs} {k = k} {w = w} v h = record { gets = get_written xs k v w h.gets }

-- an element is the one that is overwritten, or stays
pub at_kept : {X : Type 0} {xs : List X} {k : ℕ} {w : X} (v : X) {i : ℕ} {x : X} → At xs k w → At xs i x → ((i ≡ k) × (x ≡ w)) ⊎ At (slice_set xs k v) i x
at_kept {xs = xs} {k = k} {w = w} v {i = i} {x = x} g h =
    elim (cases_order i k) [
      | inl same ↦ inl (same, at_one (subst (λ n. At xs n x) same h) g)
      | inr apart ↦ elim apart [
        | inl less ↦ inr (at_other k v (λ (same : i ≡ k). absurd (omega arith)) h)
        | inr less ↦ inr (at_other k v (λ (same : i ≡ k). absurd (omega arith)) h)
      ]
    ]

pub length_set : {X : Type 0} (xs : List X) (k : ℕ) (v : X) → length (slice_set xs k v) ≡ length xs
length_set [] k v = refl
length_set (z ∷ xs) zero v = refl
length_set (z ∷ xs) (suc k) v = ap suc (length_set xs k v)

get_there : {X : Type 0} (xs : List X) (i : ℕ) → i < length xs → (x : X) × (slice_get xs i ≡ Some x)
get_there [] i below = absurd (omega arith)
get_there (z ∷ xs) zero below = (z, refl)
get_there (z ∷ xs) (suc i) below = get_there xs i (omega arith)

pub at_there : {X : Type 0} (xs : List X) (i : ℕ) → i < length xs → (x : X) × At xs i x
at_there xs i below = let (x, e) = get_there xs i below in (x, record { gets = e })

-- what a map says of a list stays where one element changes and the map doesn't see it
pub map_set : {X Y : Type 0} (f : X → Y) (xs : List X) (k : ℕ) (w v : X) → slice_get xs k ≡ Some w → f v ≡ f w → map f (slice_set xs k v) ≡ map f xs
map_set f [] k w v g e = refl
map_set f (z ∷ xs) zero w v g e = let same : z ≡ w = cc in ap (λ y. y ∷ map f xs) (e ∙ ap f (sym same))
map_set f (z ∷ xs) (suc k) w v g e = ap (λ ys. f z ∷ ys) (map_set f xs k w v g e)

get_removed_other : {X : Type 0} (xs : List X) (k : ℕ) (i : ℕ) (x : X) → slice_get (take k xs ++ drop (suc k) xs) i ≡ Some x
    → (j : ℕ) × (j ≡ k → ⊥) × (slice_get xs j ≡ Some x)
get_removed_other [] zero i x e = cc
get_removed_other [] (suc k) i x e = cc
get_removed_other (z ∷ xs) zero i x e = (suc i, λ (same : suc i ≡ 0). absurd (omega arith), e)
get_removed_other (z ∷ xs) (suc k) zero x e = (0, λ (same : 0 ≡ suc k). absurd (omega arith), e)
get_removed_other (z ∷ xs) (suc k) (suc i) x e =
    let (j, apart, there) = get_removed_other xs k i x e in
    (suc j, λ (same : suc j ≡ suc k). apart (omega arith), there)

-- what is left after one element went stood at another place
pub at_removed : {X : Type 0} (xs : List X) (k : ℕ) {i : ℕ} {x : X} → At (remove xs k) i x → (j : ℕ) × (j ≡ k → ⊥) × At xs j x
at_removed xs k {i = i} {x = x} h =
    let (j, apart, e) = get_removed_other xs k i x h.gets in
    (j, apart, record { gets = e })

pub length_left : {X : Type 0} (xs ys : List X) → length xs ≤ length (xs ++ ys)
length_left [] ys = omega arith
length_left (x ∷ xs) ys = omega (arith, length_left xs ys)

get_taken : {X : Type 0} (n : ℕ) (xs : List X) (i : ℕ) (x : X) → slice_get (take n xs) i ≡ Some x → (i < n) × (slice_get xs i ≡ Some x)
get_taken zero xs i x e = cc
get_taken (suc n) [] i x e = cc
get_taken (suc n) (y ∷ ys) zero x e = (omega arith, e)
get_taken (suc n) (y ∷ ys) (suc i) x e = let h = get_taken n ys i x e in (let l = h.0 in omega arith, h.1)

pub at_taken : {X : Type 0} (n : ℕ) (xs : List X) {i : ℕ} {x : X} → At (take n xs) i x → (i < n) × At xs i x
at_taken n xs {i = i} {x = x} h = let g = get_taken n xs i x h.gets in (g.0, record { gets = g.1 })

-- what a list gave at an index
pub at_read : {X : Type 0} (xs : List X) (i : ℕ) (x : X) → i < length xs → x ≡ get_or xs i x → At xs i x
at_read xs i x below read = record { gets = slice_get_read xs (length xs) i x refl below read }

get_take : {X : Type 0} (n : ℕ) (xs : List X) (i : ℕ) (x : X) → i < n → slice_get xs i ≡ Some x → slice_get (take n xs) i ≡ Some x
get_take zero xs i x l e = absurd (omega arith)
get_take (suc n) [] i x l e = e
get_take (suc n) (y ∷ ys) zero x l e = e
get_take (suc n) (y ∷ ys) (suc i) x l e = get_take n ys i x (omega arith) e

pub at_take : {X : Type 0} (n : ℕ) (xs : List X) {i : ℕ} {x : X} → i < n → At xs i x → At (take n xs) i x
at_take n xs {i = i} {x = x} l h = record { gets = get_take n xs i x l h.gets }

-- a test holds at the first place where it does
pub test_holds : {X : Type 0} (test : X → Bool) (xs : List X) (x : X) → slice_get xs (position_or_len test xs) ≡ Some x → test x ≡ true
test_holds test [] x e = cc
test_holds test (y ∷ xs) x e =
    elim (test y) as (λ b. test y ≡ b → slice_get (y ∷ xs) (cond (not b) (1 + position_or_len test xs) 0) ≡ Some x → test x ≡ true) [
      | true ↦ λ passes there. (let same : y ≡ x = cc in subst (λ z. test z ≡ true) same passes)
      | false ↦ λ fails there. test_holds test xs x (let next : 1 + position_or_len test xs ≡ suc (position_or_len test xs) = omega arith in
          subst (λ (k : ℕ). slice_get (y ∷ xs) k ≡ Some x) next there)
    ] refl e
