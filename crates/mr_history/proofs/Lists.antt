-- Places in lists.
use Rattle.std.proofs.Common.{◌≡◌, ℕ, zero, suc, ◌+◌, ◌<◌, ◌⊎◌, Bool, true, false, ◌||◌, List, [], ◌∷◌, ◌++◌, length, take, drop, slice_get, get_or, position, nat_lt, cond, not, Option, Some, None, refl, ap, inl, inr, subst, ◌∙◌, arith, ◌≤◌}
use Rattle.std.proofs.lemmas.Option.{slice_get_within, slice_get_read}
use Rattle.std.specs.List.{list_any, position_or_len, prefix_len}
use borrow.Author.Tests.{ltb-false}
use Rattle.std.specs.Slice.{IsItemAt}
use denote.Ref.{Bor}
use Rattle.mr_history.specs.Places.{At}

pub at_within : {X : Type 0} {xs : List X} {i : ℕ} {x : X} → At xs i x → i < length xs
at_within {xs = xs} {i = i} {x = x} h = slice_get_within xs i x h.gets

pub at_one : {X : Type 0} {xs : List X} {i : ℕ} {x y : X} → At xs i x → At xs i y → x ≡ y
at_one h k = let e = h.gets in let f = k.gets in cc

-- what a slice gave at an index
pub at_read : {X : Type 0} (xs : List X) (i : ℕ) (x : X) → i < length xs → x ≡ get_or xs i x → At xs i x
at_read xs i x below read = record { gets = slice_get_read xs (length xs) i x refl below read }

get_taken : {X : Type 0} (n : ℕ) (xs : List X) (i : ℕ) (x : X) → slice_get (take n xs) i ≡ Some x → (i < n) × (slice_get xs i ≡ Some x)
get_taken zero xs i x e = cc
get_taken (suc n) [] i x e = cc
get_taken (suc n) (y ∷ ys) zero x e = (omega arith, e)
get_taken (suc n) (y ∷ ys) (suc i) x e = let h = get_taken n ys i x e in (let l = h.0 in omega arith, h.1)

pub at_taken : {X : Type 0} (n : ℕ) (xs : List X) {i : ℕ} {x : X} → At (take n xs) i x → (i < n) × At xs i x
at_taken n xs {i = i} {x = x} h = let g = get_taken n xs i x h.gets in (g.0, record { gets = g.1 })

get_take : {X : Type 0} (n : ℕ) (xs : List X) (i : ℕ) (x : X) → i < n → slice_get xs i ≡ Some x → slice_get (take n xs) i ≡ Some x
get_take zero xs i x l e = absurd (omega arith)
get_take (suc n) [] i x l e = e
get_take (suc n) (y ∷ ys) zero x l e = e
get_take (suc n) (y ∷ ys) (suc i) x l e = get_take n ys i x (omega arith) e

pub at_take : {X : Type 0} (n : ℕ) (xs : List X) {i : ℕ} {x : X} → i < n → At xs i x → At (take n xs) i x
at_take n xs {i = i} {x = x} l h = record { gets = get_take n xs i x l h.gets }

get_dropped : {X : Type 0} (n : ℕ) (xs : List X) (i : ℕ) (x : X) → slice_get (drop n xs) i ≡ Some x → slice_get xs (n + i) ≡ Some x
get_dropped zero xs i x e = let z : 0 + i ≡ i = omega arith in rw z e
get_dropped (suc n) [] i x e = cc
get_dropped (suc n) (y ∷ ys) i x e = let z : suc n + i ≡ suc (n + i) = omega arith in rw z (get_dropped n ys i x e)

pub at_dropped : {X : Type 0} (n : ℕ) (xs : List X) {i : ℕ} {x : X} → At (drop n xs) i x → At xs (n + i) x
at_dropped n xs {i = i} {x = x} h = record { gets = get_dropped n xs i x h.gets }

get_drop : {X : Type 0} (n : ℕ) (xs : List X) (i : ℕ) (x : X) → slice_get xs (n + i) ≡ Some x → slice_get (drop n xs) i ≡ Some x
get_drop zero xs i x e = let z : 0 + i ≡ i = omega arith in rw z at e
get_drop (suc n) [] i x e = e
get_drop (suc n) (y ∷ ys) i x e = let z : suc n + i ≡ suc (n + i) = omega arith in get_drop n ys i x (subst (λ (k : ℕ). slice_get (y ∷ ys) k ≡ Some x) z e)

pub at_drop : {X : Type 0} (n : ℕ) (xs : List X) {i : ℕ} {x : X} → At xs (n + i) x → At (drop n xs) i x
at_drop n xs {i = i} {x = x} h = record { gets = get_drop n xs i x h.gets }

get_last : {X : Type 0} (xs : List X) (y : X) (i : ℕ) (x : X) → slice_get (xs ++ y ∷ []) i ≡ Some x → (slice_get xs i ≡ Some x) ⊎ ((i ≡ length xs) × (x ≡ y))
get_last [] y zero x e = inr (refl, cc)
get_last [] y (suc i) x e = cc
get_last (z ∷ xs) y zero x e = inl e
get_last (z ∷ xs) y (suc i) x e = elim (get_last xs y i x e) [ inl h ↦ inl h | inr h ↦ inr (ap suc h.0, h.1) ]

pub at_last : {X : Type 0} (xs : List X) (y : X) {i : ℕ} {x : X} → At (xs ++ y ∷ []) i x → (At xs i x) ⊎ ((i ≡ length xs) × (x ≡ y))
at_last xs y {i = i} {x = x} h = elim (get_last xs y i x h.gets) [ inl e ↦ inl (record { gets = e }) | inr e ↦ inr e ]

get_left : {X : Type 0} (xs ys : List X) (i : ℕ) (x : X) → slice_get xs i ≡ Some x → slice_get (xs ++ ys) i ≡ Some x
get_left [] ys i x e = cc
get_left (z ∷ xs) ys zero x e = e
get_left (z ∷ xs) ys (suc i) x e = get_left xs ys i x e

pub at_left : {X : Type 0} {xs : List X} (ys : List X) {i : ℕ} {x : X} → At xs i x → At (xs ++ ys) i x
at_left {xs = xs} ys {i = i} {x = x} h = record { gets = get_left xs ys i x h.gets }

get_before : {X : Type 0} (xs ys : List X) (i : ℕ) (x : X) → slice_get (xs ++ ys) i ≡ Some x → i < length xs → slice_get xs i ≡ Some x
get_before [] ys i x e below = absurd (omega arith)
get_before (z ∷ xs) ys zero x e below = e
get_before (z ∷ xs) ys (suc i) x e below = get_before xs ys i x e (omega arith)

-- below the end of what was there, the list that grew has what was there
pub at_before : {X : Type 0} (xs ys : List X) {i : ℕ} {x : X} → At (xs ++ ys) i x → i < length xs → At xs i x
at_before xs ys {i = i} {x = x} h below = record { gets = get_before xs ys i x h.gets below }

-- some element passes
pub any_place : {X : Type 0} (test : X → Bool) (xs : List X) → list_any test xs ≡ true → (place : ℕ) × (x : X) × At xs place x × (test x ≡ true)
any_place test [] h = cc
any_place test (x ∷ xs) h =
    elim (test x) as (λ b. test x ≡ b → (b || list_any test xs) ≡ true → (place : ℕ) × (y : _) × At (x ∷ xs) place y × (test y ≡ true)) [
      | true ↦ λ e _. (0, x, record { gets = refl }, e)
      | false ↦ λ e later. let (place, y, there, passes) = any_place test xs later in (suc place, y, record { gets = there.gets }, passes)
    ] refl h

-- where none does, none does at any place
pub none_passes : {X : Type 0} (test : X → Bool) (xs : List X) (place : ℕ) (x : X) → list_any test xs ≡ false → slice_get xs place ≡ Some x → test x ≡ false
none_passes test [] place x h e = cc
none_passes test (y ∷ ys) zero x h e =
    elim (test y) as (λ b. test y ≡ b → (b || list_any test ys) ≡ false → test x ≡ false) [
      | true ↦ λ s f. cc
      | false ↦ λ s f. let same : y ≡ x = cc in rw (← same) s
    ] refl h
none_passes test (y ∷ ys) (suc place) x h e =
    elim (test y) as (λ b. (b || list_any test ys) ≡ false → test x ≡ false) [
      | true ↦ λ f. cc
      | false ↦ λ f. none_passes test ys place x f e
    ] h

-- the first element that passes comes no later than one that does
found_within : {X : Type 0} (test : X → Bool) (xs : List X) (place : ℕ) (x : X) → slice_get xs place ≡ Some x → test x ≡ true → position_or_len test xs < length xs
found_within test [] place x there passes = cc
found_within test (y ∷ ys) zero x there passes =
    let same : y ≡ x = cc in
    let here : test y ≡ true = ap test same ∙ passes in
    rw here (omega arith)
found_within test (y ∷ ys) (suc place) x there passes =
    elim (test y) as (λ b. cond (not b) (1 + prefix_len (λ z. not (test z)) ys) 0 < suc (length ys)) [
      | true ↦ omega arith
      | false ↦ omega (arith, found_within test ys place x there passes)
    ]

pub position_none : {X : Type 0} (test : X → Bool) (xs : List X) (place : ℕ) (x : X) → position test xs ≡ None → At xs place x → test x ≡ false
position_none test xs place x none there =
    elim (test x) as (λ b. test x ≡ b → b ≡ false) [
      | false ↦ λ e. refl
      | true ↦ λ e.
          let below = found_within test xs place x there.gets e in
          elim (nat_lt (position_or_len test xs) (length xs)) as (λ b. nat_lt (position_or_len test xs) (length xs) ≡ b
          → cond b (Some (position_or_len test xs)) None ≡ None → true ≡ false) [
            | true ↦ λ f g. cc
            | false ↦ λ f g. absurd (let over = ltb-false _ _ f in omega arith)
          ] refl none
    ] refl

-- what a look at an index gave
pub got : {X : Type 0} (xs : List X) (i : ℕ) (r : Option (Bor X)) (x : Bor X) → IsItemAt xs i r → r ≡ Some x → At xs i x.now
got xs i r x h is = let g = subst (IsItemAt xs i) is h in at_read xs i x.now g.3.0 g.1

pub not_got : {X : Type 0} (xs : List X) (i : ℕ) (r : Option (Bor X)) → IsItemAt xs i r → r ≡ None → length xs ≤ i
not_got xs i r h is = let g = subst (IsItemAt xs i) is h in g.3
