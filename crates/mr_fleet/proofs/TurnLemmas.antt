-- A turn of a loop that takes the next item of a list, and puts what comes of it behind another list.
use Rattle.std.proofs.Common.{◌≡◌, ℕ, ◌+◌, ◌<◌, List, [], ◌∷◌, ◌++◌, map, length, take, get_or, sym, ap, ◌∙◌, arith}
use Rattle.std.proofs.lemmas.List.{append-nil, append_assoc, map_push, map_more, length-map, nil_from_length}

-- there was one item more
pub fewer : {A : Type 0} (left : List A) (one : A) (rest : List A) → left ≡ one ∷ rest → length left ≡ length rest + 1
fewer left one rest e = ap length e ∙ omega arith

-- what was put there and what is left are all, still
pub moved : {X : Type 0} (done : List X) (one : X) (rest done' left all : List X)
    → done' ≡ done ++ one ∷ [] → left ≡ one ∷ rest → done ++ left ≡ all → done' ++ rest ≡ all
moved done one rest done' left all d e h = ap (λ xs. xs ++ rest) d ∙ append_assoc done (one ∷ []) rest ∙ ap (λ xs. done ++ xs) (sym e) ∙ h

-- the same of what is said of each item that was put there
pub moved_as : {B X : Type 0} (f : B → X) (done : List B) (new : B) (rest : List X) (done' : List B) (left all : List X)
    → done' ≡ done ++ new ∷ [] → left ≡ f new ∷ rest → map f done ++ left ≡ all → map f done' ++ rest ≡ all
moved_as f done new rest done' left all d e h = moved (map f done) (f new) rest (map f done') left all (ap (map f) d ∙ map_push f done new) e h

-- the same of what is said of each item of both
pub moved_map : {A B X : Type 0} (f : B → X) (g : A → X) (done : List B) (new : B) (one : A) (rest : List A) (done' : List B) (left : List A) (all : List X)
    → done' ≡ done ++ new ∷ [] → left ≡ one ∷ rest → f new ≡ g one → map f done ++ map g left ≡ all → map f done' ++ map g rest ≡ all
moved_map f g done new one rest done' left all d e s h =
    moved_as f done new (map g rest) done' (map g left) all d (ap (map g) e ∙ ap (λ x. x ∷ map g rest) (sym s)) h

-- nothing is left, so what was put there is all
pub all_moved : {X : Type 0} (done left all : List X) → length left ≡ 0 → done ++ left ≡ all → done ≡ all
all_moved done left all none h = sym (append-nil done) ∙ ap (λ xs. done ++ xs) (sym (nil_from_length left none)) ∙ h

-- the same of what is said of each item
pub all_moved_map : {A X : Type 0} (g : A → X) (done : List X) (left : List A) (all : List X) → length left ≡ 0 → done ++ map g left ≡ all → done ≡ all
all_moved_map g done left all none h = all_moved done (map g left) all (length-map left g ∙ none) h

-- a list that has an item for each of the first of another has one for the next too
pub grown : {A B X : Type 0} (f : B → X) (g : A → X) (done : List B) (new : B) (xs : List A) (i : ℕ) (one : A) (done' : List B)
    → i < length xs → done' ≡ done ++ new ∷ [] → one ≡ get_or xs i one → f new ≡ g one → map f done ≡ map g (take i xs) → map f done' ≡ map g (take (i + 1) xs)
grown f g done new xs i one done' within d at s h =
    ap (map f) d ∙ map_push f done new ∙ ap (λ ys. ys ++ f new ∷ []) h ∙ ap (λ y. map g (take i xs) ++ y ∷ []) (s ∙ ap g at) ∙ sym (map_more g xs i one within)

-- where two lists agree in what is said of each item, the first of each do
pub firsts : {A B : Type 0} (f : A → ℕ) (g : B → ℕ) (xs : List A) (ys : List B) (x : A) (y : B) (xs' : List A) (ys' : List B)
    → xs ≡ x ∷ xs' → ys ≡ y ∷ ys' → map f xs ≡ map g ys → f x ≡ g y
firsts f g xs ys x y xs' ys' dx dy h = let e : f x ∷ map f xs' ≡ g y ∷ map g ys' = ap (map f) (sym dx) ∙ h ∙ ap (map g) dy in cc

-- and the others do
pub others : {A B : Type 0} (f : A → ℕ) (g : B → ℕ) (xs : List A) (ys : List B) (x : A) (y : B) (xs' : List A) (ys' : List B)
    → xs ≡ x ∷ xs' → ys ≡ y ∷ ys' → map f xs ≡ map g ys → map f xs' ≡ map g ys'
others f g xs ys x y xs' ys' dx dy h = let e : f x ∷ map f xs' ≡ g y ∷ map g ys' = ap (map f) (sym dx) ∙ h ∙ ap (map g) dy in cc
