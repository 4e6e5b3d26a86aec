-- Elements of lists that grow and that are written to.
use Rattle.std.proofs.Common.{◌≡◌, ℕ, ◌+◌, ◌<◌, ◌-◌, suc, zero, List, [], ◌∷◌, ◌++◌, Some, length, take, get_or, slice_set, refl, sym, ap, ◌∙◌, arith, length-append}
use Rattle.std.specs.Prelude.{slice_get}
use Rattle.std.proofs.lemmas.List.{take_at}
use Rattle.std.proofs.lemmas.Option.{slice_get-get_or}
use Rattle.mr_loop.specs.declared.client.Client.{Client}
use Rattle.mr_loop.specs.Events.{changed, changed_in}

pub set_same : {X : Type 0} (xs : List X) (n : ℕ) (x : X) → slice_get xs n ≡ Some x → slice_set xs n x ≡ xs
set_same [] n x h = refl
set_same (z ∷ xs) zero x h = let e : z ≡ x = cc in ap (λ y. y ∷ xs) (sym e)
set_same (z ∷ xs) (suc n) x h = ap (λ ys. z ∷ ys) (set_same xs n x h)

pub set_there : {X : Type 0} (xs : List X) (n : ℕ) (x y : X) → slice_get xs n ≡ Some y → slice_get (slice_set xs n x) n ≡ Some x
set_there [] n x y h = cc
set_there (z ∷ xs) zero x y h = refl
set_there (z ∷ xs) (suc n) x y h = set_there xs n x y h

pub last_taken : {X : Type 0} (xs : List X) (x : X) → take (length (xs ++ x ∷ []) - 1) (xs ++ x ∷ []) ≡ xs
last_taken xs x =
    let long : length (xs ++ x ∷ []) ≡ length xs + 1 = length-append xs (x ∷ []) ∙ omega arith in
    let size : length xs ≡ length (xs ++ x ∷ []) - 1 = omega arith in
    take_at xs (x ∷ []) (length (xs ++ x ∷ []) - 1) size

set_at_end : {X : Type 0} (xs : List X) (x y : X) → slice_set (xs ++ x ∷ []) (length xs) y ≡ xs ++ y ∷ []
set_at_end [] x y = refl
set_at_end (z ∷ xs) x y = ap (λ ys. z ∷ ys) (set_at_end xs x y)

pub last_set : {X : Type 0} (xs : List X) (x y : X) → slice_set (xs ++ x ∷ []) (length (xs ++ x ∷ []) - 1) y ≡ xs ++ y ∷ []
last_set xs x y =
    let long : length (xs ++ x ∷ []) ≡ length xs + 1 = length-append xs (x ∷ []) ∙ omega arith in
    let size : length (xs ++ x ∷ []) - 1 ≡ length xs = omega arith in
    ap (λ n. slice_set (xs ++ x ∷ []) n y) size ∙ set_at_end xs x y

-- a change of a client that is there
pub changes : (clients : List Client) (place : ℕ) (client : Client) (change : Client → Client)
    → slice_get clients place ≡ Some client → changed place change clients ≡ slice_set clients place (change client)
changes clients place client change e = ap (λ o. changed_in o place change clients) e

-- what stands at a place, whatever would be there past the end
pub get_any : {X : Type 0} (xs : List X) (n : ℕ) (d e : X) → n < length xs → get_or xs n d ≡ get_or xs n e
get_any xs n d e within =
    let one = slice_get-get_or xs n d within in
    let other = slice_get-get_or xs n e within in
    cc
