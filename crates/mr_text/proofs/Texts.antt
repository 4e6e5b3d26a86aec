-- Tests of texts.
use Rattle.std.proofs.Common.{◌≡◌, ◌≢◌, ℕ, zero, suc, ◌||◌, Bool, true, false, List, [], ◌∷◌, Contains, refl, sym, subst, arith}
use Rattle.std.specs.Str.{bytes_eq}
use Rattle.std.specs.List.{list_any}
use Rattle.std.proofs.lemmas.Slice.Eq.{bytes_eq-Decides}
use Rattle.std.proofs.lemmas.Map.Views.{Contains-from_any}

pub text_true : (a b : List ℕ) → bytes_eq a b ≡ true → a ≡ b
text_true a b e = (bytes_eq-Decides a b).0 e

pub true_text : (a b : List ℕ) → a ≡ b → bytes_eq a b ≡ true
true_text a b e = (bytes_eq-Decides a b).1 e

pub text_false : (a b : List ℕ) → bytes_eq a b ≡ false → a ≢ b
text_false a b e is = let same = true_text a b is in cc

-- a text that a test finds is among the texts
pub among_true : (text : List ℕ) (texts : List (List ℕ)) → list_any (bytes_eq text) texts ≡ true → Contains texts text
among_true text texts e = Contains-from_any {eq = bytes_eq} text_true text texts e

or_true : (a b : Bool) → b ≡ true → (a || b) ≡ true
or_true true b e = refl
or_true false b e = e

pub true_among : (text : List ℕ) (texts : List (List ℕ)) → Contains texts text → list_any (bytes_eq text) texts ≡ true
true_among text [] (k, within, at) = absurd (omega arith)
true_among text (t ∷ ts) (zero, within, at) = let same = true_text text t (sym at) in rw same refl
true_among text (t ∷ ts) (suc k, within, at) = or_true (bytes_eq text t) (list_any (bytes_eq text) ts) (true_among text ts (k, omega arith, at))

-- where a text is none of the texts, each of them is another
pub not_among : (word text : List ℕ) (texts : List (List ℕ)) → list_any (bytes_eq word) texts ≡ false → Contains texts text → bytes_eq word text ≡ false
not_among word text texts none has = go (bytes_eq word text) refl
  where
    go : (t : Bool) → bytes_eq word text ≡ t → bytes_eq word text ≡ false
    go true e = absurd (let same = text_true word text e in let there = true_among word texts (subst (Contains texts) (sym same) has) in cc)
    go false e = e
