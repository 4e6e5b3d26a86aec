-- The first element that passes a test, in a list and in what a filter keeps of it.
use Rattle.std.proofs.Common.{◌≡◌, ℕ, zero, suc, ◌+◌, ◌≤◌, Bool, true, false, not, cond, List, [], ◌∷◌, ◌++◌, length, slice_get, slice_set, remove, Some, refl, sym, ap, ◌∙◌, arith}
use Rattle.std.specs.List.{filter, position_or_len}

pub keeps : {X : Type 0} (p : X → Bool) (z : X) (zs : List X) → p z ≡ true → filter p (z ∷ zs) ≡ z ∷ filter p zs
keeps p z zs e = ap (λ b. cond b (z ∷ filter p zs) (filter p zs)) e

pub drops : {X : Type 0} (p : X → Bool) (z : X) (zs : List X) → p z ≡ false → filter p (z ∷ zs) ≡ filter p zs
drops p z zs e = ap (λ b. cond b (z ∷ filter p zs) (filter p zs)) e

here : {X : Type 0} (m : X → Bool) (z : X) (zs : List X) → m z ≡ true → position_or_len m (z ∷ zs) ≡ 0
here m z zs e = ap (λ b. cond (not b) (1 + position_or_len m zs) 0) e

later : {X : Type 0} (m : X → Bool) (z : X) (zs : List X) → m z ≡ false → position_or_len m (z ∷ zs) ≡ suc (position_or_len m zs)
later m z zs e =
    let one : 1 + position_or_len m zs ≡ suc (position_or_len m zs) = omega arith in
    ap (λ b. cond (not b) (1 + position_or_len m zs) 0) e ∙ one

-- the first that passes one test is kept by the other, and stands first there too
pub record IsFirst {X : Type 0} (m p : X → Bool) (xs : List X) (x : X) : Type 0 where
  pub there : slice_get (filter p xs) (position_or_len m (filter p xs)) ≡ Some x
  pub sets : (y : X) → p y ≡ true → filter p (slice_set xs (position_or_len m xs) y) ≡ slice_set (filter p xs) (position_or_len m (filter p xs)) y
  pub sets_out : (y : X) → p y ≡ false → filter p (slice_set xs (position_or_len m xs) y) ≡ remove (filter p xs) (position_or_len m (filter p xs))
  pub takes : filter p (remove xs (position_or_len m xs)) ≡ remove (filter p xs) (position_or_len m (filter p xs))

first_here : {X : Type 0} (m p : X → Bool) (z : X) (zs : List X) (x : X) → m z ≡ true → p z ≡ true → z ≡ x → IsFirst m p (z ∷ zs) x
first_here m p z zs x em ep same =
    let at : position_or_len m (z ∷ zs) ≡ 0 = here m z zs em in
    let kept : filter p (z ∷ zs) ≡ z ∷ filter p zs = keeps p z zs ep in
    let at' : position_or_len m (filter p (z ∷ zs)) ≡ 0 = ap (λ l. position_or_len m l) kept ∙ here m z (filter p zs) em in
    record {
      there = ap (λ l. slice_get l (position_or_len m (filter p (z ∷ zs)))) kept ∙ ap (λ k. slice_get (z ∷ filter p zs) k) at' ∙ ap (λ y. Some y) same;
      sets = λ y e. ap (λ k. filter p (slice_set (z ∷ zs) k y)) at ∙ keeps p y zs e
          ∙ sym (ap (λ l. slice_set l (position_or_len m (filter p (z ∷ zs))) y) kept ∙ ap (λ k. slice_set (z ∷ filter p zs) k y) at');
      sets_out = λ y e. ap (λ k. filter p (slice_set (z ∷ zs) k y)) at ∙ drops p y zs e
          ∙ sym (ap (λ l. remove l (position_or_len m (filter p (z ∷ zs)))) kept ∙ ap (λ k. remove (z ∷ filter p zs) k) at');
      takes = ap (λ k. filter p (remove (z ∷ zs) k)) at
          ∙ sym (ap (λ l. remove l (position_or_len m (filter p (z ∷ zs)))) kept ∙ ap (λ k. remove (z ∷ filter p zs) k) at');
    }

first_kept : {X : Type 0} (m p : X → Bool) (z : X) (zs : List X) (x : X) → m z ≡ false → p z ≡ true → IsFirst m p zs x → IsFirst m p (z ∷ zs) x
first_kept m p z zs x em ep f =
    let k : ℕ = position_or_len m zs in
    let k' : ℕ = position_or_len m (filter p zs) in
    let at : position_or_len m (z ∷ zs) ≡ suc k = later m z zs em in
    let kept : filter p (z ∷ zs) ≡ z ∷ filter p zs = keeps p z zs ep in
    let at' : position_or_len m (filter p (z ∷ zs)) ≡ suc k' = ap (λ l. position_or_len m l) kept ∙ later m z (filter p zs) em in
    record {
      there = ap (λ l. slice_get l (position_or_len m (filter p (z ∷ zs)))) kept ∙ ap (λ n. slice_get (z ∷ filter p zs) n) at' ∙ f.there;
      sets = λ y e. ap (λ n. filter p (slice_set (z ∷ zs) n y)) at ∙ keeps p z (slice_set zs k y) ep ∙ ap (λ l. z ∷ l) (f.sets y e)
          ∙ sym (ap (λ l. slice_set l (position_or_len m (filter p (z ∷ zs))) y) kept ∙ ap (λ n. slice_set (z ∷ filter p zs) n y) at');
      sets_out = λ y e. ap (λ n. filter p (slice_set (z ∷ zs) n y)) at ∙ keeps p z (slice_set zs k y) ep ∙ ap (λ l. z ∷ l) (f.sets_out y e)
          ∙ sym (ap (λ l. remove l (position_or_len m (filter p (z ∷ zs)))) kept ∙ ap (λ n. remove (z ∷ filter p zs) n) at');
      takes = ap (λ n. filter p (remove (z ∷ zs) n)) at ∙ keeps p z (remove zs k) ep ∙ ap (λ l. z ∷ l) f.takes
          ∙ sym (ap (λ l. remove l (position_or_len m (filter p (z ∷ zs)))) kept ∙ ap (λ n. remove (z ∷ filter p zs) n) at');
    }

first_dropped : {X : Type 0} (m p : X → Bool) (z : X) (zs : List X) (x : X) → m z ≡ false → p z ≡ false → IsFirst m p zs x → IsFirst m p (z ∷ zs) x
first_dropped m p z zs x em ep f =
    let k : ℕ = position_or_len m zs in
    let at : position_or_len m (z ∷ zs) ≡ suc k = later m z zs em in
    let kept : filter p (z ∷ zs) ≡ filter p zs = drops p z zs ep in
    record {
      there = ap (λ l. slice_get l (position_or_len m l)) kept ∙ f.there;
      sets = λ y e. ap (λ n. filter p (slice_set (z ∷ zs) n y)) at ∙ drops p z (slice_set zs k y) ep ∙ f.sets y e
          ∙ sym (ap (λ l. slice_set l (position_or_len m l) y) kept);
      sets_out = λ y e. ap (λ n. filter p (slice_set (z ∷ zs) n y)) at ∙ drops p z (slice_set zs k y) ep ∙ f.sets_out y e
          ∙ sym (ap (λ l. remove l (position_or_len m l)) kept);
      takes = ap (λ n. filter p (remove (z ∷ zs) n)) at ∙ drops p z (remove zs k) ep ∙ f.takes ∙ sym (ap (λ l. remove l (position_or_len m l)) kept);
    }

first_step : {X : Type 0} (m p : X → Bool) (z : X) (zs : List X) (x : X) (bm bp : Bool) → m z ≡ bm → p z ≡ bp
    → slice_get (z ∷ zs) (position_or_len m (z ∷ zs)) ≡ Some x → p x ≡ true
    → (slice_get zs (position_or_len m zs) ≡ Some x → IsFirst m p zs x) → IsFirst m p (z ∷ zs) x
first_step m p z zs x true true em ep e a next =
    let same : z ≡ x = (let both : Some z ≡ Some x = ap (λ k. slice_get (z ∷ zs) k) (sym (here m z zs em)) ∙ e in cc) in
    first_here m p z zs x em ep same
first_step m p z zs x true false em ep e a next =
    let same : z ≡ x = (let both : Some z ≡ Some x = ap (λ k. slice_get (z ∷ zs) k) (sym (here m z zs em)) ∙ e in cc) in
    absurd (let never : false ≡ true = sym ep ∙ ap p same ∙ a in cc)
first_step m p z zs x false true em ep e a next = first_kept m p z zs x em ep (next (ap (λ k. slice_get (z ∷ zs) k) (sym (later m z zs em)) ∙ e))
first_step m p z zs x false false em ep e a next = first_dropped m p z zs x em ep (next (ap (λ k. slice_get (z ∷ zs) k) (sym (later m z zs em)) ∙ e))

pub first_is : {X : Type 0} (m p : X → Bool) (xs : List X) (x : X) → slice_get xs (position_or_len m xs) ≡ Some x → p x ≡ true → IsFirst m p xs x
first_is m p [] x e a = cc
first_is m p (z ∷ zs) x e a = first_step m p z zs x (m z) (p z) refl refl e a (λ e'. first_is m p zs x e' a)

-- what is filtered out may change, or leave
out_step : {X : Type 0} (p : X → Bool) (z : X) (xs ys : List X) (b : Bool) → p z ≡ b → filter p xs ≡ filter p ys → filter p (z ∷ xs) ≡ filter p (z ∷ ys)
out_step p z xs ys true e h = keeps p z xs e ∙ ap (λ l. z ∷ l) h ∙ sym (keeps p z ys e)
out_step p z xs ys false e h = drops p z xs e ∙ h ∙ sym (drops p z ys e)

pub out_set : {X : Type 0} (p : X → Bool) (xs : List X) (k : ℕ) (x y : X) → slice_get xs k ≡ Some x → p x ≡ false → p y ≡ false → filter p (slice_set xs k y) ≡ filter p xs
out_set p [] k x y e a b = refl
out_set p (z ∷ zs) zero x y e a b =
    let same : z ≡ x = cc in
    drops p y zs b ∙ sym (drops p z zs (ap p same ∙ a))
out_set p (z ∷ zs) (suc k) x y e a b = out_step p z (slice_set zs k y) zs (p z) refl (out_set p zs k x y e a b)

pub out_removed : {X : Type 0} (p : X → Bool) (xs : List X) (k : ℕ) (x : X) → slice_get xs k ≡ Some x → p x ≡ false → filter p (remove xs k) ≡ filter p xs
out_removed p [] k x e a = cc
out_removed p (z ∷ zs) zero x e a = let same : z ≡ x = cc in sym (drops p z zs (ap p same ∙ a))
out_removed p (z ∷ zs) (suc k) x e a = out_step p z (remove zs k) zs (p z) refl (out_removed p zs k x e a)

-- one more that is kept
kept_step : {X : Type 0} (p : X → Bool) (z x : X) (zs : List X) (b : Bool) → p z ≡ b → filter p (zs ++ x ∷ []) ≡ filter p zs ++ x ∷ [] → filter p (z ∷ (zs ++ x ∷ [])) ≡ filter p (z ∷ zs) ++ x ∷ []
kept_step p z x zs true e h = keeps p z (zs ++ x ∷ []) e ∙ ap (λ l. z ∷ l) h ∙ ap (λ l. l ++ x ∷ []) (sym (keeps p z zs e))
kept_step p z x zs false e h = drops p z (zs ++ x ∷ []) e ∙ h ∙ ap (λ l. l ++ x ∷ []) (sym (drops p z zs e))

pub kept_last : {X : Type 0} (p : X → Bool) (xs : List X) (x : X) → p x ≡ true → filter p (xs ++ x ∷ []) ≡ filter p xs ++ x ∷ []
kept_last p [] x e = keeps p x [] e
kept_last p (z ∷ zs) x e = kept_step p z x zs (p z) refl (kept_last p zs x e)

fewer_step : {X : Type 0} (p : X → Bool) (z : X) (zs : List X) (b : Bool) → p z ≡ b → length (filter p zs) ≤ length zs → length (filter p (z ∷ zs)) ≤ length (z ∷ zs)
fewer_step p z zs true e h = let same = ap length (keeps p z zs e) in omega arith
fewer_step p z zs false e h = let same = ap length (drops p z zs e) in omega arith

pub fewer : {X : Type 0} (p : X → Bool) (xs : List X) → length (filter p xs) ≤ length xs
fewer p [] = omega arith
fewer p (z ∷ zs) = fewer_step p z zs (p z) refl (fewer p zs)
