-- What is asked and counted of numbers one after the other.
use Rattle.std.proofs.Common.{◌≡◌, ◌∙◌, ℕ, zero, suc, ◌+◌, ◌-◌, ◌<◌, Bool, true, false, ◌||◌, cond, List, [], ◌∷◌, ◌++◌, length, refl, sym, ap, arith, count_by, sum_by}
use Rattle.std.specs.List.{list_any, range_with_len}
use Rattle.std.proofs.lemmas.Bool.{le-ltb, ltb-false}
use Rattle.std.proofs.lemmas.List.Folds.{list_any-append, list_any_at}
use Rattle.std.proofs.lemmas.List.FromFn.{get_or-range_with_len, length-range_with_len}
use Rattle.std.proofs.lemmas.List.Sums.{sum_by-append}
use Rattle.mr_pools.specs.Routing.{IsRouting, RoutingView, place_of, pool_of}
use Rattle.std.specs.Prelude.{◌%◌, ◌≤◌, ◌&&◌, not, if◌then◌else◌, nat_lt}
use Rattle.mr_probes.specs.Choosing.{chosen_below, chosen_with, has_bare, has_bare_in, hits_bare, hits_bare_in, is_bare}
use Rattle.mr_probes.specs.Naming.{key_text}
use Rattle.mr_probes.proofs.RoundLemmas.{range_more}

or_both : (a b : Bool) → a ≡ false → b ≡ false → (a || b) ≡ false
or_both true b p q = absurd (cc)
or_both false b p q = q

pub any_at : (p : ℕ → Bool) (n k : ℕ) → k < n → p k ≡ true → list_any p (range_with_len 0 n) ≡ true
any_at p n k within holds =
    let long = length-range_with_len 0 n in
    let low : k < length (range_with_len 0 n) = omega (arith, long) in
    let z : 0 + k ≡ k = omega arith in
    list_any_at p (range_with_len 0 n) k 0 low (ap p (get_or-range_with_len 0 n k 0 within ∙ z) ∙ holds)

pub any_more : (p : ℕ → Bool) (n : ℕ) → list_any p (range_with_len 0 n) ≡ false → p n ≡ false → list_any p (range_with_len 0 (n + 1)) ≡ false
any_more p n none fails =
    let z : 0 + n ≡ n = omega arith in
    ap (list_any p) (range_more 0 n) ∙ list_any-append p (range_with_len 0 n) ((0 + n) ∷ [])
    ∙ or_both (list_any p (range_with_len 0 n)) (p (0 + n) || false) none (or_both (p (0 + n)) false (ap p z ∙ fails) refl)

single : (f : ℕ → ℕ) (n : ℕ) → sum_by f (n ∷ []) ≡ f n
single f n = omega arith

pub sum_more : (f : ℕ → ℕ) (n : ℕ) → sum_by f (range_with_len 0 (n + 1)) ≡ sum_by f (range_with_len 0 n) + f n
sum_more f n =
    let z : 0 + n ≡ n = omega arith in
    ap (sum_by f) (range_more 0 n) ∙ sum_by-append f (range_with_len 0 n) ((0 + n) ∷ [])
    ∙ ap (λ (m : ℕ). sum_by f (range_with_len 0 n) + m) (ap (λ (k : ℕ). sum_by f (k ∷ [])) z ∙ single f n)

pub count_more : (p : ℕ → Bool) (n : ℕ) → count_by p (range_with_len 0 (n + 1)) ≡ count_by p (range_with_len 0 n) + cond (p n) 1 0
count_more p n = sum_more (λ k. cond (p k) 1 0) n

pub count_yes : (p : ℕ → Bool) (n : ℕ) → p n ≡ true → count_by p (range_with_len 0 (n + 1)) ≡ count_by p (range_with_len 0 n) + 1
count_yes p n holds = count_more p n ∙ ap (λ (b : Bool). count_by p (range_with_len 0 n) + cond b 1 0) holds

pub count_no : (p : ℕ → Bool) (n : ℕ) → p n ≡ false → count_by p (range_with_len 0 (n + 1)) ≡ count_by p (range_with_len 0 n)
count_no p n fails =
    let z : count_by p (range_with_len 0 n) + 0 ≡ count_by p (range_with_len 0 n) = omega arith in
    count_more p n ∙ ap (λ (b : Bool). count_by p (range_with_len 0 n) + cond b 1 0) fails ∙ z

pub chosen_none : (routing : RoutingView) (prefix : List ℕ) (run count : ℕ) → chosen_below routing prefix run count 0 ≡ []
unfolding chosen_below
chosen_none routing prefix run count = refl

pub chosen_more : (routing : RoutingView) (prefix : List ℕ) (run count number : ℕ)
    → chosen_below routing prefix run count (number + 1) ≡ chosen_with routing count number (key_text prefix run number) (chosen_below routing prefix run count number)
unfolding chosen_below
chosen_more routing prefix run count number =
    let s : number + 1 ≡ suc number = omega arith in
    ap (chosen_below routing prefix run count) s

pub chosen_step : (routing : RoutingView) (prefix : List ℕ) (run count number : ℕ) (keys lent new : List (List ℕ)) (key : List ℕ) (taken : Bool)
    → new ≡ (if taken then keys ++ key ∷ [] else keys) → taken ≡ (nat_lt number count || hits_bare routing lent key) → lent ≡ keys → key ≡ key_text prefix run number
    → keys ≡ chosen_below routing prefix run count number → new ≡ chosen_below routing prefix run count (number + 1)
chosen_step routing prefix run count number keys lent new key taken new_is taken_is lent_is key_is keys_are =
    let b : taken ≡ (nat_lt number count || hits_bare routing keys key) = taken_is ∙ ap (λ (l : List (List ℕ)). nat_lt number count || hits_bare routing l key) lent_is in
    let with : new ≡ chosen_with routing count number key keys = new_is ∙ ap (λ (t : Bool). if t then keys ++ key ∷ [] else keys) b in
    with ∙ ap (λ (k : List ℕ). chosen_with routing count number k keys) key_is
    ∙ ap (λ (l : List (List ℕ)). chosen_with routing count number (key_text prefix run number) l) keys_are ∙ sym (chosen_more routing prefix run count number)

-- where each node has a key, no key lies at one that has none
module _ (routing : RoutingView) (is : IsRouting routing) (keys : List (List ℕ)) (key : List ℕ) (full : has_bare routing keys ≡ false) where
  hits_none_in : (number : ℕ) → number < length routing.pools → hits_bare_in routing keys key number ≡ false
  hits_none_in number within = go (hits_bare_in routing keys key number) refl
    where
      go : (b : Bool) → hits_bare_in routing keys key number ≡ b → b ≡ false
      go false hits = refl
      go true hits =
          let sized : 1 ≤ length (pool_of routing number) = (is.sized number within).not_empty in
          let low : place_of routing.hash (pool_of routing number) key < length (pool_of routing number) = omega (arith, sized) in
          let in_pool : has_bare_in routing keys number ≡ true = any_at (is_bare routing keys number) (length (pool_of routing number)) _ low hits in
          let never : true ≡ false = sym (any_at (has_bare_in routing keys) (length routing.pools) number within in_pool) ∙ full in
          absurd (cc)

  hits_none_below : (n : ℕ) → n ≤ length routing.pools → list_any (hits_bare_in routing keys key) (range_with_len 0 n) ≡ false
  hits_none_below zero low = refl
  hits_none_below (suc n) low =
      let within : n < length routing.pools = omega (arith, low) in
      let less : n ≤ length routing.pools = omega (arith, low) in
      let s : suc n ≡ n + 1 = omega arith in
      ap (λ (m : ℕ). list_any (hits_bare_in routing keys key) (range_with_len 0 m)) s
      ∙ any_more (hits_bare_in routing keys key) n (hits_none_below n less) (hits_none_in n within)

  pub hits_none : hits_bare routing keys key ≡ false
  hits_none = hits_none_below (length routing.pools) (omega arith)

-- where there are enough keys, no further number adds one
module _ (routing : RoutingView) (is : IsRouting routing) (prefix : List ℕ) (run count number : ℕ) (keys : List (List ℕ))
    (full : has_bare routing keys ≡ false) (many : count ≤ number) (are : keys ≡ chosen_below routing prefix run count number) where
  chosen_on : (more : ℕ) → keys ≡ chosen_below routing prefix run count (number + more)
  chosen_on zero = let z : number ≡ number + 0 = omega arith in are ∙ ap (chosen_below routing prefix run count) z
  chosen_on (suc more) =
      let at = number + more in
      let s : at + 1 ≡ number + suc more = omega arith in
      let key = key_text prefix run at in
      let late : nat_lt at count ≡ false = le-ltb at count (omega (arith, many)) in
      let none : (nat_lt at count || hits_bare routing keys key) ≡ false = or_both _ _ late (hits_none routing is keys key full) in
      let same : chosen_with routing count at key keys ≡ keys = ap (λ (t : Bool). if t then keys ++ key ∷ [] else keys) none in
      sym same ∙ ap (chosen_with routing count at key) (chosen_on more) ∙ sym (chosen_more routing prefix run count at)
      ∙ ap (chosen_below routing prefix run count) s

  pub chosen_all : (last : ℕ) → number ≤ last → keys ≡ chosen_below routing prefix run count last
  chosen_all last low =
      let same : number + (last - number) ≡ last = omega (arith, low) in
      chosen_on (last - number) ∙ ap (chosen_below routing prefix run count) same

not_true : (a : Bool) → not a ≡ true → a ≡ false
not_true true is = absurd (cc)
not_true false is = refl

both_true : (a b : Bool) → (a && b) ≡ true → (a ≡ true) × (b ≡ true)
both_true true b is = (refl, is)
both_true false b is = absurd (cc)

-- the keys so far are all that are chosen, where there are enough of them
pub chosen_early : (routing : RoutingView) (prefix : List ℕ) (run count number last : ℕ) (keys lent : List (List ℕ)) (enough : Bool) → IsRouting routing
    → keys ≡ chosen_below routing prefix run count (number + 1) → lent ≡ keys
    → enough ≡ (not (nat_lt (number + 1) count) && not (has_bare routing lent)) → enough ≡ true → number < last
    → keys ≡ chosen_below routing prefix run count last
chosen_early routing prefix run count number last keys lent enough is are lent_is enough_is holds low =
    let both = both_true _ _ (sym enough_is ∙ holds) in
    let many : count ≤ number + 1 = ltb-false (number + 1) count (not_true _ both.0) in
    let full : has_bare routing keys ≡ false = ap (has_bare routing) (sym lent_is) ∙ not_true _ both.1 in
    chosen_all routing is prefix run count (number + 1) keys full many are last (omega (arith, low))
