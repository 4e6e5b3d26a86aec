-- What is read and deleted at a reading is counted by the bounds that the reading has reached.
use Rattle.std.proofs.Common.{◌≡◌, ℕ, zero, suc, ◌+◌, ◌*◌, ◌<◌, ◌≤◌, ◌⊎◌, Bool, true, false, List, [], ◌∷◌, slice_get, Some, map, if◌then◌else◌, nat_lt, refl, ◌∙◌, sym, subst, inl, inr, arith, ltb-true, ltb-false, lt-ltb}
use Rattle.std.proofs.Math.Nat.{min-le_left, min-le_right}
use Rattle.std.specs.List.{Contains}
use Rattle.mr_phases.specs.declared.phase_name.PhaseName.{PhaseName}
use Rattle.mr_phases.specs.declared.phase_name.PhaseName.TheVariants.{OldOnly, BothReadOld, BothReadNew, NewOnly}
use Rattle.mr_phases.specs.Schedule.{Hop, phase_in, Standing, standing_from, standing_of, least_from, least_interval, IsChainFrom, IsChain}
use Rattle.mr_phases.specs.Sides.{read_side_of, delete_sides_of}
use Rattle.mr_phases.specs.Pools.{pool_number, read_pool, delete_pools, SomeFrom}
use Rattle.mr_phases.proofs.Members.{contains_first, contains_second, contains_same, contained_in_one, contained_in_two}

abbrev pool_read : Standing → ℕ
pool_read s = pool_number s.hop (read_side_of s.phase)

abbrev pools_deleted : Standing → List ℕ
pools_deleted s = map (pool_number s.hop) (delete_sides_of s.phase)

-- 1 where the bound is reached, by the test whether the reading is below it
reached_by : Bool → ℕ
reached_by true = 0
reached_by false = 1

reached : ℕ → ℕ → ℕ
reached bound t = reached_by (nat_lt t bound)

reached_by_up : (x t y u : ℕ) (a b : Bool) → nat_lt t x ≡ a → nat_lt u y ≡ b → (x ≤ t → y ≤ u) → reached_by a ≤ reached_by b
unfolding reached_by
reached_by_up x t y u true b e f h = omega arith
reached_by_up x t y u false true e f h = let past = ltb-false _ _ e in let below = ltb-true _ _ f in let other = h past in absurd (omega arith)
reached_by_up x t y u false false e f h = omega arith

-- what reaches one bound reaches the other
reached_up : (x t y u : ℕ) → (x ≤ t → y ≤ u) → reached x t ≤ reached y u
unfolding reached
reached_up x t y u h = reached_by_up x t y u (nat_lt t x) (nat_lt u y) refl refl h

reached_by_past : (x t : ℕ) (a : Bool) → nat_lt t x ≡ a → x ≤ t → reached_by a ≡ 1
unfolding reached_by
reached_by_past x t true e h = let below = ltb-true _ _ e in absurd (omega arith)
reached_by_past x t false e h = refl

reached_by_below : (x t : ℕ) (a : Bool) → nat_lt t x ≡ a → t < x → reached_by a ≡ 0
unfolding reached_by
reached_by_below x t true e h = refl
reached_by_below x t false e h = let past = ltb-false _ _ e in absurd (omega arith)

reached_past : (x t : ℕ) → x ≤ t → reached x t ≡ 1
unfolding reached
reached_past x t h = reached_by_past x t (nat_lt t x) refl h

reached_below : (x t : ℕ) → t < x → reached x t ≡ 0
unfolding reached
reached_below x t h = reached_by_below x t (nat_lt t x) refl h

reached_by_most : (a : Bool) → reached_by a ≤ 1
unfolding reached_by
reached_by_most true = omega arith
reached_by_most false = omega arith

reached_most : (x t : ℕ) → reached x t ≤ 1
unfolding reached
reached_most x t = reached_by_most (nat_lt t x)

-- how many hops have begun, are half over, are over
begun : List Hop → ℕ → ℕ
begun [] t = 0
begun (h ∷ hs) t = reached h.start t + begun hs t

half_over : List Hop → ℕ → ℕ
half_over [] t = 0
half_over (h ∷ hs) t = reached (h.start + h.interval) t + half_over hs t

over : List Hop → ℕ → ℕ
over [] t = 0
over (h ∷ hs) t = reached (h.start + 2 * h.interval) t + over hs t

-- what is read and deleted, by those counts; k: the first hop's number
record Counts (k : ℕ) (s : Standing) (begins middles ends : ℕ) : Type 0 where
  reads : pool_read s ≡ k + middles
  only : (p : ℕ) → Contains (pools_deleted s) p → (p ≡ k + ends) ⊎ (p ≡ k + begins)
  at_ends : Contains (pools_deleted s) (k + ends)
  at_begins : Contains (pools_deleted s) (k + begins)
  order : ends ≤ begins
  next : begins ≤ ends + 1

abbrev phase_by : Bool → Bool → Bool → PhaseName
phase_by a b c = if a then OldOnly else if b then BothReadOld else if c then BothReadNew else NewOnly

both_only : (k p : ℕ) → Contains (k ∷ (k + 1) ∷ []) p → (p ≡ k + 0) ⊎ (p ≡ k + 1)
both_only k p h = elim (contained_in_two k (k + 1) p h) [ inl e ↦ inl (omega arith) | inr e ↦ inr (omega arith) ]

old_contained : (k : ℕ) (xs : List ℕ) → Contains (k ∷ xs) (k + 0)
old_contained k xs = contains_same (k ∷ xs) k (k + 0) (omega arith) (contains_first k xs)

counts_by : (k : ℕ) (a b c : Bool) → (a ≡ true → b ≡ true) → (b ≡ true → c ≡ true) → Counts k (record { hop = k; phase = phase_by a b c }) (reached_by a) (reached_by b) (reached_by c)
unfolding reached_by
counts_by k true true true ab bc = record {
  reads = omega arith;
  only = λ p h. let e = contained_in_one k p h in inl (omega arith);
  at_ends = old_contained k [];
  at_begins = old_contained k [];
  order = omega arith;
  next = omega arith;
}
counts_by k true true false ab bc = let bad = bc refl in cc
counts_by k true false c ab bc = let bad = ab refl in cc
counts_by k false true true ab bc = record {
  reads = omega arith;
  only = both_only k;
  at_ends = old_contained k ((k + 1) ∷ []);
  at_begins = contains_second k (k + 1);
  order = omega arith;
  next = omega arith;
}
counts_by k false true false ab bc = let bad = bc refl in cc
counts_by k false false true ab bc = record {
  reads = refl;
  only = both_only k;
  at_ends = old_contained k ((k + 1) ∷ []);
  at_begins = contains_second k (k + 1);
  order = omega arith;
  next = omega arith;
}
counts_by k false false false ab bc = record {
  reads = refl;
  only = λ p h. inl (contained_in_one (k + 1) p h);
  at_ends = contains_first (k + 1) [];
  at_begins = contains_first (k + 1) [];
  order = omega arith;
  next = omega arith;
}

below_later : (t x y : ℕ) → x ≤ y → nat_lt t x ≡ true → nat_lt t y ≡ true
below_later t x y le e = let below = ltb-true _ _ e in lt-ltb t y (omega arith)

counts_one : (k : ℕ) (h : Hop) (t : ℕ) → Counts k (record { hop = k; phase = phase_in h t }) (reached h.start t) (reached (h.start + h.interval) t) (reached (h.start + 2 * h.interval) t)
unfolding reached
counts_one k h t =
    counts_by k (nat_lt t h.start) (nat_lt t (h.start + h.interval)) (nat_lt t (h.start + 2 * h.interval))
    (below_later t h.start (h.start + h.interval) (omega arith))
    (below_later t (h.start + h.interval) (h.start + 2 * h.interval) (omega arith))

record NoneBegun (hs : List Hop) (t : ℕ) : Type 0 where
  no_begin : begun hs t ≡ 0
  no_middle : half_over hs t ≡ 0
  no_end : over hs t ≡ 0

none_begun : (h : Hop) (hs : List Hop) (t : ℕ) → IsChainFrom h hs → t < h.start → NoneBegun (h ∷ hs) t
unfolding begun half_over over
none_begun h [] t chain below =
    let a = reached_below h.start t below in
    let b = reached_below (h.start + h.interval) t (omega arith) in
    let c = reached_below (h.start + 2 * h.interval) t (omega arith) in
    record { no_begin = omega arith; no_middle = omega arith; no_end = omega arith }
none_begun h (g ∷ gs) t chain below =
    let a = reached_below h.start t below in
    let b = reached_below (h.start + h.interval) t (omega arith) in
    let c = reached_below (h.start + 2 * h.interval) t (omega arith) in
    let rest = none_begun g gs t chain.1 (let d = chain.0 in omega arith) in
    record { no_begin = let r = rest.no_begin in omega arith; no_middle = let r = rest.no_middle in omega arith; no_end = let r = rest.no_end in omega arith }

counts_same : (k j : ℕ) (s : Standing) (b m e b' m' e' : ℕ) → k + b ≡ j + b' → k + m ≡ j + m' → k + e ≡ j + e' → Counts k s b m e → Counts j s b' m' e'
counts_same k j s b m e b' m' e' x y z n = record {
  reads = n.reads ∙ y;
  only = λ p h. elim (n.only p h) [ inl w ↦ inl (w ∙ z) | inr w ↦ inr (w ∙ x) ];
  at_ends = contains_same (pools_deleted s) (k + e) (j + e') z n.at_ends;
  at_begins = contains_same (pools_deleted s) (k + b) (j + b') x n.at_begins;
  order = let o = n.order in omega arith;
  next = let o = n.next in omega arith;
}

counts_from : (k : ℕ) (h : Hop) (hs : List Hop) (t : ℕ) → IsChainFrom h hs → Counts k (standing_from k h hs t) (begun (h ∷ hs) t) (half_over (h ∷ hs) t) (over (h ∷ hs) t)
unfolding begun half_over over
counts_from k h [] t chain = counts_same k k (record { hop = k; phase = phase_in h t }) _ _ _ _ _ _ (omega arith) (omega arith) (omega arith) (counts_one k h t)
counts_from k h (g ∷ gs) t chain = go (nat_lt t g.start) refl (counts_from (k + 1) g gs t chain.1)
  where
    go : (b : Bool) → nat_lt t g.start ≡ b → Counts (k + 1) (standing_from (k + 1) g gs t) (begun (g ∷ gs) t) (half_over (g ∷ gs) t) (over (g ∷ gs) t)
        → Counts k (if b then record { hop = k; phase = phase_in h t } else standing_from (k + 1) g gs t) (begun (h ∷ g ∷ gs) t) (half_over (h ∷ g ∷ gs) t) (over (h ∷ g ∷ gs) t)
    go true e rest =
        let none = none_begun g gs t chain.1 (ltb-true _ _ e) in
        let a = none.no_begin in
        let b = none.no_middle in
        let c = none.no_end in
        counts_same k k (record { hop = k; phase = phase_in h t }) _ _ _ _ _ _ (omega arith) (omega arith) (omega arith) (counts_one k h t)
    go false e rest =
        let past = ltb-false _ _ e in
        let d = chain.0 in
        let a = reached_past h.start t (omega arith) in
        let b = reached_past (h.start + h.interval) t (omega arith) in
        let c = reached_past (h.start + 2 * h.interval) t (omega arith) in
        counts_same (k + 1) k (standing_from (k + 1) g gs t) _ _ _ _ _ _ (omega arith) (omega arith) (omega arith) rest

counts : (hops : List Hop) (t : ℕ) → IsChain hops → Counts 0 (standing_of hops t) (begun hops t) (half_over hops t) (over hops t)
unfolding begun half_over over
counts [] t chain = record {
  reads = refl;
  only = λ p h. inl (contained_in_one 0 p h);
  at_ends = contains_first 0 [];
  at_begins = contains_first 0 [];
  order = omega arith;
  next = omega arith;
}
counts (h ∷ hs) t chain = counts_from 0 h hs t chain

half_over_up : (hs : List Hop) (t u : ℕ) → t ≤ u → half_over hs t ≤ half_over hs u
unfolding half_over
half_over_up [] t u up = omega arith
half_over_up (h ∷ hs) t u up = let a = reached_up (h.start + h.interval) t (h.start + h.interval) u (λ x. omega arith) in let b = half_over_up hs t u up in omega arith

begun_up : (hs : List Hop) (t u : ℕ) → t ≤ u → begun hs t ≤ begun hs u
unfolding begun
begun_up [] t u up = omega arith
begun_up (h ∷ hs) t u up = let a = reached_up h.start t h.start u (λ x. omega arith) in let b = begun_up hs t u up in omega arith

-- what clocks that differ by at most each interval have reached
record Overlap (hs : List Hop) (t u : ℕ) : Type 0 where
  low : over hs u ≤ half_over hs t
  high : half_over hs t ≤ begun hs u

overlap_one : (h : Hop) (t u : ℕ) → t ≤ u + h.interval → u ≤ t + h.interval → (reached (h.start + 2 * h.interval) u ≤ reached (h.start + h.interval) t) × (reached (h.start + h.interval) t ≤ reached h.start u)
overlap_one h t u a b =
    (reached_up (h.start + 2 * h.interval) u (h.start + h.interval) t (λ y. omega arith), reached_up (h.start + h.interval) t h.start u (λ y. omega arith))

overlap_from : (n : ℕ) (h : Hop) (hs : List Hop) (t u : ℕ) → n ≤ least_from h hs → t ≤ u + n → u ≤ t + n → Overlap (h ∷ hs) t u
unfolding begun half_over over
overlap_from n h [] t u least a b =
    let one = overlap_one h t u (omega arith) (omega arith) in
    let x = one.0 in
    let z = one.1 in
    record { low = omega arith; high = omega arith }
overlap_from n h (g ∷ gs) t u least a b =
    let own = min-le_left h.interval (least_from g gs) in
    let others = min-le_right h.interval (least_from g gs) in
    let one = overlap_one h t u (omega arith) (omega arith) in
    let x = one.0 in
    let z = one.1 in
    let rest = overlap_from n g gs t u (omega arith) a b in
    record { low = let low = rest.low in omega arith; high = let high = rest.high in omega arith }

overlap_in : (hops : List Hop) (t u : ℕ) → t ≤ u + least_interval hops → u ≤ t + least_interval hops → Overlap hops t u
unfolding begun half_over over
overlap_in [] t u a b = record { low = omega arith; high = omega arith }
overlap_in (h ∷ hs) t u a b = overlap_from (least_from h hs) h hs t u (omega arith) a b

one_of_two : (low x high : ℕ) → low ≤ x → x ≤ high → high ≤ low + 1 → (low ≡ x) ⊎ (high ≡ x)
one_of_two low x high a b c = grind arith

pub overlap_lem : (hops : List Hop) (t u : ℕ) → IsChain hops → t ≤ u + least_interval hops → u ≤ t + least_interval hops → Contains (delete_pools hops u) (read_pool hops t)
overlap_lem hops t u chain a b =
    let o = overlap_in hops t u a b in
    let at_u = counts hops u chain in
    let read_is = (counts hops t chain).reads in
    elim (one_of_two (over hops u) (half_over hops t) (begun hops u) o.low o.high at_u.next) [
      | inl e ↦ contains_same (delete_pools hops u) (0 + over hops u) (read_pool hops t) (omega arith) at_u.at_ends
      | inr e ↦ contains_same (delete_pools hops u) (0 + begun hops u) (read_pool hops t) (omega arith) at_u.at_begins
    ]

pub read_up_lem : (hops : List Hop) (t u : ℕ) → IsChain hops → t ≤ u → read_pool hops t ≤ read_pool hops u
read_up_lem hops t u chain up =
    let a = (counts hops t chain).reads in
    let b = (counts hops u chain).reads in
    let c = half_over_up hops t u up in
    omega arith

pub deletes_up_lem : (hops : List Hop) (t u pool : ℕ) → IsChain hops → t ≤ u → Contains (delete_pools hops t) pool → SomeFrom (delete_pools hops u) pool
deletes_up_lem hops t u pool chain up has =
    let at_t = counts hops t chain in
    let order = at_t.order in
    let c = begun_up hops t u up in
    record {
      found = 0 + begun hops u;
      has = (counts hops u chain).at_begins;
      from = elim (at_t.only pool has) [ inl e ↦ omega arith | inr e ↦ omega arith ];
    }

-- before a hop's start no later one has begun; before its middle none later is half over
begun_before : (h : Hop) (hs : List Hop) (t number : ℕ) (hop : Hop) → IsChainFrom h hs → slice_get (h ∷ hs) number ≡ Some hop → t < hop.start
    → begun (h ∷ hs) t ≤ number
unfolding begun
begun_before h hs t zero hop chain there early =
    let same : h ≡ hop = cc in
    let none = (none_begun h hs t chain (subst (λ (f : Hop). t < f.start) (sym same) early)).no_begin in
    omega arith
begun_before h [] t (suc number) hop chain there early = cc
begun_before h (g ∷ gs) t (suc number) hop chain there early =
    let rest = begun_before g gs t number hop chain.1 there early in
    let one = reached_most h.start t in
    omega arith

half_over_before : (h : Hop) (hs : List Hop) (t number : ℕ) (hop : Hop) → IsChainFrom h hs → slice_get (h ∷ hs) number ≡ Some hop
    → t < hop.start + hop.interval → half_over (h ∷ hs) t ≤ number
unfolding half_over
half_over_before h [] t zero hop chain there early =
    let same : h ≡ hop = cc in
    let own = reached_below (h.start + h.interval) t (subst (λ (f : Hop). t < f.start + f.interval) (sym same) early) in
    omega arith
half_over_before h (g ∷ gs) t zero hop chain there early =
    let same : h ≡ hop = cc in
    let below : t < h.start + h.interval = subst (λ (f : Hop). t < f.start + f.interval) (sym same) early in
    let own = reached_below (h.start + h.interval) t below in
    let after = chain.0 in
    let none = (none_begun g gs t chain.1 (omega arith)).no_middle in
    omega arith
half_over_before h [] t (suc number) hop chain there early = cc
half_over_before h (g ∷ gs) t (suc number) hop chain there early =
    let rest = half_over_before g gs t number hop chain.1 there early in
    let one = reached_most (h.start + h.interval) t in
    omega arith

pub deletes_stay_lem : (hops : List Hop) (t number pool : ℕ) (hop : Hop) → IsChain hops → slice_get hops number ≡ Some hop
    → t < hop.start → Contains (delete_pools hops t) pool → pool ≤ number
deletes_stay_lem [] t number pool hop chain there early has = cc
deletes_stay_lem (h ∷ hs) t number pool hop chain there early has =
    let at_t = counts (h ∷ hs) t chain in
    let order = at_t.order in
    let most = begun_before h hs t number hop chain there early in
    elim (at_t.only pool has) [ inl e ↦ omega arith | inr e ↦ omega arith ]

pub reads_stay_lem : (hops : List Hop) (t number : ℕ) (hop : Hop) → IsChain hops → slice_get hops number ≡ Some hop
    → t < hop.start + hop.interval → read_pool hops t ≤ number
reads_stay_lem [] t number hop chain there early = cc
reads_stay_lem (h ∷ hs) t number hop chain there early =
    let reads = (counts (h ∷ hs) t chain).reads in
    let most = half_over_before h hs t number hop chain there early in
    omega arith
