-- The walk over the hops ends at the hop in force.
use Rattle.std.proofs.Common.{◌≡◌, ℕ, zero, suc, ◌+◌, ◌<◌, ◌≤◌, ◌⊎◌, ◌↔◌, Bool, true, false, List, [], ◌∷◌, length, slice_get, Some, if◌then◌else◌, nat_lt, refl, sym, ◌∙◌, subst, inl, inr, arith, ltb-true, ltb-false}
use Rattle.mr_phases.specs.declared.phase_name.PhaseName.{PhaseName}
use Rattle.mr_phases.specs.Schedule.{Hop, phase_in, StandsIn, Standing, standing_from, standing_of, hop_of, phase_of, IsChainFrom, IsChain}
use Rattle.mr_phases.specs.InForce.{IsInForce, StandsAt}
use Rattle.mr_phases.proofs.PhaseLemmas.{stands_in_own, only_one}

-- no hop of a chain starts before the first
starts_up : (g : Hop) (gs : List Hop) → IsChainFrom g gs → (place : ℕ) (next : Hop) → slice_get (g ∷ gs) place ≡ Some next → g.start ≤ next.start
starts_up g gs chain zero next e = let same : g ≡ next = cc in subst (λ (h : Hop). g.start ≤ h.start) same (omega arith)
starts_up g [] chain (suc place) next e = cc
starts_up g (f ∷ fs) chain (suc place) next e =
    let d = chain.0 in
    let rest = starts_up f fs chain.1 place next e in
    omega arith

-- a standing is where a reading stands, its hops counted from k
record Found (k : ℕ) (hops : List Hop) (t : ℕ) (s : Standing) : Type 0 where
  number : ℕ
  counted : s.hop ≡ k + number
  stands : StandsAt hops t number s.phase

-- none of the later hops has begun
at_first : (k : ℕ) (h : Hop) (hs : List Hop) (t : ℕ)
    → ((place : ℕ) (next : Hop) → slice_get hs place ≡ Some next → t < next.start)
    → Found k (h ∷ hs) t (record { hop = k; phase = phase_in h t })
at_first k h hs t none = record {
  number = 0;
  counted = omega arith;
  stands = record {
    hop = h;
    in_force = record { there = refl; reached = λ bad. absurd (omega arith); last = later_ones };
    range = stands_in_own h t;
  };
}
  where
    later_ones : (later : ℕ) (next : Hop) → 0 < later → slice_get (h ∷ hs) later ≡ Some next → t < next.start
    later_ones zero next bad e = absurd (omega arith)
    later_ones (suc later) next past e = none later next e

-- the second hop has begun
at_later : (k : ℕ) (h g : Hop) (gs : List Hop) (t : ℕ) (s : Standing) → g.start ≤ t → Found (k + 1) (g ∷ gs) t s → Found k (h ∷ g ∷ gs) t s
at_later k h g gs t s begun rest = record {
  number = suc rest.number;
  counted = let c = rest.counted in omega arith;
  stands = record {
    hop = rest.stands.hop;
    in_force = record {
      there = rest.stands.in_force.there;
      reached = λ past. at_own rest.number rest.stands.hop rest.stands.in_force.there rest.stands.in_force.reached;
      last = later_ones;
    };
    range = rest.stands.range;
  };
}
  where
    at_own : (number : ℕ) (hop : Hop) → slice_get (g ∷ gs) number ≡ Some hop → (0 < number → hop.start ≤ t) → hop.start ≤ t
    at_own zero hop e reached = let same : g ≡ hop = cc in subst (λ (f : Hop). f.start ≤ t) same begun
    at_own (suc number) hop e reached = reached (omega arith)

    later_ones : (later : ℕ) (next : Hop) → suc rest.number < later → slice_get (h ∷ g ∷ gs) later ≡ Some next → t < next.start
    later_ones zero next bad e = absurd (omega arith)
    later_ones (suc later) next past e = rest.stands.in_force.last later next (omega arith) e

found_from : (k : ℕ) (h : Hop) (hs : List Hop) (t : ℕ) → IsChainFrom h hs → Found k (h ∷ hs) t (standing_from k h hs t)
found_from k h [] t chain = at_first k h [] t (λ place next e. cc)
found_from k h (g ∷ gs) t chain = go (nat_lt t g.start) refl (found_from (k + 1) g gs t chain.1)
  where
    go : (b : Bool) → nat_lt t g.start ≡ b → Found (k + 1) (g ∷ gs) t (standing_from (k + 1) g gs t)
        → Found k (h ∷ g ∷ gs) t (if b then record { hop = k; phase = phase_in h t } else standing_from (k + 1) g gs t)
    go true e rest =
        let below = ltb-true _ _ e in
        at_first k h (g ∷ gs) t (λ place next is. let up = starts_up g gs chain.1 place next is in omega arith)
    go false e rest = at_later k h g gs t (standing_from (k + 1) g gs t) (ltb-false _ _ e) rest

found : (hops : List Hop) (t : ℕ) → IsChain hops → 0 < length hops → Found 0 hops t (standing_of hops t)
found [] t chain some = absurd (omega arith)
found (h ∷ hs) t chain some = found_from 0 h hs t chain

-- one hop alone is in force
one_in_force : (hops : List Hop) (t m n : ℕ) (a b : Hop) → IsInForce hops t m a → IsInForce hops t n b → m ≡ n
one_in_force hops t m n a b x y =
    elim (three_ways m n) [
      | inl before ↦
          let late = x.last n b before y.there in let early = y.reached (omega arith) in absurd (omega arith)
      | inr (inl after) ↦
          let late = y.last m a after x.there in let early = x.reached (omega arith) in absurd (omega arith)
      | inr (inr equal) ↦ equal
    ]
  where
    three_ways : (p q : ℕ) → (p < q) ⊎ ((q < p) ⊎ (p ≡ q))
    three_ways p q = grind arith

same_hop : (hops : List Hop) (m n : ℕ) (a b : Hop) → slice_get hops m ≡ Some a → slice_get hops n ≡ Some b → m ≡ n → a ≡ b
same_hop hops m n a b x y e =
    let z : slice_get hops m ≡ Some b = subst (λ k. slice_get hops k ≡ Some b) (sym e) y in
    let both : Some a ≡ Some b = sym x ∙ z in cc

one_phase : (hops : List Hop) (t m n : ℕ) (p q : PhaseName) → StandsAt hops t m p → StandsAt hops t n q → p ≡ q
one_phase hops t m n p q x y =
    let numbers = one_in_force hops t m n x.hop y.hop x.in_force y.in_force in
    let hop = same_hop hops m n x.hop y.hop x.in_force.there y.in_force.there numbers in
    only_one y.hop t p q (subst (λ (h : Hop). StandsIn p h t) hop x.range) y.range

pub phase_in_force_lem : (hops : List Hop) (t number : ℕ) (phase : PhaseName) → IsChain hops → 0 < length hops
    → ((hop_of hops t ≡ number) × (phase_of hops t ≡ phase)) ↔ StandsAt hops t number phase
phase_in_force_lem hops t number phase chain some =
    let own = found hops t chain some in
    let c = own.counted in
    let here : own.number ≡ hop_of hops t = omega arith in
    let stands : StandsAt hops t (hop_of hops t) (phase_of hops t) = subst (λ n. StandsAt hops t n (phase_of hops t)) here own.stands in (
      λ e. subst (λ p. StandsAt hops t number p) e.1 (subst (λ n. StandsAt hops t n (phase_of hops t)) e.0 stands),
      λ x. (
        one_in_force hops t (hop_of hops t) number stands.hop x.hop stands.in_force x.in_force,
        one_phase hops t (hop_of hops t) number (phase_of hops t) phase stands x,
      ),
    )
