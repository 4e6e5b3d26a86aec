-- The walk of a reading over the hops, one hop at a time.
use Rattle.std.proofs.Common.{◌≡◌, ℕ, zero, suc, ◌+◌, ◌<◌, ◌≤◌, Bool, true, false, List, [], ◌∷◌, length, drop, Some, slice_get, if◌then◌else◌, nat_lt, refl, ap, subst, arith, ltb-true, lt-ltb}
use Rattle.mr_phases.specs.declared.phase_name.PhaseName.TheVariants.{OldOnly}
use Rattle.mr_phases.specs.Schedule.{Hop, phase_in, Standing, standing_from, standing_of, hop_of, phase_of, start_at}

-- where a reading stands in the hops from the one of a number on
abbrev pub standing_past : ℕ → List Hop → ℕ → Standing
standing_past k [] t = record { hop = k; phase = OldOnly }
standing_past k (h ∷ hs) t = standing_from k h hs t

pub walk_begins : (hops : List Hop) (t : ℕ) → standing_past 0 (drop 0 hops) t ≡ standing_of hops t
walk_begins [] t = refl
walk_begins (h ∷ hs) t = refl

not_below : (t x : ℕ) (b : Bool) → nat_lt t x ≡ b → x ≤ t → nat_lt t x ≡ false
not_below t x true e past = let below = ltb-true _ _ e in absurd (omega arith)
not_below t x false e past = e

-- the next hop has begun
pub walk_goes_on : (hops : List Hop) (number k t : ℕ) → suc number < length hops → start_at hops (suc number) ≤ t
    → standing_past k (drop number hops) t ≡ standing_past (k + 1) (drop (suc number) hops) t
walk_goes_on [] number k t there begun = absurd (omega arith)
walk_goes_on (h ∷ []) zero k t there begun = absurd (omega arith)
walk_goes_on (h ∷ g ∷ gs) zero k t there begun = let past = not_below t g.start (nat_lt t g.start) refl begun in rw past refl
walk_goes_on (h ∷ hs) (suc number) k t there begun = walk_goes_on hs number k t (omega arith) begun

-- there is no next hop
pub walk_ends : (hops : List Hop) (number k t : ℕ) → number < length hops → length hops ≤ suc number
    → (standing_past k (drop number hops) t).hop ≡ k
walk_ends [] number k t there last = absurd (omega arith)
walk_ends (h ∷ []) zero k t there last = refl
walk_ends (h ∷ g ∷ gs) zero k t there last = absurd (omega arith)
walk_ends (h ∷ hs) (suc number) k t there last = walk_ends hs number k t (omega arith) (omega arith)

-- the next hop has not begun
pub walk_stops : (hops : List Hop) (number k t : ℕ) → suc number < length hops → t < start_at hops (suc number)
    → (standing_past k (drop number hops) t).hop ≡ k
walk_stops [] number k t there early = absurd (omega arith)
walk_stops (h ∷ []) zero k t there early = absurd (omega arith)
walk_stops (h ∷ g ∷ gs) zero k t there early = let below = lt-ltb t g.start early in rw below refl
walk_stops (h ∷ hs) (suc number) k t there early = walk_stops hs number k t (omega arith) early

-- the hop in force is one of the hops, and the phase is that hop's
record Found (k : ℕ) (hops : List Hop) (t : ℕ) (s : Standing) : Type 0 where
  number : ℕ
  counted : s.hop ≡ k + number
  within : number < length hops
  phase : (hop : Hop) → slice_get hops number ≡ Some hop → s.phase ≡ phase_in hop t

found_from : (k : ℕ) (h : Hop) (hs : List Hop) (t : ℕ) → Found k (h ∷ hs) t (standing_from k h hs t)
found_from k h [] t = record {
  number = 0;
  counted = omega arith;
  within = omega arith;
  phase = λ hop e. let same : h ≡ hop = cc in ap (λ (f : Hop). phase_in f t) same;
}
found_from k h (g ∷ gs) t = go (nat_lt t g.start) (found_from (k + 1) g gs t)
  where
    go : (b : Bool) → Found (k + 1) (g ∷ gs) t (standing_from (k + 1) g gs t)
        → Found k (h ∷ g ∷ gs) t (if b then record { hop = k; phase = phase_in h t } else standing_from (k + 1) g gs t)
    go true rest = record {
      number = 0;
      counted = omega arith;
      within = omega arith;
      phase = λ hop e. let same : h ≡ hop = cc in ap (λ (f : Hop). phase_in f t) same;
    }
    go false rest = record {
      number = suc rest.number;
      counted = let c = rest.counted in omega arith;
      within = let w = rest.within in omega arith;
      phase = rest.phase;
    }

pub hop_within_lem : (hops : List Hop) (t : ℕ) → 0 < length hops → hop_of hops t < length hops
hop_within_lem [] t some = absurd (omega arith)
hop_within_lem (h ∷ hs) t some =
    let own = found_from 0 h hs t in
    let c = own.counted in
    let w = own.within in
    omega arith

pub phase_of_hop : (hops : List Hop) (t : ℕ) (hop : Hop) → slice_get hops (hop_of hops t) ≡ Some hop → phase_of hops t ≡ phase_in hop t
phase_of_hop [] t hop there = cc
phase_of_hop (h ∷ hs) t hop there =
    let own = found_from 0 h hs t in
    let c = own.counted in
    let number : hop_of (h ∷ hs) t ≡ own.number = omega arith in
    own.phase hop (subst (λ n. slice_get (h ∷ hs) n ≡ Some hop) number there)
