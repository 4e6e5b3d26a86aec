-- Each reading stands in exactly one of the four ranges of a hop.
use Rattle.std.proofs.Common.{◌≡◌, ℕ, ◌+◌, ◌*◌, ◌↔◌, Bool, true, false, if◌then◌else◌, nat_lt, refl, subst, arith, ltb-true, ltb-false}
use Rattle.mr_phases.specs.declared.phase_name.PhaseName.{PhaseName}
use Rattle.mr_phases.specs.declared.phase_name.PhaseName.TheVariants.{OldOnly, BothReadOld, BothReadNew, NewOnly}
use Rattle.mr_phases.specs.Schedule.{Hop, phase_in, StandsIn}

abbrev phase_by : Bool → Bool → Bool → PhaseName
phase_by a b c = if a then OldOnly else if b then BothReadOld else if c then BothReadNew else NewOnly

stands_by : (h : Hop) (t : ℕ) (a b c : Bool) → nat_lt t h.start ≡ a → nat_lt t (h.start + h.interval) ≡ b → nat_lt t (h.start + 2 * h.interval) ≡ c → StandsIn (phase_by a b c) h t
stands_by h t true b c x y z = ltb-true _ _ x
stands_by h t false true c x y z = (ltb-false _ _ x, ltb-true _ _ y)
stands_by h t false false true x y z = (ltb-false _ _ y, ltb-true _ _ z)
stands_by h t false false false x y z = ltb-false _ _ z

pub stands_in_own : (h : Hop) (t : ℕ) → StandsIn (phase_in h t) h t
stands_in_own h t = stands_by h t (nat_lt t h.start) (nat_lt t (h.start + h.interval)) (nat_lt t (h.start + 2 * h.interval)) refl refl refl

-- the ranges do not meet
pub only_one : (h : Hop) (t : ℕ) (p q : PhaseName) → StandsIn p h t → StandsIn q h t → p ≡ q
only_one h t OldOnly OldOnly a b = refl
only_one h t OldOnly BothReadOld a b = absurd (omega arith)
only_one h t OldOnly BothReadNew a b = absurd (omega arith)
only_one h t OldOnly NewOnly a b = absurd (omega arith)
only_one h t BothReadOld OldOnly a b = absurd (omega arith)
only_one h t BothReadOld BothReadOld a b = refl
only_one h t BothReadOld BothReadNew a b = absurd (omega arith)
only_one h t BothReadOld NewOnly a b = absurd (omega arith)
only_one h t BothReadNew OldOnly a b = absurd (omega arith)
only_one h t BothReadNew BothReadOld a b = absurd (omega arith)
only_one h t BothReadNew BothReadNew a b = refl
only_one h t BothReadNew NewOnly a b = absurd (omega arith)
only_one h t NewOnly OldOnly a b = absurd (omega arith)
only_one h t NewOnly BothReadOld a b = absurd (omega arith)
only_one h t NewOnly BothReadNew a b = absurd (omega arith)
only_one h t NewOnly NewOnly a b = refl

pub phase_ranges_lem : (h : Hop) (t : ℕ) (phase : PhaseName) → (phase_in h t ≡ phase) ↔ StandsIn phase h t
phase_ranges_lem h t phase =
    (λ e. subst (λ (p : PhaseName). StandsIn p h t) e (stands_in_own h t), λ stands. only_one h t (phase_in h t) phase (stands_in_own h t) stands)
