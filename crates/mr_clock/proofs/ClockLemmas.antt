-- What ticks do to the greatest difference and to the lowering of readings.
use Rattle.std.proofs.Common.{◌≡◌, ◌↔◌, ℕ, zero, suc, ◌+◌, ◌-◌, ◌<◌, ◌≤◌, ◌⊎◌, inl, inr, Bool, true, false, ◌||◌, List, [], ◌∷◌, length, get_or, slice_get, Some, fold, max, min, nat_lt, refl, ap, subst, sym, ◌∙◌, arith}
use Rattle.std.proofs.lemmas.Option.{get_or_from_slice_get}
use Rattle.std.proofs.lemmas.Bool.{cases_order}
use borrow.Author.Tests.{ltb-false, ltb-true}
use Rattle.mr_clock.specs.Readings.{ReadingsView, Tick, AreWithin, spread_of, standing_after, is_lower, readings_after}
use Rattle.mr_clock.specs.Clocks.{NeverGoesBack, StayWithin}
use Rattle.mr_clock.proofs.ReadingLemmas.{are_within}

max_one : (a b : ℕ) → (max a b ≡ a) ⊎ (max a b ≡ b)
max_one a b =
    elim (cases_order a b) [
      | inl same ↦ inl (omega arith)
      | inr apart ↦ elim apart [ inl less ↦ inr (omega arith) | inr less ↦ inl (omega arith) ]
    ]

min_one : (a b : ℕ) → (min a b ≡ a) ⊎ (min a b ≡ b)
min_one a b =
    elim (cases_order a b) [
      | inl same ↦ inl (omega arith)
      | inr apart ↦ elim apart [ inl less ↦ inl (omega arith) | inr less ↦ inr (omega arith) ]
    ]

-- what a fold by a choice gives is one of the numbers
chosen_at : (choose : ℕ → ℕ → ℕ) → ((a b : ℕ) → (choose a b ≡ a) ⊎ (choose a b ≡ b)) → (first : ℕ) (rest : List ℕ)
    → (fold choose first rest ≡ first) ⊎ ((p : ℕ) × (slice_get rest p ≡ Some (fold choose first rest)))
chosen_at choose one first [] = inl refl
chosen_at choose one first (x ∷ xs) =
    elim (chosen_at choose one (choose first x) xs) [
      | inl same ↦ elim (one first x) [ inl e ↦ inl (same ∙ e) | inr e ↦ inr (0, ap Some (sym (same ∙ e))) ]
      | inr later ↦ inr (suc (later.0), later.1)
    ]

chosen_in : (choose : ℕ → ℕ → ℕ) → ((a b : ℕ) → (choose a b ≡ a) ⊎ (choose a b ≡ b)) → (first : ℕ) (rest : List ℕ)
    → (p : ℕ) × (slice_get (first ∷ rest) p ≡ Some (fold choose first rest))
chosen_in choose one first rest =
    elim (chosen_at choose one first rest) [
      | inl same ↦ (0, ap Some (sym same))
      | inr later ↦ (suc (later.0), later.1)
    ]

within_spread : (most : ℕ) (readings : List ℕ) → AreWithin most readings → spread_of readings ≤ most
within_spread most [] within = omega arith
within_spread most (first ∷ rest) within =
    let (p, greatest) = chosen_in max max_one first rest in
    let (q, least) = chosen_in min min_one first rest in
    let bound = within p q (fold max first rest) (fold min first rest) greatest least in
    omega arith

pub spread_is_least_lem : (most : ℕ) (readings : List ℕ) → (spread_of readings ≤ most) ↔ AreWithin most readings
spread_is_least_lem most readings = (λ bound. are_within most readings bound, λ within. within_spread most readings within)

-- the reading that a proxy has, or 0 where there is none
had : (readings : List ℕ) (p t : ℕ) → ((before : ℕ) → slice_get readings p ≡ Some before → before ≤ t) → get_or readings p 0 ≤ t
had [] p t h = omega arith
had (x ∷ xs) zero t h = h x refl
had (x ∷ xs) (suc p) t h = had xs p t h

lower_told : (readings : List ℕ) (tick : Tick)
    → (is_lower readings tick ≡ false) ↔ ((before : ℕ) → slice_get readings tick.proxy ≡ Some before → before ≤ tick.reading)
lower_told readings tick = (
  λ no before there.
      let bound = ltb-false _ _ no in
      let same = get_or_from_slice_get readings tick.proxy before 0 there in
      omega arith,
  λ keeps. elim (is_lower readings tick) as (λ b. is_lower readings tick ≡ b → b ≡ false) [
    | false ↦ λ _. refl
    | true ↦ λ e. let less = ltb-true _ _ e in let bound = had readings tick.proxy tick.reading keeps in absurd (omega arith)
  ] refl,
)

neither : (a b : Bool) → ((a || b) ≡ false) ↔ ((a ≡ false) × (b ≡ false))
neither true b = (λ e. cc, λ both. both.0)
neither false b = (λ e. (refl, e), λ both. both.1)

pub lowering_is_told_lem : (view : ReadingsView) (ticks : List Tick)
    → ((fold readings_after view ticks).went_back ≡ false) ↔ ((view.went_back ≡ false) × NeverGoesBack view.standing ticks)
lowering_is_told_lem view [] = (λ e. (e, tt), λ both. both.0)
lowering_is_told_lem view (tick ∷ ticks) =
    let later = lowering_is_told_lem (readings_after view tick) ticks in
    let now = neither view.went_back (is_lower view.standing tick) in
    let told = lower_told view.standing tick in (
      λ e. let rest = later.0 e in let both = now.0 (rest.0) in (both.0, (told.0 (both.1), rest.1)),
      λ both. later.1 (now.1 (both.0, told.1 (both.1.0)), both.1.1),
    )

start : (most : ℕ) (readings : List ℕ) (ticks : List Tick) → StayWithin most readings ticks → AreWithin most readings
start most readings [] stay = stay
start most readings (tick ∷ ticks) stay = stay.0

pub spread_is_told_lem : (most : ℕ) (view : ReadingsView) (ticks : List Tick) → AreWithin view.spread view.standing
    → ((fold readings_after view ticks).spread ≤ most) ↔ ((view.spread ≤ most) × StayWithin most view.standing ticks)
spread_is_told_lem most view [] within = (
  λ e. (e, λ p q x y at at'. let bound = within p q x y at at' in omega arith),
  λ both. both.0,
)
spread_is_told_lem most view (tick ∷ ticks) within =
    let after = readings_after view tick in
    let spread = spread_of (standing_after view.standing tick) in
    let kept : AreWithin after.spread after.standing = are_within after.spread after.standing (omega arith) in
    let later = spread_is_told_lem most after ticks kept in (
      λ e.
          let rest = later.0 e in
          let bound : max view.spread spread ≤ most = rest.0 in
          let below : view.spread ≤ most = omega arith in
          (below, (λ p q x y at at'. (let b = within p q x y at at' in omega arith), rest.1)),
      λ both.
          let below : view.spread ≤ most = both.0 in
          let first : spread ≤ most = within_spread most (standing_after view.standing tick) (start most (standing_after view.standing tick) ticks (both.1.1)) in
          later.1 (omega arith, both.1.1),
    )
