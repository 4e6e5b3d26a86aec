-- A timeline has an entry for each hop, and each reading in its phase of the hop in force.
use Rattle.std.proofs.Common.{◌≡◌, ℕ, zero, suc, ◌+◌, ◌-◌, ◌*◌, ◌<◌, ◌≤◌, ◌↔◌, ◌==◌, Bool, true, false, List, [], ◌∷◌, length, nat_lt, slice_get, if◌then◌else◌, Option, Some, None, All, refl, ◌∙◌, ap, arith, ltb-true, ltb-false}
use Rattle.std.proofs.lemmas.Bool.{eqb-true, eqb-false, ne_eqb, lt-ltb}
use Rattle.mr_phases.specs.Schedule.{Hop, StandsIn, phase_in, Standing, standing_from, start_at, interval_at, IsChainFrom, IsSchedule}
use Rattle.mr_phases.specs.declared.phase_name.PhaseName.{PhaseName}
use Rattle.mr_phases.specs.declared.phase_name.PhaseName.TheVariants.{OldOnly, BothReadOld, BothReadNew, NewOnly}
use Rattle.mr_configs.specs.Timeline.{IsWithinAny, IsNewOnly, IsTimeOf, IsTimeIn, TellsPhases, span_before, time_until, times_of, times_from, timeline_of}
use Rattle.mr_configs.specs.declared.times.Span.{Span}
use Rattle.mr_configs.specs.declared.times.NewOnlyTime.{NewOnlyTime}
use Rattle.mr_configs.specs.declared.times.NewOnlyTime.TheVariants.{Never, Within, Since}
use Rattle.mr_configs.specs.declared.times.PhaseTimes.{PhaseTimes}
use Rattle.mr_configs.specs.steps.TimesAt.{end_at, new_only_at, times_at}

-- an entry for each hop
entries_from : (old_only : Option Span) (h : Hop) (hs : List Hop) → length (times_from old_only h hs) ≡ suc (length hs)
entries_from old_only h [] = refl
entries_from old_only h (g ∷ gs) = ap suc (entries_from None g gs)

pub entries : (hops : List Hop) → length (timeline_of hops) ≡ length hops
entries [] = refl
entries (h ∷ hs) = entries_from (span_before h.start) h hs

-- the last phase of a hop that has one before it
new_only_behind : (h : Hop) (hops : List Hop) (number : ℕ) → new_only_at (h ∷ hops) (suc number) ≡ new_only_at hops number
new_only_behind h hops number =
    let next : suc number + 1 ≡ suc (number + 1) = omega arith in
    rw next (go (nat_lt (suc (number + 1)) (suc (length hops))) (nat_lt (number + 1) (length hops)) refl refl)
  where
    go : (a b : Bool) → nat_lt (suc (number + 1)) (suc (length hops)) ≡ a → nat_lt (number + 1) (length hops) ≡ b →
        (if a then time_until (end_at hops number) (start_at hops (number + 1)) else Since (end_at hops number))
        ≡ (if b then time_until (end_at hops number) (start_at hops (number + 1)) else Since (end_at hops number))
    go true true x y = refl
    go false false x y = refl
    go true false x y = let p = ltb-true _ _ x in let q = ltb-false _ _ y in absurd (omega arith)
    go false true x y = let p = ltb-false _ _ x in let q = ltb-true _ _ y in absurd (omega arith)

none_either_way : (b : Bool) → ◌≡◌ {A = Option Span} (if b then None else None) None
none_either_way true = refl
none_either_way false = refl

-- the entry of the hop of a number
entry_from : (old_only : Option Span) (h : Hop) (hs : List Hop) (number : ℕ) → number < length (h ∷ hs) →
    slice_get (times_from old_only h hs) number
    ≡ Some (times_of (if number == 0 then old_only else None)
    (record { start = start_at (h ∷ hs) number; interval = interval_at (h ∷ hs) number }) (new_only_at (h ∷ hs) number))
entry_from old_only h [] zero within = refl
entry_from old_only h [] (suc number) within = absurd (omega arith)
entry_from old_only h (g ∷ gs) zero within =
    let more : nat_lt 1 (suc (suc (length gs))) ≡ true = lt-ltb _ _ (omega arith) in
    rw more refl
entry_from old_only h (g ∷ gs) (suc number) within =
    let later : (suc number == 0) ≡ false = ne_eqb _ _ (λ e. omega arith) in
    rw (later, new_only_behind h (g ∷ gs) number)
    (entry_from None g gs number (omega arith)
    ∙ ap (λ old. Some (times_of old (record { start = start_at (g ∷ gs) number; interval = interval_at (g ∷ gs) number }) (new_only_at (g ∷ gs) number)))
    (none_either_way (number == 0)))

pub entry_at : (hops : List Hop) (number : ℕ) → number < length hops → slice_get (timeline_of hops) number ≡ Some (times_at hops number)
entry_at [] number within = absurd (omega arith)
entry_at (h ∷ hs) number within =
    entry_from (span_before h.start) h hs number within

-- the readings of each phase of one hop
abbrev pub Ranges : Type 0
Ranges = (h : Hop) (t : ℕ) (phase : PhaseName) → (phase_in h t ≡ phase) ↔ StandsIn phase h t

-- before a first hop
begins : (start t : ℕ) → IsWithinAny (span_before start) t ↔ (t < start)
begins start t = go (start == 0) refl
  where
    some_before : (start ≡ 0 → ⊥) → t ≤ start - 1 → t < start
    some_before later within = grind arith

    go : (b : Bool) → (start == 0) ≡ b → IsWithinAny (if b then None else Some (record { first = 0; last = start - 1 })) t ↔ (t < start)
    go true e = let at_once = eqb-true _ _ e in (λ bad. absurd bad, λ below. omega arith)
    go false e = (λ within. some_before (eqb-false _ _ e) within.1, λ below. (omega arith, omega arith))

-- until the next hop starts
ends : (end next t : ℕ) → IsNewOnly (time_until end next) t ↔ ((end ≤ t) × (t < next))
ends end next t = go (nat_lt end next) refl
  where
    go : (b : Bool) → nat_lt end next ≡ b → IsNewOnly (if b then Within (record { first = end; last = next - 1 }) else Never) t ↔ ((end ≤ t) × (t < next))
    go true e = let below = ltb-true _ _ e in (λ within. let a = within.0 in let b = within.1 in (omega arith, omega arith), λ both. let a = both.0 in let b = both.1 in (omega arith, omega arith))
    go false e = let above = ltb-false _ _ e in (λ bad. absurd bad, λ both. let a = both.0 in let b = both.1 in omega arith)

-- the phases of a hop that is in force
in_force : Ranges → (old_only : Option Span) (h : Hop) (new_only : NewOnlyTime) (t : ℕ) → 0 < h.interval →
    IsWithinAny old_only t ↔ (t < h.start) → IsNewOnly new_only t ↔ (h.start + 2 * h.interval ≤ t) →
    (phase : PhaseName) → (phase_in h t ≡ phase) ↔ IsTimeOf (times_of old_only h new_only) phase t
in_force ranges old_only h new_only t lasts first last OldOnly =
    (λ e. first.1 ((ranges h t OldOnly).0 e), λ told. (ranges h t OldOnly).1 (first.0 told))
in_force ranges old_only h new_only t lasts first last BothReadOld = (
  λ e. let stands = (ranges h t BothReadOld).0 e in let a = stands.0 in let b = stands.1 in (omega arith, omega arith),
  λ told. let a = told.0 in let b = told.1 in (ranges h t BothReadOld).1 (omega arith, omega arith),
)
in_force ranges old_only h new_only t lasts first last BothReadNew = (
  λ e. let stands = (ranges h t BothReadNew).0 e in let a = stands.0 in let b = stands.1 in (omega arith, omega arith),
  λ told. let a = told.0 in let b = told.1 in (ranges h t BothReadNew).1 (omega arith, omega arith),
)
in_force ranges old_only h new_only t lasts first last NewOnly =
    (λ e. last.1 ((ranges h t NewOnly).0 e), λ told. (ranges h t NewOnly).1 (last.0 told))

-- a later hop has no reading before its start
begun : (g : Hop) (new_only : NewOnlyTime) (t : ℕ) (phase : PhaseName) → (IsNewOnly new_only t → g.start ≤ t) →
    IsTimeOf (times_of None g new_only) phase t → g.start ≤ t
begun g new_only t OldOnly last told = absurd told
begun g new_only t BothReadOld last told = told.0
begun g new_only t BothReadNew last told = let a = told.0 in omega arith
begun g new_only t NewOnly last told = last told

all_begun : (g : Hop) (gs : List Hop) (t number : ℕ) (phase : PhaseName) → IsChainFrom g gs →
    IsTimeIn (slice_get (times_from None g gs) number) phase t → g.start ≤ t
all_begun g [] t zero phase chain told = begun g (Since (g.start + 2 * g.interval)) t phase (λ past. omega arith) told
all_begun g [] t (suc number) phase chain told = absurd told
all_begun g (f ∷ fs) t zero phase chain told =
    begun g (time_until (g.start + 2 * g.interval) f.start) t phase (λ within. let a = ((ends _ f.start t).0 within).0 in omega arith) told
all_begun g (f ∷ fs) t (suc number) phase chain told =
    let below = chain.0 in let past = all_begun f fs t number phase chain.1 told in omega arith

-- a hop has no reading once the next has started
over : (old_only : Option Span) (h : Hop) (next t : ℕ) → h.start + 2 * h.interval ≤ next → next ≤ t → 0 < h.interval →
    (IsWithinAny old_only t → t < h.start) → (phase : PhaseName) →
    IsTimeOf (times_of old_only h (time_until (h.start + 2 * h.interval) next)) phase t → ⊥
over old_only h next t after past lasts first OldOnly told = let a = first told in omega arith
over old_only h next t after past lasts first BothReadOld told = let a = told.1 in omega arith
over old_only h next t after past lasts first BothReadNew told = let a = told.1 in omega arith
over old_only h next t after past lasts first NewOnly told = let a = ((ends _ next t).0 told).1 in omega arith

-- a standing is told by a timeline whose hops are counted from k
record Tells (k : ℕ) (s : Standing) (timeline : List PhaseTimes) (t : ℕ) : Type 0 where
  counted : k ≤ s.hop
  told : (number : ℕ) (phase : PhaseName) → ((s.hop ≡ k + number) × (s.phase ≡ phase)) ↔ IsTimeIn (slice_get timeline number) phase t

here : (k : ℕ) (h : Hop) (times : PhaseTimes) (later : List PhaseTimes) (t : ℕ) →
    ((phase : PhaseName) → (phase_in h t ≡ phase) ↔ IsTimeOf times phase t) →
    ((number : ℕ) (phase : PhaseName) → IsTimeIn (slice_get later number) phase t → ⊥) →
    Tells k (record { hop = k; phase = phase_in h t }) (times ∷ later) t
here k h times later t own none = record { counted = omega arith; told = told_at }
  where
    told_at : (number : ℕ) (phase : PhaseName) →
        ((k ≡ k + number) × (phase_in h t ≡ phase)) ↔ IsTimeIn (slice_get (times ∷ later) number) phase t
    told_at zero phase = (λ e. (own phase).0 e.1, λ told. (omega arith, (own phase).1 told))
    told_at (suc number) phase = (λ e. let a = e.0 in absurd (omega arith), λ told. absurd (none number phase told))

behind : (k : ℕ) (s : Standing) (times : PhaseTimes) (later : List PhaseTimes) (t : ℕ) →
    ((phase : PhaseName) → IsTimeOf times phase t → ⊥) → Tells (k + 1) s later t → Tells k s (times ∷ later) t
behind k s times later t none rest = record { counted = let c = rest.counted in omega arith; told = told_at }
  where
    told_at : (number : ℕ) (phase : PhaseName) → ((s.hop ≡ k + number) × (s.phase ≡ phase)) ↔ IsTimeIn (slice_get (times ∷ later) number) phase t
    told_at zero phase = (λ e. let a = e.0 in let c = rest.counted in absurd (omega arith), λ told. absurd (none phase told))
    told_at (suc number) phase = (
      λ e. let a = e.0 in (rest.told number phase).0 (omega arith, e.1),
      λ told. let both = (rest.told number phase).1 told in let a = both.0 in (omega arith, both.1),
    )

tells_from : Ranges → (k : ℕ) (old_only : Option Span) (h : Hop) (hs : List Hop) (t : ℕ) → IsWithinAny old_only t ↔ (t < h.start) →
    IsChainFrom h hs → All (λ (hop : Hop). 0 < hop.interval) (h ∷ hs) → Tells k (standing_from k h hs t) (times_from old_only h hs) t
tells_from ranges k old_only h [] t first chain lasts =
    here k h (times_of old_only h (Since (h.start + 2 * h.interval))) [] t
    (in_force ranges old_only h (Since (h.start + 2 * h.interval)) t (lasts 0 h (omega arith)) first (λ past. past, λ past. past)) (λ number phase told. told)
tells_from ranges k old_only h (g ∷ gs) t first chain lasts =
    go (nat_lt t g.start) refl (λ past. tells_from ranges (k + 1) None g gs t (λ bad. absurd bad, λ below. omega arith) chain.1 (λ j d within. lasts (suc j) d (omega arith)))
  where
    go : (b : Bool) → nat_lt t g.start ≡ b → (g.start ≤ t → Tells (k + 1) (standing_from (k + 1) g gs t) (times_from None g gs) t) →
        Tells k (if b then record { hop = k; phase = phase_in h t } else standing_from (k + 1) g gs t)
        (times_of old_only h (time_until (h.start + 2 * h.interval) g.start) ∷ times_from None g gs) t
    go true e rest =
        let below = ltb-true _ _ e in
        here k h (times_of old_only h (time_until (h.start + 2 * h.interval) g.start)) (times_from None g gs) t
        (in_force ranges old_only h (time_until (h.start + 2 * h.interval) g.start) t (lasts 0 h (omega arith)) first
        (λ within. ((ends (h.start + 2 * h.interval) g.start t).0 within).0, λ past. (ends (h.start + 2 * h.interval) g.start t).1 (past, below)))
        (λ number phase told. let past = all_begun g gs t number phase chain.1 told in omega arith)
    go false e rest =
        let past = ltb-false _ _ e in
        let after = chain.0 in
        behind k (standing_from (k + 1) g gs t) (times_of old_only h (time_until (h.start + 2 * h.interval) g.start)) (times_from None g gs) t
        (over old_only h g.start t (omega arith) past (lasts 0 h (omega arith)) first.0) (rest past)

pub tells : Ranges → (hops : List Hop) → IsSchedule hops → TellsPhases hops (timeline_of hops)
tells ranges [] schedule hop phase t = let some = schedule.begins in absurd (omega arith)
tells ranges (h ∷ hs) schedule hop phase t =
    let told = (tells_from ranges 0 (span_before h.start) h hs t (begins h.start t) schedule.chain schedule.lasts).told hop phase in (
      λ e. let a = e.0 in told.0 (omega arith, e.1),
      λ is. let both = told.1 is in let a = both.0 in (omega arith, both.1),
    )
