-- What happens to clients one after the other.
use Rattle.std.proofs.Common.{◌≡◌, ◌∙◌, ℕ, zero, suc, ◌+◌, ◌<◌, ◌≤◌, ◌⊎◌, inl, inr, Bool, true, false, MatchBool, List, [], ◌∷◌, ◌++◌, length, get_or, is_some, Option, Some, None, slice_get, slice_set, refl, sym, ap, subst, arith}
use Rattle.std.specs.List.{range_with_len}
use Rattle.std.specs.Prelude.{Vec, vec_len, MatchOption}
use Rattle.std.specs.Vec.{with_items}
use Rattle.std.proofs.lemmas.List.{with_items_is}
use Rattle.mr_canary.specs.JudgeView.{JudgeView}
use Rattle.mr_probes.specs.NotebookView.{IsFirstSet, NeverSetBetween}
use Rattle.std.proofs.lemmas.List.{set_past}
use Rattle.std.proofs.lemmas.Option.{slice_get_past, slice_get-get_or}
use Rattle.mr_probes.specs.CanaryView.{CanaryView, AsksAt, AsksThrough, GivesUpAt, GivesUpThrough, Settles, TakesOf, canary_of, is_late_in}
use Rattle.mr_sightings.specs.declared.trouble.Trouble.TheVariants.{Silent}
use Rattle.mr_probes.specs.Clients.{is_idle, is_late_client}
use Rattle.mr_probes.specs.declared.answering.Said.TheVariants.{Failed}
use Rattle.mr_probes.specs.declared.client.Client.TheVariants.{Down, Idle, Waits}
use Rattle.mr_probes.specs.NotebookView.{NotebookView}
use Rattle.mr_probes.specs.declared.answering.Said.{Said}
use Rattle.mr_probes.specs.declared.client.Client.{Client}
use Rattle.mr_probes.specs.declared.course.Course.{Course}

-- one more place behind others
pub range_more : (a n : ℕ) → range_with_len a (n + 1) ≡ range_with_len a n ++ (a + n) ∷ []
range_more a zero = (let z : a + 0 ≡ a = omega arith in ap (λ (x : ℕ). x ∷ []) (sym z))
range_more a (suc n) =
    let e : (a + 1) + n ≡ a + suc n = omega arith in
    let s : suc n + 1 ≡ suc (n + 1) = omega arith in
    ap (range_with_len a) s ∙ ap (λ (l : List ℕ). a ∷ l) (range_more (a + 1) n ∙ ap (λ (x : ℕ). range_with_len (a + 1) n ++ x ∷ []) e)

pub given_up_more : (now : ℕ) (places : List ℕ) (place : ℕ) (old mid new : CanaryView) → GivesUpThrough now places old mid → GivesUpAt now place mid new
    → GivesUpThrough now (places ++ place ∷ []) old new
given_up_more now [] place old mid new all one = (new, subst (λ (m : CanaryView). GivesUpAt now place m new) all one, refl)
given_up_more now (first ∷ places) place old mid new all one = (all.0, all.1, given_up_more now places place all.0 mid new all.2 one)

pub asked_more : (now : ℕ) (places : List ℕ) (place : ℕ) (old mid new : CanaryView) → AsksThrough now places old mid → AsksAt now place mid new ⊎ (new ≡ mid)
    → AsksThrough now (places ++ place ∷ []) old new
asked_more now [] place old mid new all one = (new, subst (λ (m : CanaryView). AsksAt now place m new ⊎ (new ≡ m)) all one, refl)
asked_more now (first ∷ places) place old mid new all one = (all.0, all.1, asked_more now places place all.0 mid new all.2 one)

pub asked_or_not : (asked : Bool) (now place : ℕ) (old new : CanaryView) → MatchBool asked (AsksAt now place old new) (new ≡ old) → AsksAt now place old new ⊎ (new ≡ old)
asked_or_not true now place old new m = inl m
asked_or_not false now place old new m = inr m

-- where no client stands
pub settles_none : (place now : ℕ) (said : Said) (next : Client) (clients : List Client) (notebook : NotebookView) (course : Course) → length clients ≤ place
    → Settles place now said next (canary_of clients notebook course) (canary_of clients notebook course)
settles_none place now said next clients notebook course past = record {
  taken = subst (λ (client : Option Client). TakesOf client said now notebook notebook) (sym (slice_get_past clients place past)) refl;
  clients = sym (set_past clients place next past);
  course = refl;
}

pub settles_one : (place now : ℕ) (said : Said) (next client : Client) (clients : List Client) (old new : NotebookView) (course : Course) → place < length clients
    → client ≡ get_or clients place client → TakesOf (Some client) said now old new
    → Settles place now said next (canary_of clients old course) (canary_of (slice_set clients place next) new course)
settles_one place now said next client clients old new course within is takes = record {
  taken = subst (λ (one : Option Client). TakesOf one said now old new) (ap Some is ∙ sym (slice_get-get_or clients place client within)) takes;
  clients = refl;
  course = refl;
}

late_in : (now place give_up : ℕ) (clients : List Client) (course : Course) (d : Client) → place < length clients → course.give_up ≡ give_up
    → is_late_in (slice_get clients place) course.give_up now ≡ is_late_client give_up now (get_or clients place d)
late_in now place give_up clients course d within is =
    ap (λ (client : Option Client). is_late_in client course.give_up now) (slice_get-get_or clients place d within) ∙ ap (λ (n : ℕ). is_late_client n now (get_or clients place d)) is

on_true : (b : Bool) (P Q : Type 0) → b ≡ true → P → MatchBool b P Q
on_true true P Q e p = p
on_true false P Q e p = absurd (cc)

on_false : (b : Bool) (P Q : Type 0) → b ≡ false → Q → MatchBool b P Q
on_false true P Q e q = absurd (cc)
on_false false P Q e q = q

-- a request that is late is given up, and any other isn't

pub given_up : (now place give_up : ℕ) (clients clients' : List Client) (notebook notebook' : NotebookView) (course : Course) (d : Client) → place < length clients
    → is_late_client give_up now (get_or clients place d) ≡ true → course.give_up ≡ give_up
    → Settles place now (Failed Silent) Down (canary_of clients notebook course) (canary_of clients' notebook' course)
    → GivesUpAt now place (canary_of clients notebook course) (canary_of clients' notebook' course)
given_up now place give_up clients clients' notebook notebook' course d within late is settles =
    on_true (is_late_in (slice_get clients place) course.give_up now) (Settles place now (Failed Silent) Down (canary_of clients notebook course) (canary_of clients' notebook' course))
    (canary_of clients' notebook' course ≡ canary_of clients notebook course) (late_in now place give_up clients course d within is ∙ late) settles

pub kept_on : (now place give_up : ℕ) (clients : List Client) (notebook : NotebookView) (course : Course) (d : Client) → place < length clients
    → is_late_client give_up now (get_or clients place d) ≡ false → course.give_up ≡ give_up
    → GivesUpAt now place (canary_of clients notebook course) (canary_of clients notebook course)
kept_on now place give_up clients notebook course d within early is =
    on_false (is_late_in (slice_get clients place) course.give_up now) (Settles place now (Failed Silent) Down (canary_of clients notebook course) (canary_of clients notebook course))
    (canary_of clients notebook course ≡ canary_of clients notebook course) (late_in now place give_up clients course d within is ∙ early) refl

-- what is so of the clients as a slice is so of the canary that holds them
pub seen : {Z : Type 0} (R : CanaryView → CanaryView → Type 0) (v : Vec Client Z) (was new : List Client) (notebook notebook' : NotebookView) (course course' : Course)
    → was ≡ v.items → length new ≡ vec_len v → R (canary_of was notebook course) (canary_of new notebook' course')
    → R (canary_of v.items notebook course) (canary_of (with_items v new).items notebook' course')
seen R v was new notebook notebook' course course' same long holds =
    subst (λ (l : List Client). R (canary_of v.items notebook course) (canary_of l notebook' course')) (sym (with_items_is v new long))
    (subst (λ (l : List Client). R (canary_of l notebook course) (canary_of new notebook' course')) same holds)

-- where a key is left to be deleted, not each was asked
pub some_left : (judge : JudgeView) (from : ℕ) (result : Option ℕ) → MatchOption result (NeverSetBetween judge.notes from judge.keys) (IsFirstSet judge from) → is_some result ≡ true
    → NeverSetBetween judge.notes from judge.keys → ⊥
some_left judge from None m e never = cc
some_left judge from (Some key) m e never = let none = never key m.behind m.there in let some = m.was_set in omega arith

-- the client that is idle
idle_is : (client : Client) → is_idle client ≡ true → client ≡ Idle
idle_is Down e = absurd (cc)
idle_is Idle e = refl
idle_is (Waits waiting) e = absurd (cc)

pub idle_there : (clients : List Client) (place : ℕ) (d : Client) → place < length clients → is_idle (get_or clients place d) ≡ true → slice_get clients place ≡ Some Idle
idle_there clients place d within idle = slice_get-get_or clients place d within ∙ ap Some (idle_is (get_or clients place d) idle)
