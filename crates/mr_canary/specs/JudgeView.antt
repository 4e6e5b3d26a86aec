-- A judge of notes as contracts see it, and what its calls come to.
use Rattle.std.specs.Prelude.{◌≡◌, ◌≢◌, ℕ, ◌+◌, ◌^◌, ◌≤◌, List, [], ◌∷◌, ◌++◌, length, slice_index, slice_set, Option, Some, None}
use Rattle.mr_canary.specs.declared.note.Probe.{Probe}
use Rattle.mr_canary.specs.declared.note.Asked.{Asked}
use Rattle.mr_canary.specs.declared.note.Asked.TheVariants.{Set}
use Rattle.mr_canary.specs.declared.note.Note.{Note}
use Rattle.mr_canary.specs.declared.note.Note.TheVariants.{Issued}
use Rattle.mr_canary.specs.declared.note.Conviction.{Conviction}
use Rattle.mr_canary.specs.declared.error.CanaryError.{CanaryError}
use Rattle.mr_canary.specs.declared.error.CanaryError.TheVariants.{NoSuchKey, KeyIsFull, NotWaiting, NumbersUsedUp, OutOfMemory}
use Rattle.mr_canary.specs.Notes.{IsConvicted, Tells, IsWaiting}

-- all notes that were taken, how many keys there are, how many values are kept of each, and how many at most
pub record JudgeView : Type 0 where
  pub notes : List Note
  pub keys : ℕ
  pub kept : List ℕ
  pub room : ℕ

-- the judge with one more note
abbrev pub with_note : JudgeView → Note → JudgeView
with_note judge note = record judge { notes = judge.notes ++ note ∷ [] }

-- how many values are kept of each key behind a request of one: a set's value is kept
abbrev pub kept_after : List ℕ → ℕ → Asked → List ℕ
kept_after kept key (Set value) = slice_set kept key (slice_index kept key + 1)
kept_after kept key asked = kept

-- a client's request of the key is noted, under the next number
pub record Issues (old : JudgeView) (client time key : ℕ) (asked : Asked) (probe : Probe) (new : JudgeView) : Type 0 where
  pub probe_is : probe ≡ record { number = length old.notes; client = client; time = time; key = key }
  pub new_is : new ≡ record (with_note old (Issued probe asked)) { kept = kept_after old.kept key asked }

-- why a request isn't noted
abbrev pub RefusesIssue : JudgeView → ℕ → CanaryError → Type 0
RefusesIssue judge key NoSuchKey = judge.keys ≤ key
RefusesIssue judge key KeyIsFull = judge.room ≤ slice_index judge.kept key
RefusesIssue judge key NumbersUsedUp = 2 ^ 64 ≤ length judge.notes + 1
RefusesIssue judge key NotWaiting = ⊥
RefusesIssue judge key OutOfMemory = Unit {0}

-- why an answer isn't noted
abbrev pub RefusesAnswer : JudgeView → ℕ → CanaryError → Type 0
RefusesAnswer judge number NotWaiting = ¬ IsWaiting judge.notes number
RefusesAnswer judge number NumbersUsedUp = 2 ^ 64 ≤ length judge.notes + 1
RefusesAnswer judge number error = ⊥

-- what is said of the answer to a get: whether its hit convicts, by all notes that were ever taken
abbrev pub JudgesAnswer : List Note → ℕ → Option Conviction → Type 0
JudgesAnswer notes number None = (get : Probe) → get.number ≡ number → ¬ IsConvicted notes get
JudgesAnswer notes number (Some conviction) = (conviction.get.number ≡ number) × Tells notes conviction

-- what convicts by the notes that were taken by then convicts by those before: no verdict changes later on
abbrev pub VerdictsStand : List Note → List Note → Type 0
VerdictsStand old new = (get : Probe) → IsConvicted new get → IsConvicted old get

-- the same but for the get of this number
abbrev pub OtherVerdictsStand : List Note → ℕ → List Note → Type 0
OtherVerdictsStand old number new = (get : Probe) → get.number ≢ number → IsConvicted new get → IsConvicted old get
