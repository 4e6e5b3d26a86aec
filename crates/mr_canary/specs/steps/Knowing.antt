-- What is known of all notes by what a judge keeps of them.
use Rattle.std.specs.Prelude.{◌≡◌, ◌≢◌, ℕ, ◌+◌, ◌^◌, ◌<◌, ◌≤◌, nat_eq, List, [], ◌∷◌, ◌++◌, length, take, Option, Some, None}
use Rattle.std.specs.HashMap as hash
use Rattle.mr_history.specs.Places.{At}
use Rattle.mr_canary.specs.declared.note.Probe.{Probe}
use Rattle.mr_canary.specs.declared.note.Asked.TheVariants as asks
use Rattle.mr_canary.specs.declared.note.Answer.{Answer}
use Rattle.mr_canary.specs.declared.note.Conviction.{Conviction}
use Rattle.mr_canary.specs.declared.note.Note.{Note}
use Rattle.mr_canary.specs.declared.note.Note.TheVariants.{Answered}
use Rattle.mr_canary.specs.declared.watched.Kept.{Kept}
use Rattle.mr_canary.specs.declared.waiting.Waiting.{Waiting}
use Rattle.mr_canary.specs.declared.waiting.Waiting.TheVariants.{Get, Set, Delete}
use Rattle.mr_canary.specs.Notes.{IsIssued, IsStored, IsAcknowledged, IsWaiting, sets_of}
use Rattle.mr_canary.specs.JudgeView.{JudgesAnswer, JudgeView}
use Rattle.mr_canary.specs.steps.Watched.{WatchedView}

-- each answer comes after its request
pub record AreOrdered (notes : List Note) : Type 0 where
  pub later : (number : ℕ) (answer : Answer) (place : ℕ) → At notes place (Answered number answer) → number < place

-- the delete, where there is one, wasn't issued after the place
abbrev pub IsNotAfter : Option Probe → ℕ → Type 0
IsNotAfter None place = Unit {0}
IsNotAfter (Some delete) place = delete.number ≤ place

-- the value's set was answered here, and no earlier
pub record IsFirstStored (notes : List Note) (key value place : ℕ) : Type 0 where
  pub set : Probe
  pub stored : IsStored notes set key value place
  pub first : (set' : Probe) (place' : ℕ) → IsStored notes set' key value place' → place ≤ place'

-- what is kept of a value is so, and the delete doesn't convict it
abbrev pub KnowsStored : List Note → ℕ → Option Probe → ℕ → Option ℕ → Type 0
KnowsStored notes key deleted value None = (set : Probe) (place : ℕ) → IsStored notes set key value place → ⊥
KnowsStored notes key deleted value (Some place) = IsFirstStored notes key value place × IsNotAfter deleted place

-- the delete convicts the value
pub record IsStoredBefore (notes : List Note) (key value : ℕ) (delete : Probe) : Type 0 where
  pub set : Probe
  pub place : ℕ
  pub stored : IsStored notes set key value place
  pub before : place < delete.number

-- nothing is kept of the value
abbrev pub IsForgotten : List Kept → ℕ → Type 0
IsForgotten values value = (index : ℕ) (kept : Kept) → At values index kept → kept.value ≢ value

-- what is forgotten is convicted by the delete
abbrev pub IsGone : List Note → ℕ → ℕ → Option Probe → Type 0
IsGone notes key value None = ⊥
IsGone notes key value (Some delete) = IsStoredBefore notes key value delete

-- of the key's acknowledged deletes this one was issued last
pub record IsLatest (notes : List Note) (key : ℕ) (delete : Probe) : Type 0 where
  pub place : ℕ
  pub acknowledged : IsAcknowledged notes delete key place
  pub last : (delete' : Probe) (place' : ℕ) → IsAcknowledged notes delete' key place' → delete'.number ≤ delete.number

abbrev pub KnowsDelete : List Note → ℕ → Option Probe → Type 0
KnowsDelete notes key None = (delete : Probe) (place : ℕ) → IsAcknowledged notes delete key place → ⊥
KnowsDelete notes key (Some delete) = IsLatest notes key delete

-- what is kept of a key is what the notes say of it
pub record KnowsKey (notes : List Note) (room key : ℕ) (watched : WatchedView) : Type 0 where
  pub counted : watched.sets ≡ sets_of notes key
  pub below : (set : Probe) (value : ℕ) → set.key ≡ key → IsIssued notes set (asks.Set value) → value < watched.sets
  pub kept : (index : ℕ) (kept : Kept) → At watched.kept index kept → KnowsStored notes key watched.deleted kept.value kept.stored
  pub gone : (value : ℕ) → value < watched.sets → IsForgotten watched.kept value → IsGone notes key value watched.deleted
  pub deleted : KnowsDelete notes key watched.deleted
  pub bounded : length watched.kept ≤ room

-- what is kept of each key
abbrev pub KnowsKeys : List Note → ℕ → List WatchedView → Type 0
KnowsKeys notes room keys = (key : ℕ) (watched : WatchedView) → At keys key watched → KnowsKey notes room key watched

-- what is kept of a request: of a get also what was known of its key when it was issued
abbrev pub KnowsRequest : List Note → ℕ → ℕ → Waiting → Type 0
KnowsRequest notes room number (Get probe watched) = (probe.number ≡ number) × IsIssued notes probe asks.Get × KnowsKey (take number notes) room probe.key watched
KnowsRequest notes room number (Set probe value) = (probe.number ≡ number) × IsIssued notes probe (asks.Set value)
KnowsRequest notes room number (Delete probe) = (probe.number ≡ number) × IsIssued notes probe asks.Delete

-- no answer has this number
abbrev pub IsUnanswered : List Note → ℕ → Type 0
IsUnanswered notes number = (answer : Answer) (place : ℕ) → At notes place (Answered number answer) → ⊥

abbrev pub KnowsWaiting : List Note → ℕ → ℕ → Option Waiting → Type 0
KnowsWaiting notes room number None = ¬ IsWaiting notes number
KnowsWaiting notes room number (Some request) = KnowsRequest notes room number request × IsUnanswered notes number

-- what a judge keeps is what all notes say that were ever taken
pub record Knows {S : Type 0} (notes : List Note) (keys : List WatchedView) (waiting : hash.HashMap ℕ Waiting S) (count room : ℕ) : Type 0 where
  pub counted : length notes ≡ count
  pub ordered : AreOrdered notes
  pub keys_known : KnowsKeys notes room keys
  pub waiting_known : (number : ℕ) → KnowsWaiting notes room number (hash.get nat_eq waiting number)

-- what is kept of keys after an answer to a request, with so many notes before, is so
abbrev pub StaysKnown : Waiting → Answer → ℕ → List WatchedView → List WatchedView → Type 0
StaysKnown request answer place old new =
    (notes : List Note) (number room : ℕ) → AreOrdered notes → length notes ≡ place → KnowsRequest notes room number request
    → KnowsKeys notes room old → KnowsKeys (notes ++ Answered number answer ∷ []) room new

-- what is said of an answer to a request is so
abbrev pub JudgesRequest : Waiting → Answer → Option Conviction → Type 0
JudgesRequest request answer found =
    (notes : List Note) (number room : ℕ) → AreOrdered notes → KnowsRequest notes room number request → IsUnanswered notes number
    → JudgesAnswer (notes ++ Answered number answer ∷ []) number found

-- the next request of a key that is there, and the number behind it
pub record IsNext (judge : JudgeView) (client time key : ℕ) (probe : Probe) (next : ℕ) : Type 0 where
  pub probe_is : probe ≡ record { number = length judge.notes; client = client; time = time; key = key }
  pub next_is : next ≡ length judge.notes + 1
  pub fits : next < 2 ^ 64
  pub there : key < judge.keys
