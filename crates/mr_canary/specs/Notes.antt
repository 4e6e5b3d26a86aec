-- What the clients of a canary know, in one list of notes, and which hits convict.
use Rattle.std.specs.Prelude.{◌≡◌, ℕ, ◌<◌, ◌&&◌, Bool, true, false, ◌==◌, List, count_by}
use Rattle.mr_history.specs.Places.{At}
use Rattle.mr_canary.specs.declared.note.Probe.{Probe}
use Rattle.mr_canary.specs.declared.note.Asked.{Asked}
use Rattle.mr_canary.specs.declared.note.Asked.TheVariants.{Get, Set, Delete}
use Rattle.mr_canary.specs.declared.note.Answer.{Answer}
use Rattle.mr_canary.specs.declared.note.Answer.TheVariants.{Hit, Stored, Deleted, NotFound}
use Rattle.mr_canary.specs.declared.note.Note.{Note}
use Rattle.mr_canary.specs.declared.note.Note.TheVariants.{Issued, Answered}
use Rattle.mr_canary.specs.declared.note.Conviction.{Conviction}

-- a client issued this request: its number is the place of its note
pub record IsIssued (notes : List Note) (probe : Probe) (asked : Asked) : Type 0 where
  pub there : At notes probe.number (Issued probe asked)

-- at this place the request's answer had come
pub record IsAnswered (notes : List Note) (probe : Probe) (answer : Answer) (place : ℕ) : Type 0 where
  pub there : At notes place (Answered probe.number answer)

-- what acknowledges a delete (from: protocol.txt, "Deletion")
abbrev pub Acknowledges : Answer → Type 0
Acknowledges Deleted = Unit {0}
Acknowledges NotFound = Unit {0}
Acknowledges answer = ⊥

-- at this place the set of the key to the value was answered with STORED
pub record IsStored (notes : List Note) (set : Probe) (key value place : ℕ) : Type 0 where
  pub of_key : set.key ≡ key
  pub issued : IsIssued notes set (Set value)
  pub answered : IsAnswered notes set Stored place

-- at this place the delete of the key was acknowledged
pub record IsAcknowledged (notes : List Note) (delete : Probe) (key place : ℕ) : Type 0 where
  pub of_key : delete.key ≡ key
  pub issued : IsIssued notes delete Delete
  pub answer : Answer
  pub answered : IsAnswered notes delete answer place
  pub acknowledges : Acknowledges answer

-- at this place the get was answered with this value of its key
pub record IsHit (notes : List Note) (get : Probe) (value place : ℕ) : Type 0 where
  pub issued : IsIssued notes get Get
  pub answered : IsAnswered notes get (Hit value) place

-- the hit convicts: its value's set was answered with STORED before a delete of that key was issued that was acknowledged before the get
-- was issued
pub record Convicts (notes : List Note) (set delete get : Probe) (value : ℕ) : Type 0 where
  pub stored : ℕ
  pub acknowledged : ℕ
  pub hit : ℕ
  pub is_stored : IsStored notes set get.key value stored
  pub is_acknowledged : IsAcknowledged notes delete get.key acknowledged
  pub is_hit : IsHit notes get value hit
  pub answered_before : stored < delete.number
  pub acknowledged_before : acknowledged < get.number

-- a set and a delete convict a hit of this get
pub record IsConvicted (notes : List Note) (get : Probe) : Type 0 where
  pub set : Probe
  pub delete : Probe
  pub value : ℕ
  pub convicts : Convicts notes set delete get value

-- the conviction is one: the set that gave the key its value, its delete and its get
pub record Tells (notes : List Note) (conviction : Conviction) : Type 0 where
  pub set : Probe
  pub convicts : Convicts notes set conviction.delete conviction.get conviction.value

-- a request of this number was issued, and none of the answers is its
pub record IsWaiting (notes : List Note) (number : ℕ) : Type 0 where
  pub probe : Probe
  pub asked : Asked
  pub numbered : probe.number ≡ number
  pub issued : IsIssued notes probe asked
  pub unanswered : (answer : Answer) (place : ℕ) → At notes place (Answered number answer) → ⊥

-- a set is asked for
abbrev pub is_set : Asked → Bool
is_set (Set value) = true
is_set asked = false

-- a set of the key was issued
abbrev pub is_set_of : ℕ → Note → Bool
is_set_of key (Issued probe asked) = is_set asked && (probe.key == key)
is_set_of key note = false

-- how many sets of the key were issued
abbrev pub sets_of : List Note → ℕ → ℕ
sets_of notes key = count_by (is_set_of key) notes
