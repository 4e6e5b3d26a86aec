-- What stays with each note.
use Rattle.std.specs.Prelude.{◌≡◌, ℕ, ◌<◌, ◌≤◌, ◌↔◌, List, length, slice_get, slice_index, Some}
use Rattle.mr_canary.specs.declared.note.Note.{Note}
use Rattle.mr_canary.specs.declared.note.Probe.{Probe}
use Rattle.mr_canary.specs.JudgeView.{JudgeView}
use Rattle.mr_canary.specs.Notes.{IsConvicted, Tells, sets_of}
use Rattle.mr_probes.specs.declared.notebook.Found.{Found}

-- one was counted exactly where a get is convicted
abbrev pub Counts : ℕ → List Note → Type 0
Counts count notes = (count ≡ 0) ↔ ((get : Probe) → ¬ IsConvicted notes get)

-- the notes tell each of these convictions
abbrev pub AreTold : List Note → List Found → Type 0
AreTold notes found = (place : ℕ) (one : Found) → slice_get found place ≡ Some one → Tells notes one.conviction

-- the judge has as many keys and as much room, and as many sets of each key were noted
pub record IsOfSame (old new : JudgeView) : Type 0 where
  pub keys : new.keys ≡ old.keys
  pub room : new.room ≡ old.room
  pub sets : (key : ℕ) → sets_of new.notes key ≡ sets_of old.notes key

-- no count from the one place to before the other is more than 0
abbrev pub AreZero : List ℕ → ℕ → ℕ → Type 0
AreZero counts from end = (place : ℕ) → from ≤ place → place < end → slice_index counts place ≡ 0

-- of the counts from that place on this is the first that is more than 0
pub record IsFirstPositive (counts : List ℕ) (from place : ℕ) : Type 0 where
  pub behind : from ≤ place
  pub there : place < length counts
  pub positive : 0 < slice_index counts place
  pub first : AreZero counts from place
