-- What is noted and counted, and what requests and answers do to it.
use Rattle.std.specs.Prelude.{◌≡◌, ℕ, ◌-◌, ◌<◌, ◌≤◌, ◌⊎◌, ◌&&◌, nat_lt, Bool, List, [], ◌∷◌, ◌++◌, length, count_by, map, replicate, if◌then◌else◌, Option, Some, None}
use Rattle.std.specs.List.{range_with_len}
use Rattle.mr_counting.specs.Counting.{one_more}
use Rattle.mr_canary.specs.declared.error.CanaryError.{CanaryError}
use Rattle.mr_canary.specs.declared.note.Answer.{Answer}
use Rattle.mr_canary.specs.declared.note.Asked.{Asked}
use Rattle.mr_canary.specs.declared.note.Asked.TheVariants as asks
use Rattle.mr_canary.specs.declared.note.Conviction.{Conviction}
use Rattle.mr_canary.specs.declared.note.Note.{Note}
use Rattle.mr_canary.specs.declared.note.Note.TheVariants.{Answered}
use Rattle.mr_canary.specs.declared.note.Probe.{Probe}
use Rattle.mr_canary.specs.JudgeView.{JudgeView, Issues, JudgesAnswer, RefusesAnswer, with_note}
use Rattle.mr_canary.specs.Notes.{sets_of}
use Rattle.mr_sightings.specs.Tally.{counted, no_tally}
use Rattle.mr_sightings.specs.declared.tally.Tally.{Tally}
use Rattle.mr_probes.specs.Said.{acknowledges, answer_of, outcome_of}
use Rattle.mr_probes.specs.declared.answering.Said.{Said}
use Rattle.mr_probes.specs.declared.answering.Said.TheVariants.{Hit, Miss, Stored, Deleted, NotFound, Failed}
use Rattle.mr_probes.specs.declared.client.Asking.{Asking}
use Rattle.mr_probes.specs.declared.notebook.Found.{Found}
use Rattle.mr_probes.specs.declared.wish.Kind.{Kind}
use Rattle.mr_probes.specs.declared.wish.Kind.TheVariants.{Get, Set, Delete}
use Rattle.mr_probes.specs.declared.wish.Wish.{Wish}

-- the number of the run; its keys; the judge; what was counted since that was last asked; the convictions that weren't taken yet; how many there were; how many keys
-- were set whose last delete wasn't acknowledged
pub record NotebookView : Type 0 where
  pub run : ℕ
  pub keys : List (List ℕ)
  pub judge : JudgeView
  pub second : Tally
  pub found : List Found
  pub came_back : ℕ
  pub left : ℕ

-- nothing is noted yet
abbrev pub fresh_notebook : ℕ → List (List ℕ) → NotebookView
fresh_notebook run keys = record {
  run = run;
  keys = keys;
  judge = record { notes = []; keys = length keys; kept = replicate (length keys) 0; room = 64 };
  second = no_tally;
  found = [];
  came_back = 0;
  left = 0;
}

-- how many keys were set
abbrev pub keys_set : JudgeView → ℕ
keys_set judge = count_by (nat_lt 0) (map (sets_of judge.notes) (range_with_len 0 judge.keys))

-- no key of a number from the one to below the other was set
abbrev pub NeverSetBetween : List Note → ℕ → ℕ → Type 0
NeverSetBetween notes from end = (key : ℕ) → from ≤ key → key < end → sets_of notes key ≡ 0

-- of the keys from that number on this is the first that was set
pub record IsFirstSet (judge : JudgeView) (from key : ℕ) : Type 0 where
  pub behind : from ≤ key
  pub there : key < judge.keys
  pub was_set : 0 < sets_of judge.notes key
  pub first : NeverSetBetween judge.notes from key

-- what is asked; a set's value is the number of the key's sets before
abbrev pub asked_as : List Note → ℕ → Kind → Asked
asked_as notes key Get = asks.Get
asked_as notes key Set = asks.Set (sets_of notes key)
asked_as notes key Delete = asks.Delete

-- what a client is to ask
abbrev pub asked_by : List Note → Wish → Asked
asked_by notes wish = asked_as notes wish.key wish.kind

-- the judge notes the request, and nothing else changes
pub record IssuesSo (old : NotebookView) (client now : ℕ) (wish : Wish) (probe : Probe) (new : NotebookView) : Type 0 where
  pub issued : Issues old.judge client now wish.key (asked_by old.judge.notes wish) probe new.judge
  pub same : new ≡ record old { judge = new.judge }

-- the judge takes the answer, and says whether it convicts
pub record JudgesSo (old : JudgeView) (number : ℕ) (answer : Answer) (convicted : Option Conviction) (new : JudgeView) : Type 0 where
  pub noted : new ≡ record (with_note old (Answered number answer)) { kept = new.kept }
  pub judged : JudgesAnswer new.notes number convicted

-- the judge takes none: no such request waits, or there are no more numbers
pub record TakesNone (old : JudgeView) (number : ℕ) (convicted : Option Conviction) (new : JudgeView) : Type 0 where
  pub why : CanaryError
  pub refused : RefusesAnswer old number why
  pub same : new ≡ old
  pub silent : convicted ≡ None

-- how many convictions there were, with this one
abbrev pub came_back_after : Option Conviction → ℕ → ℕ
came_back_after None count = count
came_back_after (Some conviction) count = one_more count

-- what is kept with it, where fewer than so many are
abbrev pub kept_with : Found → List Found → List Found
kept_with one found = if nat_lt (length found) 64 then found ++ one ∷ [] else found

-- the convictions that weren't taken yet, with this one, by what the hit said
abbrev pub found_after : Option Conviction → Said → List Found → List Found
found_after None said found = found
found_after (Some conviction) (Hit stamp) found = kept_with (record { conviction = conviction; stamp = stamp }) found
found_after (Some conviction) Miss found = found
found_after (Some conviction) Stored found = found
found_after (Some conviction) Deleted found = found
found_after (Some conviction) NotFound found = found
found_after (Some conviction) (Failed trouble) found = found

-- how many keys are left: one fewer behind the last delete of a key, where it was acknowledged
abbrev pub left_after : Bool → Said → ℕ → ℕ
left_after cleans said left = if cleans && acknowledges said then left - 1 else left

-- this came of a request
pub record TakesAnswer (asking : Asking) (said : Said) (now : ℕ) (old new : NotebookView) : Type 0 where
  pub convicted : Option Conviction
  pub judged : JudgesSo old.judge asking.probe.number (answer_of said) convicted new.judge ⊎ TakesNone old.judge asking.probe.number convicted new.judge
  pub second : new.second ≡ counted (outcome_of said) (now - asking.probe.time) old.second
  pub found : new.found ≡ found_after convicted said old.found
  pub came_back : new.came_back ≡ came_back_after convicted old.came_back
  pub left : new.left ≡ left_after asking.cleans said old.left

-- the first of them
abbrev pub first_of : List Found → Option Found
first_of [] = None
first_of (one ∷ others) = Some one
