-- Whole runs of a log: what it was told, and what it said.
use Rattle.std.specs.Prelude.{◌≡◌, ℕ, ◌+◌, Bool, false, List, [], ◌∷◌, count_by, sum_by, Option, None, Some, if◌then◌else◌}
use Rattle.mr_log.specs.Kinds.{kind_of, same_kind}
use Rattle.mr_log.specs.Waiting.{LogView, kind_in}
use Rattle.mr_log.specs.Log.{Notes, Takes}
use Rattle.mr_log.specs.declared.happening.Happening.{Happening}
use Rattle.mr_log.specs.declared.kind.Kind.{Kind}
use Rattle.mr_log.specs.declared.log.Said.{Said}

-- a call of a log: it noted what happened, or was asked at a time and said a line or nothing
pub data Step : Type 0 where
  Noted : Happening → Step
  Taken : ℕ → Option Said → Step

-- a call that goes from one log to the next
abbrev pub IsStep : LogView → Step → LogView → Type 0
IsStep old (Noted happening) new = Notes old happening new
IsStep old (Taken now said) new = Takes old now said new

-- calls in a row, from one log to another
abbrev pub IsRun : LogView → List Step → LogView → Type 0
IsRun old [] new = new ≡ old
IsRun old (step ∷ steps) new = (next : LogView) × IsStep old step next × IsRun next steps new

-- a line, and when it was said
pub record Told : Type 0 where
  pub line : Said
  pub at : ℕ

-- the lines that the calls said, in order
abbrev pub told_in : List Step → List Told
told_in [] = []
told_in (Noted happening ∷ steps) = told_in steps
told_in (Taken now None ∷ steps) = told_in steps
told_in (Taken now (Some line) ∷ steps) = record { line = line; at = now } ∷ told_in steps

-- a test whether the call notes a happening of the kind
abbrev pub notes_kind : Kind → Step → Bool
notes_kind kind (Noted happening) = same_kind kind (kind_of happening)
notes_kind kind (Taken now said) = false

-- how many happenings of the kind the calls noted
abbrev pub noted_of : Kind → List Step → ℕ
noted_of kind steps = count_by (notes_kind kind) steps

-- how many lines of the kind there are
abbrev pub lines_of : Kind → List Told → ℕ
lines_of kind told = count_by (λ t. same_kind kind (kind_in t.line)) told

-- how many more of its kind a line counts, if it is of this kind
abbrev pub more_in : Kind → Told → ℕ
more_in kind told = if same_kind kind (kind_in told.line) then told.line.more else 0

-- how many more the lines of the kind count, added up
abbrev pub more_of : Kind → List Told → ℕ
more_of kind told = sum_by (more_in kind) told

-- how many happenings a line that waits stands for, if it is of this kind
abbrev pub stands_for : Kind → Said → ℕ
stands_for kind line = if same_kind kind (kind_in line) then 1 + line.more else 0

-- how many happenings of the kind wait to be said
abbrev pub waiting_of : Kind → List Said → ℕ
waiting_of kind waiting = sum_by (stands_for kind) waiting
