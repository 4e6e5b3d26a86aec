-- The lines that wait to be said, and when one of each kind was last said.
use Rattle.std.specs.Prelude.{◌≡◌, ◌≢◌, ℕ, ◌+◌, ◌-◌, ◌^◌, ◌<◌, ◌≤◌, List, length, min, All, AllPairs, Option, None, Some, slice_index_or}
use Rattle.mr_log.specs.Kinds.{kind_of, most_kinds, number_of_kind}
use Rattle.mr_log.specs.declared.happening.Happening.TheVariants.{NoMemory}
use Rattle.mr_log.specs.declared.kind.Kind.{Kind}
use Rattle.mr_log.specs.declared.log.Said.{Said}

-- how long after a line of a kind no other of that kind is said, in milliseconds
abbrev pub pause : ℕ
pause = 1000

-- what stands in a place of a log where no line waits
abbrev pub no_line : Said
no_line = record { happening = NoMemory; more = 0 }

-- a log
pub record LogView : Type 0 where
  -- the lines that wait, in the order in which the first of each kind came, as they would be said now
  pub waiting : List Said
  -- by the numbers of the kinds, when a line of each was last said
  pub said : List (Option ℕ)

-- the kind of a line
abbrev pub kind_in : Said → Kind
kind_in line = kind_of line.happening

-- one more of its kind came, as far as 64 bits count
abbrev pub with_one_more : Said → Said
with_one_more line = record line { more = min (line.more + 1) (2 ^ 64 - 1) }

-- no two of the lines are of one kind
abbrev pub AreOneEach : List Said → Type 0
AreOneEach lines = AllPairs (λ line later. kind_in line ≢ kind_in later) lines

-- what holds of each log
pub record IsLog (log : LogView) : Type 0 where
  pub one_each : AreOneEach log.waiting
  pub counted : length log.said ≡ most_kinds

-- none of the lines is of the kind
abbrev pub IsNoneOfKind : Kind → List Said → Type 0
IsNoneOfKind kind lines = All (λ line. kind_in line ≢ kind) lines

-- the line at a place is of the kind
pub record IsAt (kind : Kind) (lines : List Said) (place : ℕ) : Type 0 where
  pub within : place < length lines
  pub of_kind : (d : Said) → kind_in (slice_index_or lines place d) ≡ kind

-- when a line of the kind was last said
abbrev pub last_said : List (Option ℕ) → Kind → Option ℕ
last_said said kind = slice_index_or said (number_of_kind kind) None

-- it was so long ago that the next may be said, or never
abbrev pub IsPast : ℕ → Option ℕ → Type 0
IsPast now None = Unit {0}
IsPast now (Some at) = at + pause ≤ now

-- a line may be said
abbrev pub IsDue : List (Option ℕ) → ℕ → Said → Type 0
IsDue said now line = IsPast now (last_said said (kind_in line))

-- none of the lines may be said
abbrev pub IsNoneDue : List (Option ℕ) → ℕ → List Said → Type 0
IsNoneDue said now lines = All (λ line. ¬ IsDue said now line) lines

-- the line at a place may be said, and none before it
pub record IsFirstDue (said : List (Option ℕ)) (now : ℕ) (lines : List Said) (place : ℕ) : Type 0 where
  pub within : place < length lines
  pub due : (d : Said) → IsDue said now (slice_index_or lines place d)
  pub first : (earlier : ℕ) (d : Said) → earlier < place → ¬ IsDue said now (slice_index_or lines earlier d)
