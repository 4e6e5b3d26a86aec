-- What a judge keeps of one key.
use Rattle.std.specs.Prelude.{ℕ, ◌+◌, ◌&&◌, ◌==◌, nat_le, nat_lt, not, Bool, true, if◌then◌else◌, List, [], ◌∷◌, ◌++◌, filter, map, length, Option, Some, None}
use Rattle.std.specs.List.{list_any}
use Rattle.mr_canary.specs.declared.note.Probe.{Probe}
use Rattle.mr_canary.specs.declared.watched.Kept.{Kept}

-- how many sets there were, those of their values that the delete doesn't convict, and of the acknowledged deletes the one issued last
pub record WatchedView : Type 0 where
  pub sets : ℕ
  pub kept : List Kept
  pub deleted : Option Probe

-- no set and no delete
abbrev pub fresh_watched : WatchedView
fresh_watched = record { sets = 0; kept = []; deleted = None }

-- with one more set
abbrev pub with_set : WatchedView → WatchedView
with_set watched = record watched { sets = watched.sets + 1; kept = watched.kept ++ (record { value = watched.sets; stored = None }) ∷ [] }

abbrev pub first_stored : ℕ → Option ℕ → Option ℕ
first_stored place None = Some place
first_stored place (Some earlier) = Some earlier

-- the value's set was answered at this place, where it is this value
abbrev pub marked : ℕ → ℕ → Kept → Kept
marked value place kept = if kept.value == value then record { value = kept.value; stored = first_stored place kept.stored } else kept

abbrev pub was_after : ℕ → Option ℕ → Bool
was_after delete None = true
was_after delete (Some place) = nat_le delete place

-- its set wasn't answered before the delete of this number was issued
abbrev pub outlives : ℕ → Kept → Bool
outlives delete kept = was_after delete kept.stored

-- the delete was issued after that one
abbrev pub is_later : Option Probe → Probe → Bool
is_later None delete = true
is_later (Some latest) delete = nat_lt latest.number delete.number

-- with one more acknowledged delete
abbrev pub acknowledged : WatchedView → Probe → WatchedView
acknowledged watched delete = if is_later watched.deleted delete
    then record watched { deleted = Some delete; kept = filter (outlives delete.number) watched.kept }
    else watched

abbrev pub has_value : ℕ → Kept → Bool
has_value value kept = kept.value == value

-- the value is kept
abbrev pub keeps : List Kept → ℕ → Bool
keeps kept value = list_any (has_value value) kept

-- the delete that convicts a hit of the value
abbrev pub convicting : WatchedView → ℕ → Option Probe
convicting watched value = if nat_lt value watched.sets && not (keeps watched.kept value) then watched.deleted else None

-- how many values are kept of each key
abbrev pub kept_of : List WatchedView → List ℕ
kept_of keys = map (λ (watched : WatchedView). length watched.kept) keys
