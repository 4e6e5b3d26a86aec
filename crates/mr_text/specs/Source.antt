-- A stream of bytes to read from, as contracts see it, and what one read does to it.
use Rattle.std.specs.Prelude.{◌≡◌, ℕ, ◌+◌, ◌≤◌, min, List, ◌++◌, take, length, Option, Some, None, Result, Ok, Err}
use Rattle.std.specs.Io.KnownBytes.{ReadConsumes}
use Rattle.mr_text.specs.declared.error.ReadFault.{ReadFault}

-- what a source tells of itself
pub record SourceView : Type 0 where
  -- the bytes given so far
  pub taken : List ℕ
  -- the bytes still to come, where they are known
  pub left : Option (List ℕ)
  -- how many reads were made, those that failed included
  pub reads : ℕ
  -- how often a read failed
  pub failures : ℕ
  -- the least room that a read was offered, once one was made
  pub least_room : Option ℕ

-- the least room once one more read was offered this much
abbrev pub least_with : Option ℕ → ℕ → Option ℕ
least_with None room = Some room
least_with (Some least) room = Some (min least room)

-- each read was offered so much room, or more
abbrev pub AreOffered : ℕ → Option ℕ → Type 0
AreOffered room None = Unit {0}
AreOffered room (Some least) = room ≤ least

-- one read into a buffer, by what the buffer holds then: some bytes at its front, or a fault
abbrev pub HasGiven : List ℕ → SourceView → Result ℕ ReadFault → SourceView → Type 0
HasGiven buffer old (Ok count) new = (count ≤ length buffer) × (new.taken ≡ old.taken ++ take count buffer) × (new.failures ≡ old.failures)
HasGiven buffer old (Err _) new = (new.taken ≡ old.taken) × (new.failures ≡ old.failures + 1)

-- one read: what it gives, what it takes from what was left, and that it is counted with its room
pub record IsOneRead (buffer : List ℕ) (old : SourceView) (result : Result ℕ ReadFault) (new : SourceView) : Type 0 where
  pub gives : HasGiven buffer old result new
  pub consumes : ReadConsumes old.left new.left result buffer
  pub counted : new.reads ≡ old.reads + 1
  pub offered : new.least_room ≡ least_with old.least_room (length buffer)
