-- One read into a fixed buffer, by what the buffer holds then.
use Rattle.std.specs.Prelude.{◌≡◌, ℕ, ◌+◌, ◌≤◌, List, [], ◌++◌, length, Result, Ok, Err}
use Rattle.std.specs.Io.KnownBytes.{Consumes, Keeps, IsAtEnd}
use Rattle.mr_text.specs.Limits.{FIXED_BUFFER}
use Rattle.mr_text.specs.Source.{SourceView, least_with}
use Rattle.mr_text.specs.declared.error.ReadFault.{ReadFault}

-- the bytes that came next, and none only at the end of the stream
pub record HasBrought (piece : List ℕ) (old new : SourceView) : Type 0 where
  pub takes : new.taken ≡ old.taken ++ piece
  pub leaves : Consumes old.left new.left piece
  pub fits : length piece ≤ FIXED_BUFFER
  pub at_end : piece ≡ [] → IsAtEnd new.left
  pub steady : new.failures ≡ old.failures

-- a fault, and no bytes
pub record HasFailed (piece : List ℕ) (old new : SourceView) : Type 0 where
  pub empty : piece ≡ []
  pub takes : new.taken ≡ old.taken
  pub keeps : Keeps old.left new.left
  pub failed : new.failures ≡ old.failures + 1

-- what a filling has done, by its result: bytes were brought, or the read failed
abbrev pub FillsSo : List ℕ → SourceView → Result (Unit {0}) ReadFault → SourceView → Type 0
FillsSo piece old (Ok _) new = HasBrought piece old new
FillsSo piece old (Err _) new = HasFailed piece old new

-- the buffer holds this piece after one read, which was offered all its room
pub record IsOneFilling (piece : List ℕ) (old : SourceView) (result : Result (Unit {0}) ReadFault) (new : SourceView) : Type 0 where
  pub fills : FillsSo piece old result new
  pub counted : new.reads ≡ old.reads + 1
  pub offered : new.least_room ≡ least_with old.least_room FIXED_BUFFER
