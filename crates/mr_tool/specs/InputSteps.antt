-- What private functions that read an input say to one another. No clause of a public call cites these definitions.
use Rattle.std.specs.Io.KnownBytes.{Consumes, IsAtEnd}
use Rattle.std.specs.Prelude.{◌≡◌, ℕ, ◌+◌, ◌-◌, ◌<◌, ◌≤◌, min, Bool, true, false, List, [], ◌++◌, length, Result, Ok, Err}
use Rattle.mr_text.specs.Source.{SourceView, least_with}
use Rattle.mr_tool.specs.Input.{most_taken, piece_length}
use Rattle.mr_tool.specs.declared.fault.Fault.{Fault}
use Rattle.mr_tool.specs.declared.fault.Fault.TheVariants.{Memory, Input}

-- one read brought this piece, behind the bytes that were taken early
pub record BringsInput (early piece : List ℕ) (before after : SourceView) : Type 0 where
  pub taken : after.taken ≡ before.taken ++ piece
  pub consumes : Consumes before.left after.left piece
  pub counted : after.reads ≡ before.reads + 1
  pub offered : after.least_room ≡ least_with before.least_room (min piece_length (most_taken - length early))
  pub fits : length early + length piece ≤ most_taken

-- one read brought some bytes
pub record BringsSome (early piece : List ℕ) (before after : SourceView) : Type 0 where
  pub brings : BringsInput early piece before after
  pub some : 0 < length piece
  pub steady : after.failures ≡ before.failures

-- What one read adds to the bytes that were taken early. Whether it was the end of the input.
abbrev pub AddsPiece : List ℕ → SourceView → Result Bool Fault → List ℕ → SourceView → Type 0
AddsPiece early before (Ok true) now after = BringsInput early [] before after × (now ≡ early) × (after.failures ≡ before.failures) × IsAtEnd after.left
AddsPiece early before (Ok false) now after = (piece : List ℕ) × BringsSome early piece before after × (now ≡ early ++ piece)
AddsPiece early before (Err Input) now after = BringsInput early [] before after × (after.failures ≡ before.failures + 1)
AddsPiece early before (Err Memory) now after = (piece : List ℕ) × BringsSome early piece before after
AddsPiece early before (Err fault) now after = ⊥
