-- What is read of an answer, piece by piece.
use Rattle.std.specs.Prelude.{◌≡◌, ℕ, ◌+◌, ◌<◌, ◌≤◌, ◌||◌, List, [], ◌++◌, length, Bool, true, false, codes}
use Rattle.std.specs.List.{ends_with}
use Rattle.std.specs.Prelude.{nat_eq}
use Rattle.std.specs.Io.KnownBytes.{Consumes, IsAtEnd}
use Rattle.mr_text.specs.Source.{SourceView}
use Rattle.mr_http.specs.declared.error.FetchFault.{FetchFault}
use Rattle.mr_http.specs.declared.error.FetchFault.TheVariants.{ReadFault, TooLarge, OutOfMemory}
use Rattle.mr_http.specs.declared.pieces.Until.{Until}
use Rattle.mr_http.specs.declared.pieces.Until.TheVariants.{EndOfInput, EndOfStats}

-- how many bytes are read of a response at most
abbrev pub MAX_RESPONSE : ℕ
MAX_RESPONSE = 4194304

-- how many bytes are read of statistics at most
abbrev pub MAX_STATS : ℕ
MAX_STATS = 65536

-- how many bytes of an answer are read at most
abbrev pub most_bytes : Until → ℕ
most_bytes EndOfInput = MAX_RESPONSE
most_bytes EndOfStats = MAX_STATS

-- how many reads are made of it at most: each but the last brings a byte
abbrev pub most_reads : Until → ℕ
most_reads until = most_bytes until + 1

-- the answer is whole before the input ends
abbrev pub is_whole : Until → List ℕ → Bool
is_whole EndOfInput bytes = false
is_whole EndOfStats bytes = ends_with nat_eq bytes (codes "END\r\n") || ends_with nat_eq bytes (codes "ERROR\r\n")

-- one read brought a piece, which is empty at the end of the input alone
pub record BringsPiece (most : ℕ) (before after : List ℕ) (old new : SourceView) (ended : Bool) : Type 0 where
  pub piece : List ℕ
  pub added : after ≡ before ++ piece
  pub taken : new.taken ≡ old.taken ++ piece
  pub leaves : Consumes old.left new.left piece
  pub steady : new.failures ≡ old.failures
  pub few : length after ≤ most
  pub brought : ended ≡ false → 0 < length piece
  pub stopped : ended ≡ true → piece ≡ []
  pub at_end : ended ≡ true → IsAtEnd new.left

-- more bytes came than there may be, behind those of before
pub record Overflows (most : ℕ) (before : List ℕ) (old new : SourceView) : Type 0 where
  pub piece : List ℕ
  pub taken : new.taken ≡ old.taken ++ piece
  pub steady : new.failures ≡ old.failures
  pub many : most < length (before ++ piece)

-- why an answer isn't read on: a read failed, too much came, or memory was refused for what came
abbrev pub FailsBehind : ℕ → List ℕ → FetchFault → SourceView → SourceView → Type 0
FailsBehind most before ReadFault old new = new.failures ≡ old.failures + 1
FailsBehind most before TooLarge old new = Overflows most before old new
FailsBehind most before OutOfMemory old new = new.failures ≡ old.failures
FailsBehind most before fault old new = ⊥

-- No read failed, and these bytes came, no more than there may be. Before the last read they weren't whole. Now they are, or
-- the input has ended.
pub record IsRead (until : Until) (bytes : List ℕ) (old new : SourceView) : Type 0 where
  pub front : List ℕ
  pub piece : List ℕ
  pub last : bytes ≡ front ++ piece
  pub needed : is_whole until front ≡ false
  pub ended : is_whole until bytes ≡ false → IsAtEnd new.left
  pub taken : new.taken ≡ old.taken ++ bytes
  pub leaves : Consumes old.left new.left bytes
  pub few : length bytes ≤ most_bytes until
  pub steady : new.failures ≡ old.failures

-- why an answer isn't read
abbrev pub IsNotRead : Until → FetchFault → SourceView → SourceView → Type 0
IsNotRead until fault old new = FailsBehind (most_bytes until) [] fault old new
