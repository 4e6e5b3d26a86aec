-- What is read of a node's stream until its next reply is whole.
use Rattle.std.specs.Prelude.{◌≡◌, ℕ, ◌+◌, ◌<◌, ◌≤◌, ◌⊎◌, List, [], ◌++◌, length}
use Rattle.std.specs.Io.KnownBytes.{Consumes, Keeps, IsAtEnd}
use Rattle.mr_text.specs.Replies.{SpellsReply, RefusesReply, HoldsReply, HoldsPartOfReply}
use Rattle.mr_text.specs.Source.{SourceView, AreOffered, least_with}
use Rattle.mr_text.specs.Stream.{IsUnfinished}
use Rattle.mr_text.specs.declared.error.TextError.{TextError}
use Rattle.mr_node.specs.Session.{read_length as room_of_read}
use Rattle.mr_desks.specs.declared.error.WorkerError.{WorkerError}
use Rattle.mr_desks.specs.declared.error.WorkerError.TheVariants.{LinkBroken, Mismatch, ReadFault, TurnsSpent, OutOfMemory}

-- how many bytes there is room for in each read
abbrev pub read_length : ℕ
read_length = room_of_read

-- no reply is whole yet, and nothing is refused: more bytes may make either
abbrev pub NeedsMore : List ℕ → Type 0
NeedsMore bytes = IsUnfinished SpellsReply RefusesReply bytes

-- one read brought this piece
pub record BringsPiece (piece : List ℕ) (old new : SourceView) : Type 0 where
  pub some : 1 ≤ length piece
  pub few : length piece ≤ read_length
  pub takes : new.taken ≡ old.taken ++ piece
  pub leaves : Consumes old.left new.left piece
  pub once : new.reads ≡ old.reads + 1
  pub offered : new.least_room ≡ least_with old.least_room read_length
  pub steady : new.failures ≡ old.failures

-- one read met the end of the stream
pub record MeetsEnd (old new : SourceView) : Type 0 where
  pub at_end : IsAtEnd new.left
  pub takes : new.taken ≡ old.taken
  pub leaves : Consumes old.left new.left []
  pub once : new.reads ≡ old.reads + 1
  pub offered : new.least_room ≡ least_with old.least_room read_length
  pub steady : new.failures ≡ old.failures

-- one read failed
pub record FailsToRead (old new : SourceView) : Type 0 where
  pub takes : new.taken ≡ old.taken
  pub keeps : Keeps old.left new.left
  pub once : new.reads ≡ old.reads + 1
  pub offered : new.least_room ≡ least_with old.least_room read_length
  pub failed : new.failures ≡ old.failures + 1

-- So many reads brought these bytes. Each was made where what was kept and what had come needed more.
pub data Brings (kept : List ℕ) (old : SourceView) : ℕ → List ℕ → SourceView → Type 0 where
  begins : Brings kept old 0 [] old
  reads : {count : ℕ} {came : List ℕ} {between new : SourceView} (piece : List ℕ)
      → Brings kept old count came between → NeedsMore (kept ++ came) → BringsPiece piece between new
      → Brings kept old (count + 1) (came ++ piece) new

-- reads brought these bytes, no more of them than there are turns
pub record HasBrought (turns : ℕ) (kept came : List ℕ) (old new : SourceView) : Type 0 where
  pub count : ℕ
  pub brings : Brings kept old count came new
  pub allowed : count ≤ turns
  pub takes : new.taken ≡ old.taken ++ came
  pub leaves : Consumes old.left new.left came
  pub counted : new.reads ≡ old.reads + count
  pub offered : AreOffered read_length old.least_room → AreOffered read_length new.least_room
  pub steady : new.failures ≡ old.failures

-- one more read was needed, and was made as the last
pub record NeedsRead (turns : ℕ) (kept : List ℕ) (Last : SourceView → SourceView → Type 0) (old new : SourceView) : Type 0 where
  pub came : List ℕ
  pub between : SourceView
  pub brought : HasBrought turns kept came old between
  pub needs : NeedsMore (kept ++ came)
  pub last : Last between new
  pub allowed : new.reads ≤ old.reads + turns

-- all turns are spent, and more is needed
pub record NeedsTurn (turns : ℕ) (kept : List ℕ) (old new : SourceView) : Type 0 where
  pub came : List ℕ
  pub brought : HasBrought turns kept came old new
  pub needs : NeedsMore (kept ++ came)
  pub all : new.reads ≡ old.reads + turns

-- what came is no reply
pub record BringsNoReply (turns : ℕ) (kept : List ℕ) (old new : SourceView) : Type 0 where
  pub came : List ℕ
  pub brought : HasBrought turns kept came old new
  pub refusal : TextError
  pub refused : RefusesReply refusal (kept ++ came)

-- there was no memory for a reply that is whole, for an item of one that isn't yet, or for what a read brought
pub record NeedsMemory (turns : ℕ) (kept : List ℕ) (old new : SourceView) : Type 0 where
  pub came : List ℕ
  pub brought : HasBrought turns kept came old new
  pub wanted : HoldsReply (kept ++ came) ⊎ HoldsPartOfReply (kept ++ came) ⊎ (old.reads < new.reads)

-- why there is no reply
abbrev pub HasNoReply : ℕ → List ℕ → SourceView → WorkerError → SourceView → Type 0
HasNoReply turns kept old ReadFault new = NeedsRead turns kept FailsToRead old new
HasNoReply turns kept old LinkBroken new = NeedsRead turns kept MeetsEnd old new
HasNoReply turns kept old TurnsSpent new = NeedsTurn turns kept old new
HasNoReply turns kept old Mismatch new = BringsNoReply turns kept old new
HasNoReply turns kept old OutOfMemory new = NeedsMemory turns kept old new
HasNoReply turns kept old other new = ⊥
