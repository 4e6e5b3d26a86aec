-- How the next reply of a node is read, step by step.
use Rattle.std.specs.Prelude.{◌≡◌, ℕ, ◌⊎◌, false, List, ◌++◌, Option, Some, None, Result, Ok, Err}
use Rattle.mr_text.specs.Replies.{SpellsReply, RefusesReply, HoldsReply, HoldsPartOfReply}
use Rattle.mr_text.specs.Source.{SourceView}
use Rattle.mr_text.specs.Stream.{ReaderView, BeginsWith, Becomes}
use Rattle.mr_text.specs.declared.error.TextError.{TextError}
use Rattle.mr_text.specs.declared.error.TextError.TheVariants.{OutOfMemory as NoMemory}
use Rattle.mr_text.specs.declared.reply.Reply.{Reply}
use Rattle.mr_desks.specs.declared.error.WorkerError.{WorkerError}
use Rattle.mr_desks.specs.declared.error.WorkerError.TheVariants.{LinkBroken, Mismatch, ReadFault, OutOfMemory}
use Rattle.mr_sessions.specs.Reading.{NeedsMore, BringsPiece, MeetsEnd, FailsToRead, HasBrought, HasNoReply}

-- replies can still be read
abbrev pub IsOpen : ReaderView → Type 0
IsOpen replies = (replies.ended ≡ false) × (replies.closed ≡ false)

-- the next reply is what the bytes begin with, and what follows it is kept
abbrev pub ReplyIs : ℕ → List ℕ → SourceView → Result Reply WorkerError → ReaderView → SourceView → Type 0
ReplyIs turns kept old (Ok reply) replies new =
    (came : List ℕ) × HasBrought turns kept came old new × BeginsWith SpellsReply (kept ++ came) reply replies.kept × IsOpen replies
ReplyIs turns kept old (Err fault) replies new = HasNoReply turns kept old fault new

-- what a refusal of the replies is to a link: want of memory stays what it is, and anything else is no reply
abbrev pub fault_of : TextError → WorkerError
fault_of NoMemory = OutOfMemory
fault_of refusal = Mismatch

-- what is whole in the bytes that were kept
abbrev pub NextIs : List ℕ → Result (Option Reply) WorkerError → ReaderView → Type 0
NextIs kept (Ok (Some reply)) replies = BeginsWith SpellsReply kept reply replies.kept × IsOpen replies
NextIs kept (Ok None) replies = NeedsMore kept × Becomes replies kept false false
NextIs kept (Err Mismatch) replies = (refusal : TextError) × RefusesReply refusal kept
NextIs kept (Err OutOfMemory) replies = HoldsReply kept ⊎ HoldsPartOfReply kept
NextIs kept (Err other) replies = ⊥

-- what one read comes to
abbrev pub ReplyPieceIs : List ℕ → SourceView → Result (Unit {0}) WorkerError → ReaderView → SourceView → Type 0
ReplyPieceIs kept old (Ok _) replies new = (piece : List ℕ) × BringsPiece piece old new × Becomes replies (kept ++ piece) false false
ReplyPieceIs kept old (Err ReadFault) replies new = FailsToRead old new
ReplyPieceIs kept old (Err LinkBroken) replies new = MeetsEnd old new
ReplyPieceIs kept old (Err OutOfMemory) replies new = (piece : List ℕ) × BringsPiece piece old new
ReplyPieceIs kept old (Err other) replies new = ⊥
