-- One request to a node and its reply.
use Rattle.std.specs.Prelude.{◌≡◌, ℕ, ◌⊎◌, List, ◌++◌}
use Rattle.mr_text.specs.Gathering.{TakesFewCalls}
use Rattle.mr_text.specs.Replies.{SpellsReply}
use Rattle.mr_text.specs.Sink.{SinkView, HasWritten, HasStopped}
use Rattle.mr_text.specs.Source.{SourceView}
use Rattle.mr_text.specs.Stream.{BeginsWith}
use Rattle.mr_text.specs.declared.reply.Reply.{Reply}
use Rattle.mr_join.specs.declared.leg_reply.LegReply.{LegReply}
use Rattle.mr_node.specs.declared.command.NodeCommand.{NodeCommand}
use Rattle.mr_proxy.specs.NodeReplies.{IsAnswer}
use Rattle.mr_proxy.specs.NodeRequests.{text_for}
use Rattle.mr_desks.specs.declared.error.WorkerError.{WorkerError}
use Rattle.mr_desks.specs.declared.error.WorkerError.TheVariants.{WriteFault, Mismatch}
use Rattle.mr_sessions.specs.Reading.{HasBrought, HasNoReply}

-- both directions of a stream to a node
pub record Wire : Type 0 where
  -- what was read
  pub reader : SourceView
  -- what was written
  pub writer : SinkView
  -- the bytes that came and that no reply has taken
  pub kept : List ℕ

-- a wire of these three
abbrev pub wire : SourceView → SinkView → List ℕ → Wire
wire reader writer kept = record { reader = reader; writer = writer; kept = kept }

-- the request went out, all of it and nothing else, in one call where it fits the writers' buffer
pub record HasAsked (command : NodeCommand) (old new : SinkView) : Type 0 where
  pub wrote : HasWritten (text_for command) old new
  pub calls : TakesFewCalls (text_for command) 1 old new

-- a beginning of the request went out, and the call that failed was the last
pub record HasStoppedAsking (command : NodeCommand) (old new : SinkView) : Type 0 where
  pub stopped : HasStopped (text_for command) old new
  pub calls : TakesFewCalls (text_for command) 1 old new

module _ (turns : ℕ) (command : NodeCommand) (old new : Wire) where
  -- The request went out, and the reply that stands next in the input came, is taken from it and is this one.
  pub record HasReply (reply : Reply) (after : List ℕ) : Type 0 where
    pub asked : HasAsked command old.writer new.writer
    pub came : List ℕ
    pub brought : HasBrought turns old.kept came old.reader new.reader
    pub next : BeginsWith SpellsReply (old.kept ++ came) reply after

  -- The leg has a reply: what the node's reply says of it. What comes behind that is kept.
  pub record HasAnswer (leg : LegReply) : Type 0 where
    pub reply : Reply
    pub replied : HasReply reply new.kept
    pub answers : IsAnswer command reply leg

  -- the node's reply is no answer to the command
  pub record HasOtherReply : Type 0 where
    pub reply : Reply
    pub after : List ℕ
    pub replied : HasReply reply after
    pub other : (leg : LegReply) → ¬ IsAnswer command reply leg

  -- a beginning of the request was written, nothing behind it, and nothing was read
  pub record IsNotAsked : Type 0 where
    pub stopped : HasStoppedAsking command old.writer new.writer
    pub unread : new.reader ≡ old.reader

  -- the request went out, and for this reason no reply came
  pub record IsNotReplied (fault : WorkerError) : Type 0 where
    pub asked : HasAsked command old.writer new.writer
    pub none : HasNoReply turns old.kept old.reader fault new.reader

  -- why the leg has no reply
  abbrev pub HasFailed : WorkerError → Type 0
  HasFailed WriteFault = IsNotAsked
  HasFailed Mismatch = IsNotReplied Mismatch ⊎ HasOtherReply
  HasFailed fault = IsNotReplied fault
