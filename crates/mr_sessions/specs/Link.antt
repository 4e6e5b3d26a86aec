-- A link to a node, and what it does with a leg.
use Rattle.std.specs.Prelude.{◌≡◌, ℕ, ◌+◌, ◌⊎◌, [], Bool, true, false, Option, Some, None}
use Rattle.mr_text.specs.Sink.{SinkView}
use Rattle.mr_text.specs.Source.{SourceView}
use Rattle.mr_join.specs.declared.leg_reply.LegReply.{LegReply}
use Rattle.mr_node.specs.declared.command.NodeCommand.{NodeCommand}
use Rattle.mr_proxy.specs.declared.sheet.LegSheet.{LegSheet}
use Rattle.mr_desks.specs.declared.error.WorkerError.{WorkerError}
use Rattle.mr_desks.specs.declared.error.WorkerError.TheVariants.{LinkBroken, OutOfMemory}
use Rattle.mr_sessions.specs.Exchange.{Wire, wire, HasAnswer, HasFailed}

-- a link as contracts see it
pub record LinkView : Type 0 where
  pub wire : Wire
  -- how many reads it makes at most for one leg
  pub turns : ℕ
  -- the buffer that it writes and reads by was made, and is kept
  pub has_buffer : Bool
  -- a fault broke it
  pub broken : Bool
  -- how often a leg wasn't carried
  pub faults : ℕ

-- a link that carried nothing yet
abbrev pub new_link : SourceView → SinkView → ℕ → LinkView
new_link reader writer turns = record { wire = wire reader writer []; turns = turns; has_buffer = false; broken = false; faults = 0 }

-- a link that wasn't broken carried the leg, and isn't broken
pub record HasCarried (command : NodeCommand) (old : LinkView) (leg : LegReply) (new : LinkView) : Type 0 where
  pub was_whole : old.broken ≡ false
  pub answered : HasAnswer old.turns command old.wire new.wire leg
  pub same_turns : new.turns ≡ old.turns
  pub keeps_buffer : new.has_buffer ≡ true
  pub is_whole : new.broken ≡ false
  pub steady : new.faults ≡ old.faults

-- there was no memory for the buffer, which is made for the first leg: nothing was written or read
pub record LacksBuffer (old : LinkView) (fault : WorkerError) (new : LinkView) : Type 0 where
  pub had_none : old.has_buffer ≡ false
  pub no_memory : fault ≡ OutOfMemory
  pub untouched : new.wire ≡ old.wire

-- a link that wasn't broken didn't carry the leg, and is broken now, without a buffer
pub record Breaks (command : NodeCommand) (old : LinkView) (fault : WorkerError) (new : LinkView) : Type 0 where
  pub was_whole : old.broken ≡ false
  pub failed : HasFailed old.turns command old.wire new.wire fault ⊎ LacksBuffer old fault new
  pub same_turns : new.turns ≡ old.turns
  pub drops_buffer : new.has_buffer ≡ false
  pub is_broken : new.broken ≡ true
  pub counted : new.faults ≡ old.faults + 1

-- a broken link does nothing but to count
pub record IsBroken (old : LinkView) (fault : WorkerError) (new : LinkView) : Type 0 where
  pub was_broken : old.broken ≡ true
  pub is_link_broken : fault ≡ LinkBroken
  pub nothing_done : new ≡ record old { faults = old.faults + 1 }

-- the leg wasn't carried for this reason: that broke the link, or the link was broken before
abbrev pub IsNotCarried : NodeCommand → LinkView → WorkerError → LinkView → Type 0
IsNotCarried command old fault new = Breaks command old fault new ⊎ IsBroken old fault new

-- the leg was carried with this reply, or wasn't for some reason
abbrev pub LinkCarries : LinkView → LegSheet → Option LegReply → LinkView → Type 0
LinkCarries old sheet (Some reply) new = HasCarried sheet.command old reply new
LinkCarries old sheet None new = (fault : WorkerError) × IsNotCarried sheet.command old fault new
