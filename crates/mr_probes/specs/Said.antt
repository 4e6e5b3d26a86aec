-- What a reply says of the request before it, and what is noted and counted of that.
use Rattle.std.specs.Prelude.{◌≡◌, ℕ, ◌<◌, Bool, true, false, List, Option, Some, None}
use Rattle.mr_text.specs.declared.cause.Cause.{Cause}
use Rattle.mr_text.specs.declared.cause.Cause.TheVariants as cause
use Rattle.mr_text.specs.declared.reply.Reply.{Reply}
use Rattle.mr_text.specs.declared.reply.Reply.TheVariants as reply
use Rattle.mr_join.specs.declared.leg_reply.LegReply.{LegReply}
use Rattle.mr_join.specs.declared.leg_reply.LegReply.TheVariants as leg
use Rattle.mr_node.specs.declared.command.NodeCommand.{NodeCommand}
use Rattle.mr_proxy.specs.NodeReplies.{IsAnswer}
use Rattle.mr_canary.specs.declared.note.Answer.{Answer}
use Rattle.mr_canary.specs.declared.note.Answer.TheVariants as answers
use Rattle.mr_sightings.specs.declared.outcome.Outcome.{Outcome}
use Rattle.mr_sightings.specs.declared.outcome.Outcome.TheVariants as outcomes
use Rattle.mr_sightings.specs.declared.trouble.Trouble.{Trouble}
use Rattle.mr_sightings.specs.declared.trouble.Trouble.TheVariants as troubles
use Rattle.mr_probes.specs.Stamp.{IsStamp, stamp_text}
use Rattle.mr_probes.specs.declared.stamp.Stamp.{Stamp}
use Rattle.mr_probes.specs.declared.answering.Said.{Said}
use Rattle.mr_probes.specs.declared.answering.Said.TheVariants.{Hit, Miss, Stored, Deleted, NotFound, Failed}

-- what the judge is told
abbrev pub answer_of : Said → Answer
answer_of (Hit stamp) = answers.Hit stamp.value
answer_of Miss = answers.Miss
answer_of Stored = answers.Stored
answer_of Deleted = answers.Deleted
answer_of NotFound = answers.NotFound
answer_of (Failed trouble) = answers.Unanswered

-- what is counted
abbrev pub outcome_of : Said → Outcome
outcome_of (Hit stamp) = outcomes.Hit
outcome_of Miss = outcomes.Miss
outcome_of Stored = outcomes.Stored
outcome_of Deleted = outcomes.Acknowledged
outcome_of NotFound = outcomes.Acknowledged
outcome_of (Failed trouble) = outcomes.Failed trouble

-- it acknowledges a delete
abbrev pub acknowledges : Said → Bool
acknowledges (Hit stamp) = false
acknowledges Miss = false
acknowledges Stored = false
acknowledges Deleted = true
acknowledges NotFound = true
acknowledges (Failed trouble) = false

-- the trouble that a server tells by this cause
abbrev pub server_trouble : Cause → Trouble
server_trouble cause.Busy = troubles.Busy
server_trouble cause.LegLost = troubles.LegLost
server_trouble cause.ClockFault = troubles.ClockFault
server_trouble cause.OutOfMemory = troubles.OutOfMemory
server_trouble cause.NodeRefused = troubles.NodeRefused
server_trouble other = troubles.OtherServerError

-- the trouble that a reply tells, where it is an error
abbrev pub error_of : Reply → Option Trouble
error_of (reply.ServerError why) = Some (server_trouble why)
error_of (reply.ClientError why) = Some troubles.ClientError
error_of reply.Error = Some troubles.Error
error_of other = None

-- The data is that of a set of this run and key, of which there were so many, and says this.
pub record HitSays (run key sets : ℕ) (block : List ℕ) (stamp : Stamp) : Type 0 where
  pub is_stamp : IsStamp stamp
  pub of_run : stamp.run ≡ run
  pub of_key : stamp.key ≡ key
  pub was_set : stamp.value < sets
  pub block_is : block ≡ stamp_text stamp

-- what the answer to a leg says
abbrev pub LegSays : (run key sets : ℕ) → LegReply → Said → Type 0
LegSays run key sets (leg.Hit flags block) said = (stamp : Stamp) × (said ≡ Hit stamp) × HitSays run key sets block stamp
LegSays run key sets leg.Miss said = said ≡ Miss
LegSays run key sets leg.Stored said = said ≡ Stored
LegSays run key sets leg.Deleted said = said ≡ Deleted
LegSays run key sets leg.NotFound said = said ≡ NotFound
LegSays run key sets (leg.Failed why) said = ⊥

-- what a reply says that tells this trouble, or none
abbrev pub SaysBeside : Option Trouble → NodeCommand → (run key sets : ℕ) → Reply → Said → Type 0
SaysBeside (Some trouble) command run key sets reply said = said ≡ Failed trouble
SaysBeside None command run key sets reply said = (leg : LegReply) × IsAnswer command reply leg × LegSays run key sets leg said

-- What the reply says of the request for a command of this key: an error whatever was asked, else what answers the command.
abbrev pub Says : NodeCommand → (run key sets : ℕ) → Reply → Said → Type 0
Says command run key sets reply said = SaysBeside (error_of reply) command run key sets reply said
