-- What a client's request comes to at a desk.
use Rattle.std.specs.Prelude.{◌≡◌, ℕ, ◌⊎◌, List, Bool, Some}
use Rattle.mr_text.specs.declared.cause.Cause.{Cause}
use Rattle.mr_text.specs.declared.reply.Reply.{Reply}
use Rattle.mr_text.specs.declared.reply.Reply.TheVariants.{ServerError}
use Rattle.mr_text.specs.declared.request.Request.{Request}
use Rattle.mr_history.specs.declared.op_id.OpId.{OpId}
use Rattle.mr_node.specs.Outcome.{Outcomes}
use Rattle.mr_proxy.specs.Answer.{AnswerView, reply_of}
use Rattle.mr_proxy.specs.declared.sheet.LegSheet.{LegSheet}
use Rattle.mr_desks.specs.Desk.{DeskIssues, DeskRefuses}
use Rattle.mr_desks.specs.DeskError.{cause_of_refusal}
use Rattle.mr_desks.specs.Issuing.{ClockRelation, clock_call}
use Rattle.mr_desks.specs.Recorded.{Gave}
use Rattle.mr_desks.specs.declared.desk_error.DeskError.{DeskError}
use Rattle.mr_sessions.specs.Account.{Account, IsAnswered, IsLeftUnanswered}
use Rattle.mr_sessions.specs.ClientSession.{ClientRules}
use Rattle.mr_sessions.specs.Own.{issued_of}

module _ {K : Type 0} (reads : ClockRelation K) (failures : K → ℕ) (gave : Gave) (recorded : Bool) where
  -- the request was issued at a reading of the clock, and its outcome is the reply of its own answer
  pub record GetsAnswer (clock : K) (old : Account) (request : Request) (outcome : Reply) (clock' : K) (new : Account)
      : Type 0 where
    pub op : OpId
    pub legs : List LegSheet
    pub answer : AnswerView
    pub issued : DeskIssues gave (clock_call reads failures clock clock') old.share request op legs
    pub answered : IsAnswered gave recorded (issued_of op request legs) answer old new
    pub told : outcome ≡ reply_of answer

  -- the request was refused, its outcome tells why, and nothing changed
  pub record GetsRefusal (clock : K) (old : Account) (outcome : Reply) (clock' : K) (new : Account) : Type 0 where
    pub refusal : DeskError
    pub cause : Cause
    pub refused : DeskRefuses gave recorded (clock_call reads failures clock clock') old.share refusal
    pub why : cause_of_refusal refusal ≡ Some cause
    pub told : outcome ≡ ServerError cause
    pub unchanged : new ≡ old

  -- a request is answered, or refused
  abbrev pub AsksDesk : Outcomes K Account
  AsksDesk clock old request outcome clock' new =
      GetsAnswer clock old request outcome clock' new ⊎ GetsRefusal clock old outcome clock' new

  -- the request was issued at a reading of the clock, and has no answer
  pub record AsksInVain (clock : K) (old : Account) (request : Request) (clock' : K) (new : Account) : Type 0 where
    pub op : OpId
    pub legs : List LegSheet
    pub issued : DeskIssues gave (clock_call reads failures clock clock') old.share request op legs
    pub left : IsLeftUnanswered gave recorded (issued_of op request legs) old new

  -- what the requests of a client do at a desk
  abbrev pub desk_rules : ClientRules K Account
  desk_rules = record { Answered = AsksDesk; InVain = AsksInVain }
