-- What a request comes to that was asked for.
use Rattle.std.proofs.Common.{◌≡◌, ℕ, ◌+◌, List, Bool, Result, Err, refl, ap, inl, inr}
use Rattle.mr_text.specs.Sink.{SinkView}
use Rattle.mr_text.specs.declared.request.Request.{Request}
use Rattle.mr_history.specs.declared.op_id.OpId.{OpId}
use Rattle.mr_node.specs.Session.{station}
use Rattle.mr_proxy.specs.Answer.{AnswerView, reply_of}
use Rattle.mr_proxy.specs.declared.sheet.LegSheet.{LegSheet}
use Rattle.mr_desks.specs.Carriers.{CarriersView}
use Rattle.mr_desks.specs.Desk.{DeskIssues, DeskRefuses}
use Rattle.mr_desks.specs.Issuing.{ClockRelation, clock_call}
use Rattle.mr_desks.specs.Recorded.{Gave, AnswerStands}
use Rattle.mr_desks.specs.declared.desk_error.DeskError.{DeskError}
use Rattle.mr_desks.specs.declared.error.WorkerError.{WorkerError}
use Rattle.mr_desks.specs.declared.error.WorkerError.TheVariants.{BookDiffers}
use Rattle.mr_sessions.specs.Account.{account, kept_with, AreCarried}
use Rattle.mr_sessions.specs.Asking.{desk_rules}
use Rattle.mr_sessions.specs.Own.{issued_of, IsAnswerTo}
use Rattle.mr_sessions.specs.steps.Carrying.{IsUnanswered}
use Rattle.mr_sessions.specs.steps.ClientStep.{AnsweredSo, RefusalToldSo, AskedSo}

module _ {K : Type 0} (reads : ClockRelation K) (failures : K → ℕ) (gave : Gave) (recorded : Bool) (clock clock' : K) (share share' : ℕ) (answers answers' : List AnswerView)
    (carriers carriers' : CarriersView) (written written' : SinkView) (request : Request) (result : Result (Unit {0}) WorkerError) where
  -- the request was issued and answered
  pub answered_so : (op : OpId) (legs : List LegSheet) (answer : AnswerView)
      → DeskIssues gave (clock_call reads failures clock clock') share request op legs → share' ≡ share + 1
      → IsAnswerTo (issued_of op request legs) answer → AnswerStands gave answer → AreCarried recorded legs answer.given_up carriers carriers'
      → answers' ≡ kept_with recorded answers answer → AnsweredSo request (reply_of answer) written written' result
      → AskedSo (desk_rules reads failures gave recorded) (station clock (account share answers carriers) written)
      (station clock' (account share' answers' carriers') written') request result
  answered_so op legs answer issues counted own stands carried kept told = inl (
    reply_of answer,
    inl (record {
      op = op;
      legs = legs;
      answer = answer;
      issued = issues;
      answered = record { own = own; stands = stands; counted = counted; kept = kept; carried = carried };
      told = refl;
    }),
    told,
  )

-- the request was refused
module _ {K : Type 0} (reads : ClockRelation K) (failures : K → ℕ) (gave : Gave) (recorded : Bool) (clock clock' : K) (share share' : ℕ) (answers : List AnswerView)
    (carriers : CarriersView) (written written' : SinkView) (request : Request) (result : Result (Unit {0}) WorkerError) where
  pub refused_so : (e : DeskError) → DeskRefuses gave recorded (clock_call reads failures clock clock') share e → share' ≡ share
      → RefusalToldSo request e written written' result
      → AskedSo (desk_rules reads failures gave recorded) (station clock (account share answers carriers) written)
      (station clock' (account share' answers carriers) written') request result
  refused_so e refuses same told = inl (
    _,
    inr (record {
      refusal = e;
      cause = told.0;
      refused = refuses;
      why = told.1;
      told = refl;
      unchanged = ap (λ n. account n answers carriers) same;
    }),
    told.2,
  )

-- the request was issued, and has no answer
module _ {K : Type 0} (reads : ClockRelation K) (failures : K → ℕ) (gave : Gave) (recorded : Bool) (clock clock' : K) (share share' : ℕ) (answers answers' : List AnswerView)
    (carriers carriers' : CarriersView) (written : SinkView) (request : Request) where
  pub vain_so : (op : OpId) (legs : List LegSheet) → DeskIssues gave (clock_call reads failures clock clock') share request op legs → share' ≡ share + 1
      → answers' ≡ answers → IsUnanswered gave recorded (issued_of op request legs) carriers carriers'
      → AskedSo (desk_rules reads failures gave recorded) (station clock (account share answers carriers) written)
      (station clock' (account share' answers' carriers') written) request (Err BookDiffers)
  vain_so op legs issues counted kept is = inr (
    refl,
    record { op = op; legs = legs; issued = issues; left = record { unanswered = is.unanswered; counted = counted; kept = kept; given_up = is.given_up; carried = is.carried } },
    refl,
  )
