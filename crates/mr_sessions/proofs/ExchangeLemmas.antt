-- One request and its reply.
use Rattle.std.proofs.Common.{◌≡◌, ℕ, List, true, Option, Some, None, Result, Ok, Err, sym, subst, inr}
use Rattle.std.specs.Prelude.{MatchOption, ok_or}
use Rattle.std.specs.Result.{is_ok}
use Rattle.mr_text.specs.Gathering.{TakesFewCalls}
use Rattle.mr_text.specs.Sink.{Writes}
use Rattle.mr_text.specs.declared.error.WriteFault.{WriteFault as Fault}
use Rattle.mr_text.specs.Sink.{SinkView}
use Rattle.mr_text.specs.Source.{SourceView}
use Rattle.mr_text.specs.Stream.{ReaderView}
use Rattle.mr_text.specs.declared.reply.Reply.{Reply}
use Rattle.mr_join.specs.declared.leg_reply.LegReply.{LegReply}
use Rattle.mr_node.specs.declared.command.NodeCommand.{NodeCommand}
use Rattle.mr_proxy.specs.NodeReplies.{IsAnswer}
use Rattle.mr_proxy.specs.NodeRequests.{text_for}
use Rattle.mr_desks.specs.declared.error.WorkerError.{WorkerError}
use Rattle.mr_desks.specs.declared.error.WorkerError.TheVariants.{Mismatch}
use Rattle.mr_sessions.specs.Exchange.{wire, HasAsked}
use Rattle.mr_sessions.specs.steps.Exchange.{ExchangeIs}
use Rattle.mr_sessions.specs.steps.Reading.{ReplyIs}

-- the request was written
pub was_asked : (command : NodeCommand) (old new : SinkView) (result : Result (Unit {0}) Fault) → Writes (text_for command) old result new
    → TakesFewCalls (text_for command) 1 old new → is_ok result ≡ true → HasAsked command old new
was_asked command old new (Ok _) wrote calls is = record { wrote = wrote; calls = calls }
was_asked command old new (Err _) wrote calls is = cc

module _ (turns : ℕ) (command : NodeCommand) (reader reader' : SourceView) (writer writer' : SinkView) (kept : List ℕ) (replies : ReaderView)
    (asked : HasAsked command writer writer') where
  -- a reply came, and it is an answer or none: that is a mismatch
  by_answer : (reply : Reply) (said : Option LegReply) → ReplyIs turns kept reader (Ok reply) replies reader'
      → MatchOption said ((leg : LegReply) → ¬ IsAnswer command reply leg) (IsAnswer command reply)
      → ExchangeIs turns command (wire reader writer kept) (ok_or said Mismatch) (wire reader' writer' replies.kept)
  by_answer reply (Some leg) came is = record {
    reply = reply;
    replied = record { asked = asked; came = came.0; brought = came.1; next = came.2 };
    answers = is;
  }
  by_answer reply None came is = inr (record {
    reply = reply;
    after = replies.kept;
    replied = record { asked = asked; came = came.0; brought = came.1; next = came.2 };
    other = is;
  })

  pub answered : (reply : Reply) (said : Option LegReply) (result : Result LegReply WorkerError) → ReplyIs turns kept reader (Ok reply) replies reader'
      → MatchOption said ((leg : LegReply) → ¬ IsAnswer command reply leg) (IsAnswer command reply) → result ≡ ok_or said Mismatch
      → ExchangeIs turns command (wire reader writer kept) result (wire reader' writer' replies.kept)
  answered reply said result came is becomes =
      subst (λ (r : Result LegReply WorkerError). ExchangeIs turns command (wire reader writer kept) r (wire reader' writer' replies.kept)) (sym becomes)
      (by_answer reply said came is)
