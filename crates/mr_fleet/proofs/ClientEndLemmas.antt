-- How a client of a fleet ends.
use Rattle.std.proofs.Common.{◌≡◌, ◌≢◌, ℕ, [], Err, refl, subst, inr}
use Rattle.mr_node.specs.declared.ended.Ended.{Ended}
use Rattle.std.specs.Prelude.{Result}
use Rattle.mr_desks.specs.declared.error.WorkerError.{WorkerError}
use Rattle.mr_desks.specs.declared.error.WorkerError.TheVariants.{NoThread}
use Rattle.mr_sessions.specs.Account.{Account}
use Rattle.mr_sessions.specs.ClientSession.{ClientRules, ClientSessionIs}
use Rattle.mr_fleet.specs.ClientEnd.{ClientEndView, client_end, IsUnread, IsUnwritten, HadSession, EndStands}
use Rattle.mr_text.specs.Sink.{SinkView}
use Rattle.mr_text.specs.Source.{SourceView}
use Rattle.mr_proxy.specs.Answer.{AnswerView}
use Rattle.std.proofs.Common.{List}

-- a client ends that had no thread
pub had_no_thread : {K : Type 0} (rules : ClientRules K Account) (turns : ℕ) (reader : SourceView) (writer : SinkView) (issued : ℕ)
    (took : List AnswerView) → IsUnread reader → IsUnwritten writer → issued ≡ 0 → took ≡ []
    → EndStands rules turns (client_end reader writer issued took (Err NoThread))
had_no_thread rules turns reader writer issued took unread unwritten unissued untaken =
    inr (record { told = refl; unread = unread; unwritten = unwritten; unissued = unissued; untaken = untaken })

-- a session does not end for want of a thread
pub had_a_thread : {K : Type 0} (rules : ClientRules K Account) (turns : ℕ) (end : ClientEndView)
    → HadSession rules turns end → end.result ≢ Err NoThread
had_a_thread rules turns end had told =
    subst (λ (r : Result Ended WorkerError). ClientSessionIs rules had.reader end.reader had.before had.after r) told had.session
