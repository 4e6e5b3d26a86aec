-- How a client of a fleet ends.
use Rattle.std.specs.Prelude.{◌≡◌, ◌≢◌, ◌⊎◌, ℕ, ◌+◌, List, [], length, false, None, Result, Err}
use Rattle.mr_text.specs.Sink.{SinkView}
use Rattle.mr_text.specs.Source.{SourceView}
use Rattle.mr_node.specs.Session.{Station, ReadsWithin, SpendsTurns, OneReadFailed, NoReadFailed, LastWriteFailed, NoWriteFailed}
use Rattle.mr_node.specs.declared.ended.Ended.{Ended}
use Rattle.mr_proxy.specs.Answer.{AnswerView}
use Rattle.mr_desks.specs.Carriers.{unused}
use Rattle.mr_desks.specs.declared.error.WorkerError.{WorkerError}
use Rattle.mr_desks.specs.declared.error.WorkerError.TheVariants.{ReadFault, WriteFault, TurnsSpent, NoThread}
use Rattle.mr_sessions.specs.Account.{Account, account}
use Rattle.mr_sessions.specs.ClientSession.{ClientRules, ClientSessionIs, FewAreGivenUp, unanswered_count}

-- how a client ended: what its reader gave, what its writer was handed, how many requests were issued, which answers were
-- taken, and how its session ended
pub record ClientEndView : Type 0 where
  pub reader : SourceView
  pub writer : SinkView
  pub issued : ℕ
  pub took : List AnswerView
  pub result : Result Ended WorkerError

-- a client's end of these five
abbrev pub client_end : SourceView → SinkView → ℕ → List AnswerView → Result Ended WorkerError → ClientEndView
client_end reader writer issued took result = record { reader = reader; writer = writer; issued = issued; took = took; result = result }

-- nothing was read
abbrev pub IsUnread : SourceView → Type 0
IsUnread reader = reader ≡ record { taken = []; left = reader.left; reads = 0; failures = 0; least_room = None }

-- nothing was written
abbrev pub IsUnwritten : SinkView → Type 0
IsUnwritten writer = writer ≡ record { written = []; handed = []; calls = 0; failures = 0; last_failed = false; contents = writer.contents }

-- A session at a proxy with a book served what this reader gave, from its beginning, over carriers that nothing went through
-- before, and this is all that this writer was handed. It issued so many requests, took these answers, and ended so. What is
-- said of it is what is said of any session.
pub record HadSession {K : Type 0} (rules : ClientRules K Account) (turns : ℕ) (end : ClientEndView) : Type 0 where
  pub reader : SourceView
  pub before : Station K Account
  pub after : Station K Account
  pub unread : IsUnread reader
  pub unwritten : IsUnwritten before.writer
  pub begins : before.node ≡ account 0 [] unused
  pub accounts : after.node ≡ account end.issued end.took after.node.carriers
  pub writes : after.writer ≡ end.writer
  pub session : ClientSessionIs rules reader end.reader before after end.result
  pub share : end.issued ≡ length end.took + unanswered_count end.result
  pub given_up : FewAreGivenUp end.took before.node.carriers after.node.carriers
  pub within : ReadsWithin turns reader end.reader
  pub spent : end.result ≡ Err TurnsSpent → SpendsTurns turns reader end.reader
  pub read_fault : end.result ≡ Err ReadFault → OneReadFailed reader end.reader
  pub no_read_fault : end.result ≢ Err ReadFault → NoReadFailed reader end.reader
  pub write_fault : end.result ≡ Err WriteFault → LastWriteFailed before.writer end.writer
  pub no_write_fault : end.result ≢ Err WriteFault → NoWriteFailed before.writer end.writer

-- no thread could be made, and nothing was read, written, issued or taken
pub record HadNoThread (end : ClientEndView) : Type 0 where
  pub told : end.result ≡ Err NoThread
  pub unread : IsUnread end.reader
  pub unwritten : IsUnwritten end.writer
  pub unissued : end.issued ≡ 0
  pub untaken : end.took ≡ []

-- how a client ended whose session may make so many reads
abbrev pub EndStands : {K : Type 0} → ClientRules K Account → ℕ → ClientEndView → Type 0
EndStands rules turns end = HadSession rules turns end ⊎ HadNoThread end
