-- Where a session stands while it runs.
use Rattle.mr_text.specs.Sink.{SinkView}
use Rattle.mr_node.specs.Session.{Station, station}
use Rattle.mr_desks.specs.Carriers.{CarriersView}
use Rattle.mr_sessions.specs.Account.{Account, account}
use Rattle.mr_sessions.specs.declared.session_log.SessionLog.{SessionLog}

-- its clock, what its log and its carriers account for, and its writer
abbrev pub standing : {K : Type 0} → K → SessionLog → CarriersView → SinkView → Station K Account
standing clock log carriers writer = station clock (account log.share log.answers.items carriers) writer
