-- One request to a node and its reply, with the one result that they come to.
use Rattle.std.specs.Prelude.{ℕ, Result, Ok, Err}
use Rattle.mr_join.specs.declared.leg_reply.LegReply.{LegReply}
use Rattle.mr_node.specs.declared.command.NodeCommand.{NodeCommand}
use Rattle.mr_desks.specs.declared.error.WorkerError.{WorkerError}
use Rattle.mr_sessions.specs.Exchange.{Wire, HasAnswer, HasFailed}

abbrev pub ExchangeIs : ℕ → NodeCommand → Wire → Result LegReply WorkerError → Wire → Type 0
ExchangeIs turns command old (Ok leg) new = HasAnswer turns command old new leg
ExchangeIs turns command old (Err fault) new = HasFailed turns command old new fault
