-- What a request does with a reply.
use Rattle.std.specs.Prelude.{Bool, Option, Some, None, Result, Ok, Err}
use Rattle.mr_join.specs.declared.leg_reply.LegReply.{LegReply}
use Rattle.mr_proxy.specs.Pending.{PendingView, is_complete}

-- whether it is complete with the reply noted; the reply comes back where no leg awaits it
abbrev pub noted_as : LegReply → Option PendingView → Result Bool LegReply
noted_as reply None = Err reply
noted_as reply (Some pending) = Ok (is_complete pending)
