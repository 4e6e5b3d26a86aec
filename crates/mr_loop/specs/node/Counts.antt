-- What a node's loop counts.
use Rattle.std.specs.Prelude.{ℕ, ◌-◌, List, [], ◌∷◌, length}
use Rattle.mr_text.specs.declared.reply.Reply.{Reply}
use Rattle.mr_text.specs.declared.reply.Reply.TheVariants.{Items, Stored, Deleted, NotFound, Error, ClientError, ServerError}
use Rattle.mr_text.specs.declared.request.Request.{Request}
use Rattle.mr_text.specs.declared.request.Request.TheVariants.{Get, Set, Delete, Quit}
use Rattle.mr_node.specs.Output.{Exchange}
use Rattle.mr_node.specs.Output.Exchange.{Asked, Unknown}
use Rattle.mr_counting.specs.Counting.{one_more, sum_of}
use Rattle.mr_loop.specs.declared.node.counts.ServedCounts.{ServedCounts}

-- nothing was served yet
abbrev pub nothing_served : ServedCounts
nothing_served = record { came = 0; left = 0; hits = 0; misses = 0; stored = 0; deleted = 0; not_found = 0; failed = 0 }

-- for how many keys a request asks
abbrev pub keys_asked : Request → ℕ
keys_asked (Get keys) = length keys
keys_asked (Set key flags exptime block noreply) = 0
keys_asked (Delete key noreply) = 0
keys_asked Quit = 0

-- what was told of a request for so many keys is counted: of a get, each key that was found and each that wasn't
abbrev pub reply_counted : ℕ → Reply → ServedCounts → ServedCounts
reply_counted keys (Items items) counts = record counts {
  hits = sum_of counts.hits (length items);
  misses = sum_of counts.misses (keys - length items);
}
reply_counted keys Stored counts = record counts { stored = one_more counts.stored }
reply_counted keys Deleted counts = record counts { deleted = one_more counts.deleted }
reply_counted keys NotFound counts = record counts { not_found = one_more counts.not_found }
reply_counted keys Error counts = record counts { failed = one_more counts.failed }
reply_counted keys (ClientError cause) counts = record counts { failed = one_more counts.failed }
reply_counted keys (ServerError cause) counts = record counts { failed = one_more counts.failed }

-- an exchange is counted, whether or not its client wanted an answer
abbrev pub exchange_counted : Exchange → ServedCounts → ServedCounts
exchange_counted (Asked request told) counts = reply_counted (keys_asked request) told counts
exchange_counted Unknown counts = counts

-- exchanges are counted, one after the other
abbrev pub all_counted : List Exchange → ServedCounts → ServedCounts
all_counted [] counts = counts
all_counted (exchange ∷ exchanges) counts = all_counted exchanges (exchange_counted exchange counts)
