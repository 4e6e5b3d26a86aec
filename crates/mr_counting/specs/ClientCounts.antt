-- What a loop counts of its clients.
use Rattle.std.specs.Prelude.{Bool, if◌then◌else◌}
use Rattle.mr_counting.specs.Counting.{one_more}
use Rattle.mr_counting.specs.declared.client_counts.ClientCounts.{ClientCounts}

-- no client came yet
abbrev pub no_clients : ClientCounts
no_clients = record { came = 0; left = 0; held_back = 0 }

-- what stands first of a client is held back: it counts once, however often it is tried
abbrev pub held_once : Bool → ClientCounts → ClientCounts
held_once waits counts = if waits then counts else record counts { held_back = one_more counts.held_back }
