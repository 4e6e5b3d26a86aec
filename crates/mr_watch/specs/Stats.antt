-- What a memcached says of itself.
use Rattle.std.specs.Prelude.{ℕ, nat_eq, List, Option, Some, None, option_and_then, if◌then◌else◌, codes}
use Rattle.std.specs.List.{ends_with}
use Rattle.mr_lines.specs.Lines.{without_carriage_return}
use Rattle.mr_watch.specs.Lines.{value_of, whole_number}
use Rattle.mr_watch.specs.declared.stats.StatsTold.{StatsTold}

-- the number behind a head, in a line that ends in a carriage return
abbrev pub stat_of : List ℕ → List ℕ → Option ℕ
stat_of head bytes = option_and_then (λ (word : List ℕ). whole_number (without_carriage_return word)) (value_of head bytes)

-- how many items a memcached says that it holds (from: protocol.txt, "General-purpose statistics")
abbrev pub items_in : List ℕ → Option ℕ
items_in bytes = stat_of (codes "STAT curr_items ") bytes

-- how many hits a memcached says that it had (from: protocol.txt, "General-purpose statistics")
abbrev pub hits_in : List ℕ → Option ℕ
hits_in bytes = stat_of (codes "STAT get_hits ") bytes

-- both counts, where both are told
abbrev pub stats_of : Option ℕ → Option ℕ → Option StatsTold
stats_of None hits = None
stats_of (Some items) None = None
stats_of (Some items) (Some hits) = Some (record { items = items; hits = hits })

-- what an answer that has ended says (from: protocol.txt, "General-purpose statistics")
abbrev pub stats_in : List ℕ → Option StatsTold
stats_in bytes = if ends_with nat_eq bytes (codes "END\r\n") then stats_of (items_in bytes) (hits_in bytes) else None
