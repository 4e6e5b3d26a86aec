-- What the loops of a proxy count together.
use Rattle.std.specs.Prelude.{ℕ, zero, suc, List, [], ◌∷◌, length, replicate, sum_by, None}
use Rattle.mr_pools.specs.Routing.{RoutingView}
use Rattle.mr_counting.specs.ClientCounts.{no_clients}
use Rattle.mr_counting.specs.Counting.{one_more}
use Rattle.mr_counting.specs.LegTimes.{no_times}
use Rattle.mr_counting.specs.Sums.{counts_sum, clients_sum, link_sum, times_sum}
use Rattle.mr_counting.specs.declared.answer_counts.AnswerCounts.{AnswerCounts}
use Rattle.mr_counting.specs.declared.client_counts.ClientCounts.{ClientCounts}
use Rattle.mr_counting.specs.declared.leg_times.LegTimes.{LegTimes}
use Rattle.mr_counting.specs.declared.link_totals.LinkTotals.{LinkTotals}
use Rattle.mr_counting.specs.declared.proxy_counts.ProxyCounts.{ProxyCounts}
use Rattle.mr_counting.specs.declared.request_counts.PhaseCounts.{PhaseCounts}
use Rattle.mr_counting.specs.declared.request_counts.RequestCounts.{RequestCounts}

-- what loops count, as contracts see it
pub record TotalsView : Type 0 where
  -- how many loops
  pub loops : ℕ
  pub counts : ProxyCounts
  pub clients : ClientCounts
  -- by the numbers of the nodes, which are counted pool by pool
  pub nodes : List LinkTotals
  pub times : LegTimes

-- no request of a command
abbrev pub no_phases : PhaseCounts
no_phases = record { old_only = 0; both_read_old = 0; both_read_new = 0; new_only = 0 }

-- no request
abbrev pub no_requests : RequestCounts
no_requests = record { gets = no_phases; sets = no_phases; deletes = no_phases }

-- no answer
abbrev pub no_answers : AnswerCounts
no_answers = record {
  hits = 0;
  misses = 0;
  stored = 0;
  deleted = 0;
  not_found = 0;
  leg_lost = 0;
  busy = 0;
  out_of_memory = 0;
  clock_fault = 0;
  other_fault = 0;
}

-- no request was asked
abbrev pub no_counts : ProxyCounts
no_counts = record { requests = no_requests; answers = no_answers; under_way = 0; last_issue = None }

-- no link to a node
abbrev pub no_link : LinkTotals
no_link = record { up = 0; carried = 0; lost = 0; breaks = 0; dials = 0 }

-- how many nodes the pools of a routing have
abbrev pub nodes_in : RoutingView → ℕ
nodes_in routing = sum_by length routing.pools

-- no loop, before so many nodes
abbrev pub no_totals : ℕ → TotalsView
no_totals nodes = record { loops = 0; counts = no_counts; clients = no_clients; nodes = replicate nodes no_link; times = no_times }

-- a link is added to what is counted of the node of this number, where there is one
abbrev pub nodes_with : ℕ → LinkTotals → List LinkTotals → List LinkTotals
nodes_with number link [] = []
nodes_with zero link (node ∷ nodes) = link_sum node link ∷ nodes
nodes_with (suc number) link (node ∷ nodes) = node ∷ nodes_with number link nodes

-- one loop more, by what it counts of requests and of clients
abbrev pub with_loop : ProxyCounts → ClientCounts → TotalsView → TotalsView
with_loop counts clients totals = record totals {
  loops = one_more totals.loops;
  counts = counts_sum totals.counts counts;
  clients = clients_sum totals.clients clients;
}

-- one link more, to the node of this number
abbrev pub with_link : ℕ → LinkTotals → LegTimes → TotalsView → TotalsView
with_link number link times totals = record totals {
  nodes = nodes_with number link totals.nodes;
  times = times_sum totals.times times;
}
