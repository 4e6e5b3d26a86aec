-- What several proxies count together: the sums of their counts, as far as 64 bits go.
use Rattle.std.specs.Prelude.{ℕ, List, [], ◌∷◌, Option, Some, None}
use Rattle.mr_counting.specs.Counting.{sum_of}
use Rattle.mr_counting.specs.ProxyCounts.{later_of}
use Rattle.mr_counting.specs.declared.answer_counts.AnswerCounts.{AnswerCounts}
use Rattle.mr_counting.specs.declared.client_counts.ClientCounts.{ClientCounts}
use Rattle.mr_counting.specs.declared.leg_times.LegTimes.{LegTimes}
use Rattle.mr_counting.specs.declared.link_totals.LinkTotals.{LinkTotals}
use Rattle.mr_counting.specs.declared.proxy_counts.ProxyCounts.{ProxyCounts}
use Rattle.mr_counting.specs.declared.request_counts.PhaseCounts.{PhaseCounts}
use Rattle.mr_counting.specs.declared.request_counts.RequestCounts.{RequestCounts}

-- of each phase
abbrev pub phases_sum : PhaseCounts → PhaseCounts → PhaseCounts
phases_sum counts more = record {
  old_only = sum_of counts.old_only more.old_only;
  both_read_old = sum_of counts.both_read_old more.both_read_old;
  both_read_new = sum_of counts.both_read_new more.both_read_new;
  new_only = sum_of counts.new_only more.new_only;
}

-- of each command
abbrev pub requests_sum : RequestCounts → RequestCounts → RequestCounts
requests_sum counts more = record {
  gets = phases_sum counts.gets more.gets;
  sets = phases_sum counts.sets more.sets;
  deletes = phases_sum counts.deletes more.deletes;
}

-- of each kind of answer
abbrev pub answers_sum : AnswerCounts → AnswerCounts → AnswerCounts
answers_sum counts more = record {
  hits = sum_of counts.hits more.hits;
  misses = sum_of counts.misses more.misses;
  stored = sum_of counts.stored more.stored;
  deleted = sum_of counts.deleted more.deleted;
  not_found = sum_of counts.not_found more.not_found;
  leg_lost = sum_of counts.leg_lost more.leg_lost;
  busy = sum_of counts.busy more.busy;
  out_of_memory = sum_of counts.out_of_memory more.out_of_memory;
  clock_fault = sum_of counts.clock_fault more.clock_fault;
  other_fault = sum_of counts.other_fault more.other_fault;
}

-- the later of two readings, either of which there may not be
abbrev pub latest_of : Option ℕ → Option ℕ → Option ℕ
latest_of last None = last
latest_of last (Some reading) = later_of last reading

-- of two proxies: their counts together, and the later of their last issues
abbrev pub counts_sum : ProxyCounts → ProxyCounts → ProxyCounts
counts_sum counts more = record {
  requests = requests_sum counts.requests more.requests;
  answers = answers_sum counts.answers more.answers;
  under_way = sum_of counts.under_way more.under_way;
  last_issue = latest_of counts.last_issue more.last_issue;
}

-- of their clients
abbrev pub clients_sum : ClientCounts → ClientCounts → ClientCounts
clients_sum clients more = record {
  came = sum_of clients.came more.came;
  left = sum_of clients.left more.left;
  held_back = sum_of clients.held_back more.held_back;
}

-- of links to one node
abbrev pub link_sum : LinkTotals → LinkTotals → LinkTotals
link_sum link more = record {
  up = sum_of link.up more.up;
  carried = sum_of link.carried more.carried;
  lost = sum_of link.lost more.lost;
  breaks = sum_of link.breaks more.breaks;
  dials = sum_of link.dials more.dials;
}

-- place by place, of two lists of as many counts
abbrev pub sums_of : List ℕ → List ℕ → List ℕ
sums_of [] more = []
sums_of (count ∷ counts) [] = count ∷ sums_of counts []
sums_of (count ∷ counts) (other ∷ more) = sum_of count other ∷ sums_of counts more

-- of how long legs took
abbrev pub times_sum : LegTimes → LegTimes → LegTimes
times_sum times more = record { counts = sums_of times.counts more.counts; micros = sum_of times.micros more.micros }
