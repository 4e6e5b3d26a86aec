-- What a running proxy tells of what its loops count, and of its place in the schedule.
use Rattle.std.specs.List.{find}
use Rattle.std.specs.Prelude.{◌≡◌, ℕ, ◌+◌, ◌-◌, ◌*◌, Bool, max, nat_lt, List, [], ◌∷◌, ◌++◌, map, drop, length, Option, Some, None}
use Rattle.mr_metrics.specs.Proxy.{proxy_text}
use Rattle.mr_metrics.specs.declared.counts.AnswerCount.{AnswerCount}
use Rattle.mr_metrics.specs.declared.counts.AnswerKind.{AnswerKind}
use Rattle.mr_metrics.specs.declared.counts.AnswerKind.TheVariants as kind
use Rattle.mr_metrics.specs.declared.counts.Command.{Command}
use Rattle.mr_metrics.specs.declared.counts.Command.TheVariants.{Get, Set, Delete}
use Rattle.mr_metrics.specs.declared.counts.RequestCount.{RequestCount}
use Rattle.mr_metrics.specs.declared.links.LinkCount.{LinkCount}
use Rattle.mr_metrics.specs.declared.proxy.ProxySnapshot.{ProxySnapshot}
use Rattle.mr_metrics.specs.declared.service.ServiceSnapshot.{ServiceSnapshot}
use Rattle.mr_phases.specs.Schedule.{Hop, hop_of, phase_of}
use Rattle.mr_phases.specs.declared.phase_name.PhaseName.{PhaseName}
use Rattle.mr_phases.specs.declared.phase_name.PhaseName.TheVariants.{OldOnly, BothReadOld, BothReadNew, NewOnly}
use Rattle.mr_counting.specs.Counting.{sum_of}
use Rattle.mr_counting.specs.LegTimes.{bound_texts, bucket_said, bucket_rows}
use Rattle.mr_counting.specs.LoopTotals.{TotalsView}
use Rattle.mr_counting.specs.declared.answer_counts.AnswerCounts.{AnswerCounts}
use Rattle.mr_counting.specs.declared.link_totals.LinkTotals.{LinkTotals}
use Rattle.mr_counting.specs.declared.proxy_telling.ProxyIdentity.{ProxyIdentity}
use Rattle.mr_counting.specs.declared.request_counts.PhaseCounts.{PhaseCounts}
use Rattle.mr_counting.specs.declared.request_counts.RequestCounts.{RequestCounts}

-- the row of a command in a phase
abbrev pub request_row : Command → PhaseName → ℕ → RequestCount
request_row command phase count = record { command = command; phase = phase; count = count }

-- a command's rows, a phase each, in their order
abbrev pub phase_rows : Command → PhaseCounts → List RequestCount
phase_rows command counts =
    request_row command OldOnly counts.old_only
    ∷ request_row command BothReadOld counts.both_read_old
    ∷ request_row command BothReadNew counts.both_read_new
    ∷ request_row command NewOnly counts.new_only
    ∷ []

-- the rows of requests, command by command
abbrev pub request_rows : RequestCounts → List RequestCount
request_rows counts = phase_rows Get counts.gets ++ (phase_rows Set counts.sets ++ phase_rows Delete counts.deletes)

-- the row of a kind of answer
abbrev pub answer_row : AnswerKind → ℕ → AnswerCount
answer_row k count = record { kind = k; count = count }

-- the rows of answers, a kind each; what a node answered `busy` is among the other faults
abbrev pub answer_rows : AnswerCounts → List AnswerCount
answer_rows counts =
    answer_row kind.Hit counts.hits
    ∷ answer_row kind.Miss counts.misses
    ∷ answer_row kind.Stored counts.stored
    ∷ answer_row kind.Deleted counts.deleted
    ∷ answer_row kind.NotFound counts.not_found
    ∷ answer_row kind.LegLost counts.leg_lost
    ∷ answer_row kind.OutOfMemory counts.out_of_memory
    ∷ answer_row kind.ClockFault counts.clock_fault
    ∷ answer_row kind.OtherFault (sum_of counts.other_fault counts.busy)
    ∷ []

-- the seconds at which the phases of a hop begin, but its first
abbrev pub bounds_of_hop : Hop → List ℕ
bounds_of_hop h = h.start ∷ (h.start + h.interval) ∷ (h.start + 2 * h.interval) ∷ []

-- the seconds at which the phases of all hops begin, but the first of each
abbrev pub bounds_of : List Hop → List ℕ
bounds_of [] = []
bounds_of (h ∷ hs) = bounds_of_hop h ++ bounds_of hs

-- the second at which the next phase begins after a reading
abbrev pub next_bound : List Hop → ℕ → Option ℕ
next_bound hops t = find (nat_lt t) (bounds_of hops)

-- the reading by which a request would be judged now: the larger of the clock's and that of the last issue
abbrev pub reading_in_force : Option ℕ → Option ℕ → ℕ
reading_in_force None None = 0
reading_in_force None (Some last) = last
reading_in_force (Some now) None = now
reading_in_force (Some now) (Some last) = max now last

-- what is told of a node: its pool and its name, and what is counted of its links
pub record LinkSaid : Type 0 where
  pub pool : ℕ
  pub node : List ℕ
  pub carried : ℕ
  pub lost : ℕ
  pub up : ℕ
  pub breaks : ℕ
  pub dials : ℕ

-- a row as it is told
abbrev pub link_said : LinkCount → LinkSaid
link_said row = record {
  pool = row.pool;
  node = row.node.now;
  carried = row.carried;
  lost = row.lost;
  up = row.up;
  breaks = row.breaks;
  dials = row.dials;
}

-- the row of a node
abbrev pub link_row : ℕ → List ℕ → LinkTotals → LinkSaid
link_row pool name link = record {
  pool = pool;
  node = name;
  carried = link.carried;
  lost = link.lost;
  up = link.up;
  breaks = link.breaks;
  dials = link.dials;
}

-- the rows of a pool's nodes, of which the first are counted
abbrev pub node_rows : ℕ → List (List ℕ) → List LinkTotals → List LinkSaid
node_rows pool [] nodes = []
node_rows pool (name ∷ names) [] = []
node_rows pool (name ∷ names) (node ∷ nodes) = link_row pool name node ∷ node_rows pool names nodes

-- the rows of all nodes, pool by pool, from the pool of this number on
abbrev pub link_rows : ℕ → List (List (List ℕ)) → List LinkTotals → List LinkSaid
link_rows pool [] nodes = []
link_rows pool (names ∷ pools) nodes = node_rows pool names nodes ++ link_rows (pool + 1) pools (drop (length names) nodes)

-- who a proxy is: its version, the digest of its configuration, its schedule, the names of its pools' nodes, how many requests may
-- be under way at once, and how many clients are served
pub record ProxyIs : Type 0 where
  pub version : List ℕ
  pub config : List ℕ
  pub schedule : List Hop
  pub pools : List (List (List ℕ))
  pub room : ℕ
  pub max_clients : ℕ

-- who a proxy of this identity is
abbrev pub who_is : ProxyIdentity → ProxyIs
who_is identity = record {
  version = identity.version.now;
  config = identity.config.now;
  schedule = identity.schedule;
  pools = identity.routing.now.pools;
  room = identity.room;
  max_clients = identity.max_clients;
}

-- what is known of the service of this proxy: its version, and its connections by what the loops count of clients
pub record IsServiceOf (proxy : ProxyIs) (totals : TotalsView) (service : ServiceSnapshot) : Type 0 where
  pub version : service.version.now ≡ proxy.version
  pub connected : service.connected ≡ totals.clients.came - totals.clients.left
  pub accepted : service.accepted ≡ totals.clients.came

-- the snapshot tells what is known of the service, who the proxy is, what its loops count, and its place in its schedule
pub record IsSnapshotOf (proxy : ProxyIs) (known : ServiceSnapshot) (totals : TotalsView) (wait : Bool) (snapshot : ProxySnapshot) : Type 0 where
  pub service : snapshot.service ≡ known
  pub config : snapshot.config.now ≡ proxy.config
  pub requests : snapshot.requests.now ≡ request_rows totals.counts.requests
  pub answers : snapshot.answers.now ≡ answer_rows totals.counts.answers
  pub held_back : snapshot.held_back ≡ totals.clients.held_back
  pub links : map link_said snapshot.links.now ≡ link_rows 0 proxy.pools totals.nodes
  pub buckets : map bucket_said snapshot.leg_times.buckets.now ≡ bucket_rows 0 bound_texts totals.times.counts
  pub micros : snapshot.leg_times.micros ≡ totals.times.micros
  pub under_way : snapshot.under_way ≡ totals.counts.under_way
  pub room : snapshot.room ≡ proxy.room
  pub last_issue : snapshot.last_issue ≡ totals.counts.last_issue
  pub hop : snapshot.hop ≡ hop_of proxy.schedule (reading_in_force known.clock totals.counts.last_issue)
  pub phase : snapshot.phase ≡ phase_of proxy.schedule (reading_in_force known.clock totals.counts.last_issue)
  pub next_phase : snapshot.next_phase ≡ next_bound proxy.schedule (reading_in_force known.clock totals.counts.last_issue)
  pub loops : snapshot.loops ≡ totals.loops
  pub max_clients : snapshot.max_clients ≡ proxy.max_clients
  pub clients_wait : snapshot.clients_wait ≡ wait

-- the text tells what the loops of this proxy count, and whether clients wait
abbrev pub TellsTotals : ProxyIs → ServiceSnapshot → TotalsView → Bool → List ℕ → Type 0
TellsTotals proxy service totals wait text =
    (snapshot : ProxySnapshot) × IsSnapshotOf proxy service totals wait snapshot × (text ≡ proxy_text snapshot)

-- some counts of a proxy's loops, and what is known of its service then
pub record TellsProxy (proxy : ProxyIs) (text : List ℕ) : Type 0 where
  pub totals : TotalsView
  pub service : ServiceSnapshot
  pub wait : Bool
  pub is_service : IsServiceOf proxy totals service
  pub tells : TellsTotals proxy service totals wait text
