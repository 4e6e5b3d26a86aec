-- What a proxy tells of itself.
use Rattle.std.specs.Prelude.{ℕ, Bool, List, ◌++◌, Option, codes, if◌then◌else◌}
use Rattle.mr_phases.specs.PhaseText.{phase_text}
use Rattle.mr_phases.specs.declared.phase_name.PhaseName.{PhaseName}
use Rattle.mr_phases.specs.declared.phase_name.PhaseName.TheVariants.{OldOnly, BothReadOld, BothReadNew, NewOnly}
use Rattle.mr_metrics.specs.Counts.{requests_family, answers_family}
use Rattle.mr_metrics.specs.Exposition.{family_head, labelled_sample}
use Rattle.mr_metrics.specs.Families.{one_number, perhaps_number, info}
use Rattle.mr_metrics.specs.Links.{legs_family, links_text}
use Rattle.mr_metrics.specs.Service.{service_text}
use Rattle.mr_metrics.specs.Times.{histogram}
use Rattle.mr_metrics.specs.declared.exposition.Kind.TheVariants.{Counter, Gauge}
use Rattle.mr_metrics.specs.declared.number.Number.TheVariants.{Whole}
use Rattle.mr_metrics.specs.declared.proxy.ProxySnapshot.{ProxySnapshot}
use Rattle.mr_metrics.specs.declared.times.Times.{Times}

-- what its configuration is
abbrev pub config_family : List ℕ → List ℕ
config_family config =
    info (codes "migctl_proxy_config_info") (codes "The SHA-256 of the configuration as transcripts write it.") (codes "sha256") config

-- how often requests were held back
abbrev pub held_back_family : ℕ → List ℕ
held_back_family held_back =
    one_number (codes "migctl_proxy_requests_held_back_total") (codes "Requests that were held back until there was room for them.") Counter held_back

-- how many requests are under way
abbrev pub under_way_family : ℕ → List ℕ
under_way_family under_way =
    one_number (codes "migctl_proxy_requests_under_way") (codes "Requests that are under way.") Gauge under_way

-- how many may be
abbrev pub room_family : ℕ → List ℕ
room_family room =
    one_number (codes "migctl_proxy_room_requests") (codes "Requests that may be under way at once.") Gauge room

-- at which reading it issued the last request
abbrev pub last_issue_family : Option ℕ → List ℕ
last_issue_family last_issue =
    perhaps_number (codes "migctl_proxy_last_issue_seconds") (codes "The latest reading by which an answered request was judged, in seconds since the epoch.") last_issue

-- which migration is in force
abbrev pub hop_family : ℕ → List ℕ
hop_family hop =
    one_number (codes "migctl_proxy_hop") (codes "The migration in force, counted from 0.") Gauge hop

-- when the next phase begins
abbrev pub next_phase_family : Option ℕ → List ℕ
next_phase_family next_phase =
    perhaps_number (codes "migctl_proxy_next_phase_seconds") (codes "When the next phase begins, in seconds since the epoch.") next_phase

-- how long legs took that came back
abbrev pub leg_times_family : Times → List ℕ
leg_times_family times = histogram (codes "migctl_proxy_leg_seconds") (codes "How long legs took, carried and lost ones, in seconds.") times

-- 1 where this phase is the one in force
abbrev pub state_of : PhaseName → PhaseName → ℕ
state_of OldOnly OldOnly = 1
state_of BothReadOld BothReadOld = 1
state_of BothReadNew BothReadNew = 1
state_of NewOnly NewOnly = 1
state_of in_force phase = 0

-- the sample of a phase: whether it is the one in force
abbrev pub phase_state : List ℕ → PhaseName → PhaseName → List ℕ
phase_state name in_force phase = labelled_sample name (codes "phase") (phase_text phase) (Whole (state_of in_force phase))

-- each phase, in the order in which they follow one another
abbrev pub phase_states : List ℕ → PhaseName → List ℕ
phase_states name in_force =
    phase_state name in_force OldOnly
    ++ (phase_state name in_force BothReadOld
    ++ (phase_state name in_force BothReadNew
    ++ phase_state name in_force NewOnly))

-- which phase is in force
abbrev pub phase_family : PhaseName → List ℕ
phase_family in_force =
    family_head (codes "migctl_proxy_phase") (codes "1 for the phase in force, 0 for each other.") Gauge
    ++ phase_states (codes "migctl_proxy_phase") in_force

-- how many loops carry its requests
abbrev pub loops_family : ℕ → List ℕ
loops_family loops =
    one_number (codes "migctl_proxy_loops") (codes "Loops that carry requests, each of which is a proxy of the fleet.") Gauge loops

-- how many clients are served at once at most
abbrev pub max_clients_family : ℕ → List ℕ
max_clients_family max_clients =
    one_number (codes "migctl_proxy_max_clients") (codes "Clients that may be served at once.") Gauge max_clients

-- 1 for what is so, 0 for what isn't
abbrev pub flag_number : Bool → ℕ
flag_number flag = if flag then 1 else 0

-- whether clients aren't accepted, since as many are served as may be
abbrev pub clients_wait_family : Bool → List ℕ
clients_wait_family wait =
    one_number (codes "migctl_proxy_clients_wait") (codes "1 while clients aren't accepted since as many are served as may be, else 0.") Gauge
    (flag_number wait)

-- its requests: what came of them, and which were held back
abbrev pub asked_text : ProxySnapshot → List ℕ
asked_text snapshot =
    requests_family snapshot.requests.now ++ (answers_family snapshot.answers.now ++ held_back_family snapshot.held_back)

-- their legs, and how many requests are under way
abbrev pub carried_text : ProxySnapshot → List ℕ
carried_text snapshot =
    legs_family snapshot.links.now
    ++ (leg_times_family snapshot.leg_times
    ++ (under_way_family snapshot.under_way
    ++ room_family snapshot.room))

-- its requests and their legs
abbrev pub traffic_text : ProxySnapshot → List ℕ
traffic_text snapshot = asked_text snapshot ++ carried_text snapshot

-- its place in the schedule
abbrev pub schedule_text : ProxySnapshot → List ℕ
schedule_text snapshot =
    config_family snapshot.config.now
    ++ (last_issue_family snapshot.last_issue
    ++ (hop_family snapshot.hop
    ++ (phase_family snapshot.phase
    ++ next_phase_family snapshot.next_phase)))

-- its loops, their clients and their links
abbrev pub loops_text : ProxySnapshot → List ℕ
loops_text snapshot =
    loops_family snapshot.loops
    ++ (max_clients_family snapshot.max_clients
    ++ (clients_wait_family snapshot.clients_wait
    ++ links_text snapshot.links.now))

-- a proxy
abbrev pub proxy_text : ProxySnapshot → List ℕ
proxy_text snapshot =
    service_text snapshot.service ++ (schedule_text snapshot ++ (traffic_text snapshot ++ loops_text snapshot))
