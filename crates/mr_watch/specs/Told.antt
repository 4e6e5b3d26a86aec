-- What the texts of services tell.
use Rattle.std.specs.Prelude.{ℕ, ◌==◌, Bool, false, List, Option, Some, None, option_map, if◌then◌else◌, codes}
use Rattle.mr_phases.specs.declared.phase_name.PhaseName.{PhaseName}
use Rattle.mr_phases.specs.declared.phase_name.PhaseName.TheVariants.{OldOnly, BothReadOld, BothReadNew, NewOnly}
use Rattle.mr_watch.specs.Lines.{number_of, perhaps_number_of, label_of, sum_of}
use Rattle.mr_watch.specs.declared.told.NodeTold.{NodeTold}
use Rattle.mr_watch.specs.declared.told.Place.{Place}
use Rattle.mr_watch.specs.declared.told.ProxyTold.{ProxyTold}
use Rattle.mr_watch.specs.declared.told.Told.{Told}
use Rattle.mr_watch.specs.declared.told.Told.TheVariants.{Proxy, Node}
use Rattle.mr_watch.specs.declared.told.Traffic.{Traffic}

-- the number is 1
abbrev pub is_one : Option ℕ → Bool
is_one None = false
is_one (Some number) = number == 1

-- the head of a phase's sample
abbrev pub phase_head : PhaseName → List ℕ
phase_head OldOnly = codes "migctl_proxy_phase{phase=\"old-only\"} "
phase_head BothReadOld = codes "migctl_proxy_phase{phase=\"both-read-old\"} "
phase_head BothReadNew = codes "migctl_proxy_phase{phase=\"both-read-new\"} "
phase_head NewOnly = codes "migctl_proxy_phase{phase=\"new-only\"} "

-- the phase is told to be the one in force
abbrev pub tells_phase : List ℕ → PhaseName → Bool
tells_phase bytes phase = is_one (number_of (phase_head phase) bytes)

-- the phase in force: the first of the four that is told to be
abbrev pub phase_in : List ℕ → Option PhaseName
phase_in bytes =
    if tells_phase bytes OldOnly then Some OldOnly else
    if tells_phase bytes BothReadOld then Some BothReadOld else
    if tells_phase bytes BothReadNew then Some BothReadNew else
    if tells_phase bytes NewOnly then Some NewOnly else
    None

-- the hop in force
abbrev pub hop_in : List ℕ → Option ℕ
hop_in bytes = number_of (codes "migctl_proxy_hop ") bytes

-- in how many seconds the next phase begins, or that none does
abbrev pub next_phase_in : List ℕ → Option (Option ℕ)
next_phase_in bytes = perhaps_number_of (codes "migctl_proxy_next_phase_seconds ") bytes

-- where a proxy stands in the schedule
abbrev pub place_of : Option ℕ → Option PhaseName → Option (Option ℕ) → Option Place
place_of None phase next_phase = None
place_of (Some hop) None next_phase = None
place_of (Some hop) (Some phase) None = None
place_of (Some hop) (Some phase) (Some next_phase) = Some (record { hop = hop; phase = phase; next_phase = next_phase })

-- where a proxy says that it stands in the schedule
abbrev pub place_in : List ℕ → Option Place
place_in bytes = place_of (hop_in bytes) (phase_in bytes) (next_phase_in bytes)

-- how many requests it had, over all commands and phases
abbrev pub requests_in : List ℕ → Option ℕ
requests_in bytes = sum_of (codes "migctl_proxy_requests_total{") bytes

-- how many keys of gets it found
abbrev pub hits_in : List ℕ → Option ℕ
hits_in bytes = number_of (codes "migctl_proxy_answers_total{kind=\"hit\"} ") bytes

-- how many answers it gave of a lost leg
abbrev pub lost_in : List ℕ → Option ℕ
lost_in bytes = number_of (codes "migctl_proxy_answers_total{kind=\"leg lost\"} ") bytes

-- how often it held a request back, or that it doesn't tell
abbrev pub held_back_in : List ℕ → Option (Option ℕ)
held_back_in bytes = perhaps_number_of (codes "migctl_proxy_requests_held_back_total ") bytes

-- what it did
abbrev pub traffic_of : Option ℕ → Option ℕ → Option ℕ → Option (Option ℕ) → Option Traffic
traffic_of None hits lost held_back = None
traffic_of (Some requests) None lost held_back = None
traffic_of (Some requests) (Some hits) None held_back = None
traffic_of (Some requests) (Some hits) (Some lost) None = None
traffic_of (Some requests) (Some hits) (Some lost) (Some held_back) =
    Some (record { requests = requests; hits = hits; lost = lost; held_back = held_back })

-- what it says that it did
abbrev pub traffic_in : List ℕ → Option Traffic
traffic_in bytes = traffic_of (requests_in bytes) (hits_in bytes) (lost_in bytes) (held_back_in bytes)

-- the digest of its configuration
abbrev pub digest_in : List ℕ → Option (List ℕ)
digest_in bytes = label_of (codes "migctl_proxy_config_info{sha256=\"") bytes

-- what its clock says, or that it doesn't tell
abbrev pub clock_in : List ℕ → Option (Option ℕ)
clock_in bytes = perhaps_number_of (codes "migctl_clock_seconds ") bytes

-- how often its clock went back
abbrev pub steps_back_in : List ℕ → Option ℕ
steps_back_in bytes = number_of (codes "migctl_clock_steps_back_total ") bytes

-- what a proxy told, its digest by its bytes
pub record ProxySaid : Type 0 where
  pub digest : List ℕ
  pub clock : Option ℕ
  pub steps_back : ℕ
  pub place : Place
  pub traffic : Traffic

-- what a proxy told, as contracts see it
abbrev pub proxy_said : ProxyTold → ProxySaid
proxy_said told = record { digest = told.digest.now; clock = told.clock; steps_back = told.steps_back; place = told.place; traffic = told.traffic }

-- what a proxy said, where it told each of these
abbrev pub proxy_of : List ℕ → Option (Option ℕ) → Option ℕ → Option Place → Option Traffic → Option ProxySaid
proxy_of digest None steps_back place traffic = None
proxy_of digest (Some clock) None place traffic = None
proxy_of digest (Some clock) (Some steps_back) None traffic = None
proxy_of digest (Some clock) (Some steps_back) (Some place) None = None
proxy_of digest (Some clock) (Some steps_back) (Some place) (Some traffic) =
    Some (record { digest = digest; clock = clock; steps_back = steps_back; place = place; traffic = traffic })

-- what the text of a proxy of this digest tells
abbrev pub proxy_in : List ℕ → List ℕ → Option ProxySaid
proxy_in digest bytes = proxy_of digest (clock_in bytes) (steps_back_in bytes) (place_in bytes) (traffic_in bytes)

-- the address of a node
abbrev pub address_in : List ℕ → Option (List ℕ)
address_in bytes = label_of (codes "migctl_node_info{address=\"") bytes

-- how many items a node holds
abbrev pub node_items_in : List ℕ → Option ℕ
node_items_in bytes = number_of (codes "migctl_node_items ") bytes

-- how many hits it had
abbrev pub node_hits_in : List ℕ → Option ℕ
node_hits_in bytes = number_of (codes "migctl_node_gets_total{result=\"hit\"} ") bytes

-- what a node told, its address by its bytes
pub record NodeSaid : Type 0 where
  pub address : List ℕ
  pub items : ℕ
  pub hits : ℕ

-- what a node told, as contracts see it
abbrev pub node_said : NodeTold → NodeSaid
node_said told = record { address = told.address.now; items = told.items; hits = told.hits }

-- what a node said, where it told each of these
abbrev pub node_of : List ℕ → Option ℕ → Option ℕ → Option NodeSaid
node_of address None hits = None
node_of address (Some items) None = None
node_of address (Some items) (Some hits) = Some (record { address = address; items = items; hits = hits })

-- what the text of a node of this address tells
abbrev pub node_in : List ℕ → List ℕ → Option NodeSaid
node_in address bytes = node_of address (node_items_in bytes) (node_hits_in bytes)

-- what a service told
pub data Said : Type 0 where
  ByProxy : ProxySaid → Said
  ByNode : NodeSaid → Said

-- what a service told, as contracts see it
abbrev pub said : Told → Said
said (Proxy told) = ByProxy (proxy_said told)
said (Node told) = ByNode (node_said told)

-- what a text tells that isn't a proxy's: it is a node's where it has an address
abbrev pub said_without_digest : Option (List ℕ) → List ℕ → Option Said
said_without_digest None bytes = None
said_without_digest (Some address) bytes = option_map ByNode (node_in address bytes)

-- it is a proxy's where it has a digest
abbrev pub said_with : Option (List ℕ) → List ℕ → Option Said
said_with None bytes = said_without_digest (address_in bytes) bytes
said_with (Some digest) bytes = option_map ByProxy (proxy_in digest bytes)

-- what the text of a service tells (from: docs/METRICS.md)
abbrev pub said_in : List ℕ → Option Said
said_in bytes = said_with (digest_in bytes) bytes
