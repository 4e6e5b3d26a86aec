-- What a node on loops tells of what its loops count together, and of its cache.
use Rattle.std.specs.Borrow.{Bor}
use Rattle.std.specs.Prelude.{◌≡◌, ℕ, ◌-◌, List, [], ◌∷◌, length}
use Rattle.mr_counting.specs.Counting.{sum_of}
use Rattle.mr_driver.specs.declared.shared_cache.CacheLook.{CacheLook}
use Rattle.mr_loop.specs.declared.node.counts.ServedCounts.{ServedCounts}
use Rattle.mr_loop.specs.node.Counts.{nothing_served}
use Rattle.mr_metrics.specs.Node.{node_text}
use Rattle.mr_metrics.specs.declared.node.NodeSnapshot.{NodeSnapshot}
use Rattle.mr_metrics.specs.declared.service.ServiceSnapshot.{ServiceSnapshot}

-- what two loops count together, as far as 64 bits go
abbrev pub served_sum : ServedCounts → ServedCounts → ServedCounts
served_sum counts more = record {
  came = sum_of counts.came more.came;
  left = sum_of counts.left more.left;
  hits = sum_of counts.hits more.hits;
  misses = sum_of counts.misses more.misses;
  stored = sum_of counts.stored more.stored;
  deleted = sum_of counts.deleted more.deleted;
  not_found = sum_of counts.not_found more.not_found;
  failed = sum_of counts.failed more.failed;
}

-- what loops count is added in order
abbrev pub with_served : List ServedCounts → ServedCounts → ServedCounts
with_served [] served = served
with_served (report ∷ reports) served = with_served reports (served_sum served report)

-- who a node is: its version, and where its clients connect
pub record NodeIs : Type 0 where
  pub version : List ℕ
  pub address : List ℕ

-- who a node of this version at this address is
abbrev pub node_is : Bor (List ℕ) → Bor (List ℕ) → NodeIs
node_is version address = record { version = version.now; address = address.now }

-- what is known of its service: its version, and its connections by what its loops count of clients
pub record IsNodeService (node : NodeIs) (served : ServedCounts) (service : ServiceSnapshot) : Type 0 where
  pub version : service.version.now ≡ node.version
  pub connected : service.connected ≡ served.came - served.left
  pub accepted : service.accepted ≡ served.came

-- the snapshot tells where clients connect, how many loops answered, what they count together, and how the cache looks
pub record IsNodeSnapshotOf (address : List ℕ) (loops : ℕ) (served : ServedCounts) (look : CacheLook) (snapshot : NodeSnapshot) : Type 0 where
  pub address_is : snapshot.address.now ≡ address
  pub items : snapshot.items ≡ look.items
  pub capacity : snapshot.capacity ≡ look.capacity
  pub hits : snapshot.hits ≡ served.hits
  pub misses : snapshot.misses ≡ served.misses
  pub stored : snapshot.stored ≡ served.stored
  pub deleted : snapshot.deleted ≡ served.deleted
  pub not_found : snapshot.not_found ≡ served.not_found
  pub evicted : snapshot.evicted ≡ look.evicted
  pub loops_are : snapshot.loops ≡ loops

-- the text tells what these loops count together, and how the cache looks
pub record TellsServed (node : NodeIs) (reports : List ServedCounts) (look : CacheLook) (text : List ℕ) : Type 0 where
  pub snapshot : NodeSnapshot
  pub service : IsNodeService node (with_served reports nothing_served) snapshot.service
  pub rest : IsNodeSnapshotOf node.address (length reports) (with_served reports nothing_served) look snapshot
  pub spelled : text ≡ node_text snapshot

-- the text tells what some loops of this node count together, and how its cache looks then
abbrev pub TellsNode : NodeIs → List ℕ → Type 0
TellsNode node text = (reports : List ServedCounts) × (look : CacheLook) × TellsServed node reports look text
