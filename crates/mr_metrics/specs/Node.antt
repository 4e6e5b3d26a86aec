-- What a node tells of itself.
use Rattle.std.specs.Prelude.{ℕ, List, ◌++◌, codes}
use Rattle.mr_metrics.specs.Families.{one_number, info, two_counts}
use Rattle.mr_metrics.specs.Service.{service_text}
use Rattle.mr_metrics.specs.declared.exposition.Kind.TheVariants.{Counter, Gauge}
use Rattle.mr_metrics.specs.declared.node.NodeSnapshot.{NodeSnapshot}

-- where clients connect
abbrev pub address_family : List ℕ → List ℕ
address_family address = info (codes "migctl_node_info") (codes "Where clients of the node connect.") (codes "address") address

-- how many items it holds
abbrev pub items_family : ℕ → List ℕ
items_family items = one_number (codes "migctl_node_items") (codes "Items that the node holds.") Gauge items

-- how many items it holds at most
abbrev pub capacity_family : ℕ → List ℕ
capacity_family capacity = one_number (codes "migctl_node_capacity_items") (codes "Items that the node holds at most.") Gauge capacity

-- how many keys were asked for, by whether they were found
abbrev pub gets_family : ℕ → ℕ → List ℕ
gets_family hits misses =
    two_counts (codes "migctl_node_gets_total") (codes "Keys that were asked for.") (codes "result") (codes "hit") hits (codes "miss") misses

-- how many values were stored
abbrev pub sets_family : ℕ → List ℕ
sets_family stored = one_number (codes "migctl_node_sets_total") (codes "Values that were stored.") Counter stored

-- how many keys were to be deleted, by whether they were found
abbrev pub deletes_family : ℕ → ℕ → List ℕ
deletes_family deleted not_found =
    two_counts (codes "migctl_node_deletes_total") (codes "Keys that were to be deleted.") (codes "result")
    (codes "deleted") deleted (codes "not found") not_found

-- how many items went for others
abbrev pub evictions_family : ℕ → List ℕ
evictions_family evicted =
    one_number (codes "migctl_node_evictions_total") (codes "Items that went since a new one took their room.") Counter evicted

-- how many loops serve its clients
abbrev pub node_loops_family : ℕ → List ℕ
node_loops_family loops = one_number (codes "migctl_node_loops") (codes "Loops that serve clients.") Gauge loops

-- what it performed
abbrev pub performed_text : NodeSnapshot → List ℕ
performed_text snapshot =
    gets_family snapshot.hits snapshot.misses
    ++ (sets_family snapshot.stored
    ++ (deletes_family snapshot.deleted snapshot.not_found
    ++ evictions_family snapshot.evicted))

-- a node
abbrev pub node_text : NodeSnapshot → List ℕ
node_text snapshot =
    service_text snapshot.service
    ++ (address_family snapshot.address.now
    ++ (items_family snapshot.items
    ++ (capacity_family snapshot.capacity
    ++ (performed_text snapshot
    ++ node_loops_family snapshot.loops))))
