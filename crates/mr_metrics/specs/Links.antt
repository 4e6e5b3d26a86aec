-- What a proxy counts of its nodes: of legs to them, and of its connections to them.
use Rattle.std.specs.Prelude.{ℕ, List, [], ◌∷◌, ◌++◌, codes, decimal}
use Rattle.mr_metrics.specs.Exposition.{family_head, shown_pair, shown_number}
use Rattle.mr_metrics.specs.declared.exposition.Kind.{Kind}
use Rattle.mr_metrics.specs.declared.exposition.Kind.TheVariants.{Counter, Gauge}
use Rattle.mr_metrics.specs.declared.links.LinkCount.{LinkCount}
use Rattle.mr_metrics.specs.declared.links.LinkFact.{LinkFact}
use Rattle.mr_metrics.specs.declared.links.LinkFact.TheVariants.{Up, Breaks, Dials}
use Rattle.mr_metrics.specs.declared.number.Number.TheVariants.{Whole}

-- how many legs to a node had an outcome
abbrev pub leg_sample : List ℕ → LinkCount → List ℕ → ℕ → List ℕ
leg_sample name row outcome count =
    name ++ (codes "{" ++ (shown_pair (codes "pool") (decimal row.pool) ++ (codes "," ++
    (shown_pair (codes "node") row.node.now ++ (codes "," ++
    (shown_pair (codes "outcome") outcome ++ (codes "} " ++ (shown_number (Whole count) ++ codes "\n"))))))))

-- the samples of legs, node by node: how many were carried, and how many were lost
abbrev pub leg_samples : List ℕ → List LinkCount → List ℕ
leg_samples name [] = []
leg_samples name (row ∷ rows) =
    leg_sample name row (codes "carried") row.carried ++ (leg_sample name row (codes "lost") row.lost ++ leg_samples name rows)

-- what became of legs, by node
abbrev pub legs_family : List LinkCount → List ℕ
legs_family rows =
    family_head (codes "migctl_proxy_legs_total") (codes "Legs of requests, by pool, by node and by what became of them.") Counter
    ++ leg_samples (codes "migctl_proxy_legs_total") rows

-- what is told of a node
abbrev pub fact_of : LinkFact → LinkCount → ℕ
fact_of Up row = row.up
fact_of Breaks row = row.breaks
fact_of Dials row = row.dials

-- a number of a node
abbrev pub link_sample : List ℕ → LinkFact → LinkCount → List ℕ
link_sample name fact row =
    name ++ (codes "{" ++ (shown_pair (codes "pool") (decimal row.pool) ++ (codes "," ++
    (shown_pair (codes "node") row.node.now ++ (codes "} " ++ (shown_number (Whole (fact_of fact row)) ++ codes "\n"))))))

-- the same number of each node, in order
abbrev pub link_samples : List ℕ → LinkFact → List LinkCount → List ℕ
link_samples name fact [] = []
link_samples name fact (row ∷ rows) = link_sample name fact row ++ link_samples name fact rows

-- a family of one number for each node
abbrev pub link_family : List ℕ → List ℕ → Kind → LinkFact → List LinkCount → List ℕ
link_family name help kind fact rows = family_head name help kind ++ link_samples name fact rows

-- how many loops have a connection to each node
abbrev pub up_family : List LinkCount → List ℕ
up_family rows = link_family (codes "migctl_proxy_link_up") (codes "Loops that have a connection to the node, by pool and by node.") Gauge Up rows

-- how many connections to each node broke
abbrev pub breaks_family : List LinkCount → List ℕ
breaks_family rows =
    link_family (codes "migctl_proxy_link_breaks_total") (codes "Connections to the node that were there and are gone, by pool and by node.") Counter Breaks rows

-- how many connections to each node were begun
abbrev pub dials_family : List LinkCount → List ℕ
dials_family rows =
    link_family (codes "migctl_proxy_link_dials_total") (codes "Connections to the node that were begun, by pool and by node.") Counter Dials rows

-- how the links to each node stand
abbrev pub links_text : List LinkCount → List ℕ
links_text rows = up_family rows ++ (breaks_family rows ++ dials_family rows)
