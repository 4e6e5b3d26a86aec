-- A fresh start of a setup.
use Rattle.std.proofs.Common.{◌≡◌, ℕ, List, [], ◌∷◌, map, refl, ap}
use Rattle.std.specs.List.{AllByRecursion}
use Rattle.mr_clock.specs.Readings.{readings_at_first}
use Rattle.mr_proxy.specs.ProxyView.{ProxyView}
use Rattle.mr_loop.specs.LoopView.{LoopView, fresh_loop}
use Rattle.mr_loop.specs.declared.asker.Limits.{Limits}
use Rattle.mr_loop.specs.node.NodeView.{fresh_node}
use Rattle.mr_world.specs.Setup.{proxies_from, nodes_at_first, held_entry}
use Rattle.mr_world.specs.declared.node.Node.{Node}
use Rattle.mr_streams.specs.Beginning.{SetupsStart}
use Rattle.mr_streams.specs.Headline.{IsFreshLoop, IsFreshNode}
use Rattle.mr_streams.specs.StreamsView.{NodeEnd, cores_of, world_nodes}

-- the loops of these cores
abbrev fresh_loops : Limits → List ProxyView → List LoopView
fresh_loops limits [] = []
fresh_loops limits (core ∷ cores) = fresh_loop core limits ∷ fresh_loops limits cores

loops_fresh : (limits : Limits) (cores : List ProxyView) → AllByRecursion IsFreshLoop (fresh_loops limits cores)
loops_fresh limits [] = tt
loops_fresh limits (core ∷ cores) = (refl, loops_fresh limits cores)

loops_cores : (limits : Limits) (cores : List ProxyView) → cores_of (fresh_loops limits cores) ≡ cores
loops_cores limits [] = refl
loops_cores limits (core ∷ cores) = ap (λ x. core ∷ x) (loops_cores limits cores)

loops_limited : (limits : Limits) (cores : List ProxyView) → AllByRecursion (λ (loop : LoopView). loop.limits ≡ limits) (fresh_loops limits cores)
loops_limited limits [] = tt
loops_limited limits (core ∷ cores) = (refl, loops_limited limits cores)

-- the loops of these nodes
abbrev fresh_ends : ℕ → List Node → List NodeEnd
fresh_ends most [] = []
fresh_ends most (node ∷ nodes) = record { name = node.name; loop = fresh_node node.cache most } ∷ fresh_ends most nodes

ends_fresh : (most : ℕ) (nodes : List Node) → AllByRecursion IsFreshNode (fresh_ends most nodes)
ends_fresh most [] = tt
ends_fresh most (node ∷ nodes) = (refl, ends_fresh most nodes)

ends_hold : (most : ℕ) (nodes : List Node) → world_nodes (fresh_ends most nodes) ≡ nodes
ends_hold most [] = refl
ends_hold most (node ∷ nodes) = ap (λ x. node ∷ x) (ends_hold most nodes)

ends_bounded : (most : ℕ) (nodes : List Node) → AllByRecursion (λ (node : NodeEnd). node.loop.most_unread ≡ most) (fresh_ends most nodes)
ends_bounded most [] = tt
ends_bounded most (node ∷ nodes) = (refl, ends_bounded most nodes)

pub setups_start : SetupsStart
setups_start setup limits most =
    let cores : List ProxyView = proxies_from 0 setup.proxies in
    let nodes : List Node = nodes_at_first setup in
    record {
      first = record {
        readings = readings_at_first (map (λ proxy. proxy.reading) setup.proxies);
        loops = fresh_loops limits cores;
        visits = map (λ (loop : LoopView). []) (fresh_loops limits cores);
        nodes = fresh_ends most nodes;
        connections = [];
        history = map held_entry setup.held;
      };
      starts = record {
        readings = refl;
        loops = loops_fresh limits cores;
        cores = loops_cores limits cores;
        visits = refl;
        nodes = ends_fresh most nodes;
        holds = ends_hold most nodes;
        connections = refl;
        history = refl;
      };
      limited = loops_limited limits cores;
      bounded = ends_bounded most nodes;
    }
