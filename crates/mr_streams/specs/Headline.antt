-- The headline over bytes, and what it says of the premises.
use Rattle.std.specs.Prelude.{◌≡◌, All, List, [], map}
use Rattle.std.specs.List.{AllByRecursion}
use Rattle.mr_clock.specs.Clocks.{NeverGoesBack, StayWithin}
use Rattle.mr_clock.specs.Readings.{Tick, readings_at_first}
use Rattle.mr_history.specs.History.{IsSafe}
use Rattle.mr_text.specs.Valid.{IsValidItem}
use Rattle.mr_loop.specs.LoopView.{LoopView, fresh_loop}
use Rattle.mr_loop.specs.node.NodeView.{fresh_node}
use Rattle.mr_world.specs.Headline.{IsPlan}
use Rattle.mr_world.specs.Setup.{SetupView, AllAlike, IsNewPoolEmpty, least_interval_of, proxies_from, nodes_at_first, held_entry}
use Rattle.mr_world.specs.declared.setup.HeldItem.{HeldItem}
use Rattle.mr_streams.specs.Served.{AreServed}
use Rattle.mr_streams.specs.Steps.{StreamsRun}
use Rattle.mr_streams.specs.StreamsView.{StreamsView, NodeEnd, cores_of, world_nodes}

-- a loop without clients, whose links are down
abbrev pub IsFreshLoop : LoopView → Type 0
IsFreshLoop loop = loop ≡ fresh_loop loop.front.core loop.limits

-- a node without clients
abbrev pub IsFreshNode : NodeEnd → Type 0
IsFreshNode node = node.loop ≡ fresh_node node.loop.cache node.loop.most_unread

-- what is held at the beginning could be told of in a text
abbrev pub HasText : HeldItem → Type 0
HasText held = IsValidItem (record { key = held.key; flags = held.flags; block = held.block })

-- nothing happened yet to a fleet of this setup
pub record Starts (setup : SetupView) (s : StreamsView) : Type 0 where
  pub readings : s.readings ≡ readings_at_first (map (λ proxy. proxy.reading) setup.proxies)
  pub loops : AllByRecursion IsFreshLoop s.loops
  pub cores : cores_of s.loops ≡ proxies_from 0 setup.proxies
  pub visits : s.visits ≡ map (λ (loop : LoopView). []) s.loops
  pub nodes : AllByRecursion IsFreshNode s.nodes
  pub holds : world_nodes s.nodes ≡ nodes_at_first setup
  pub connections : s.connections ≡ []
  pub history : s.history ≡ map held_entry setup.held

-- the four premises, of a setup and of the readings at which requests are issued
pub record PremisesHold (setup : SetupView) (ticks : List Tick) : Type 0 where
  pub same : AllAlike setup.proxies
  pub new_empty : IsNewPoolEmpty setup
  pub forward : NeverGoesBack (map (λ proxy. proxy.reading) setup.proxies) ticks
  pub near : StayWithin (least_interval_of setup.proxies) (map (λ proxy. proxy.reading) setup.proxies) ticks

-- Whatever pieces bytes travel in, whenever connections break, nodes and proxies restart and memory is refused: each hit is fresh, and
-- each client was told the answers of the history to its requests, in their order.
abbrev pub HeadlineOverBytes : Type 0
HeadlineOverBytes =
    (setup : SetupView) (first last : StreamsView) (ticks : List Tick)
    → All (λ proxy. IsPlan proxy.routing proxy.schedule) setup.proxies → All HasText setup.held
    → Starts setup first → StreamsRun first ticks last → PremisesHold setup ticks
    → IsSafe last.history × AreServed last
