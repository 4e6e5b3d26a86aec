-- A loop makes a step: what the streams stand for then.
use Rattle.std.proofs.Common.{◌≡◌, ℕ, inl, inr, List, [], map, slice_set, sym, ap, subst}
use Rattle.std.proofs.lemmas.List.{append-nil, map-set}
use Rattle.mr_clock.specs.Readings.{Tick}
use Rattle.mr_history.specs.Places.{At}
use Rattle.mr_history.specs.declared.entry.Entry.{Entry}
use Rattle.mr_loop.specs.LoopView.{LoopView}
use Rattle.mr_loop.specs.declared.link.Link.{Link}
use Rattle.mr_loop.specs.declared.node.client.NodeClient.{NodeClient}
use Rattle.mr_world.specs.WorldView.{WorldView}
use Rattle.mr_world.specs.declared.message.Delivery.{Delivery}
use Rattle.mr_world.specs.declared.message.Message.{Message}
use Rattle.mr_streams.specs.Flows.{AreOf}
use Rattle.mr_streams.specs.OneProxy.{AreKnown, FrontRuns, RunsSo, IsKin}
use Rattle.mr_streams.specs.Refines.{Tells}
use Rattle.mr_streams.specs.Steps.{left_if_down, with_loop, with_entries}
use Rattle.mr_streams.specs.StreamsView.{StreamsView, Connection, Visit, cores_of, world_nodes}
use Rattle.mr_streams.proofs.Changing.{IsLike, StandsFor, IsSameLink, loop_mirrors, moved_flow, down_like}
use Rattle.mr_streams.proofs.Fronts.{known_still}
use Rattle.mr_streams.proofs.Lists.{at_map, at_mapped, at_set}
use Rattle.mr_streams.proofs.Mirrors.{Mirrors, MirrorsStreams, FlowsOf, AreLegal, RunsTo, lines_of, seats_of}
use Rattle.mr_streams.proofs.Runs.{still_tells}

-- the fleet has the same messages and deliveries by other words
pub flows_in : (messages messages' : List Message) (deliveries deliveries' : List Delivery) (lines : List (List Link)) (seats : List (List NodeClient)) (c : Connection)
    → messages' ≡ messages → deliveries' ≡ deliveries → FlowsOf messages deliveries lines seats c → FlowsOf messages' deliveries' lines seats c
flows_in messages messages' deliveries deliveries' lines seats c e f h =
    subst (λ d. FlowsOf messages' d lines seats c) (sym f) (subst (λ m. FlowsOf m deliveries lines seats c) (sym e) h)

-- streams with another loop and other connections
abbrev pub with_parts : StreamsView → ℕ → LoopView → List Connection → List Entry → StreamsView
with_parts s p loop connections history = record s { loops = slice_set s.loops p loop; connections = connections; history = history }

-- where the core of a loop stands
pub core_there : (w : WorldView) (s : StreamsView) (p : ℕ) (loop : LoopView) → MirrorsStreams w s → At s.loops p loop → At w.proxies p loop.front.core
core_there w s p loop m home = subst (λ c. At c p loop.front.core) (sym m.mirrors.cores_are) (at_mapped (λ (l : LoopView). l.front.core) home)

-- the legs of a loop's links are of its requests
pub own_links : (w : WorldView) (s : StreamsView) (p : ℕ) (loop : LoopView) → MirrorsStreams w s → At s.loops p loop → (place : ℕ) (link : Link) → At loop.links place link → AreOf p link.legs
own_links w s p loop m home place link there = m.mirrors.own p place loop.links link (at_mapped (λ (l : LoopView). l.links) home) there

-- a loop makes a step by which its core gives answers, and what is on its way over connections goes on
pub loop_streams : (w w' : WorldView) (s : StreamsView) (p : ℕ) (loop loop' : LoopView) (connections' : List Connection) (history' : List Entry)
    → MirrorsStreams w s → At s.loops p loop → IsKin loop.front.core loop'.front.core
    → w'.readings ≡ w.readings → w'.proxies ≡ slice_set w.proxies p loop'.front.core → w'.nodes ≡ w.nodes
    → ((number : ℕ) (other : LoopView) → At s.loops number other → AreKnown w'.history other.front.clients)
    → AreKnown w'.history loop'.front.clients → AreLegal loop'.inboxes → Tells w'.history history'
    → ((place : ℕ) (link : Link) → At loop'.links place link → AreOf p link.legs)
    → ((i : ℕ) (c : Connection) → At connections' i c → StandsFor s.connections i c)
    → ((i : ℕ) (c : Connection) → At connections' i c → FlowsOf w'.sent w'.replies (slice_set (lines_of s.loops) p loop'.links) (seats_of s.nodes) c)
    → MirrorsStreams w' (with_parts s p loop' connections' history')
loop_streams w w' s p loop loop' connections' history' m home kin clocks proxies nodes others known legal tells own stands flows =
    let core_at = at_mapped (λ (l : LoopView). l.front.core) home in
    let is = loop_mirrors w w' s.readings (cores_of s.loops) (lines_of s.loops) (world_nodes s.nodes) (seats_of s.nodes) s.connections connections' s.history history' p
    loop.front.core loop'.front.core loop'.links m.mirrors core_at kin clocks proxies nodes tells own stands flows in
    let cores : cores_of (slice_set s.loops p loop') ≡ slice_set (cores_of s.loops) p loop'.front.core = map-set (λ (l : LoopView). l.front.core) s.loops p loop' in
    let lines : lines_of (slice_set s.loops p loop') ≡ slice_set (lines_of s.loops) p loop'.links = map-set (λ (l : LoopView). l.links) s.loops p loop' in
    record {
      mirrors = subst (λ c. Mirrors w' s.readings c (lines_of (slice_set s.loops p loop')) (world_nodes s.nodes) (seats_of s.nodes) connections' history') (sym cores)
          (subst (λ l. Mirrors w' s.readings (slice_set (cores_of s.loops) p loop'.front.core) l (world_nodes s.nodes) (seats_of s.nodes) connections' history') (sym lines) is);
      known = λ number other h. elim (at_set s.loops p loop' h) [
        | inl e ↦ subst (λ (l : LoopView). AreKnown w'.history l.front.clients) (sym e.1) known
        | inr e ↦ others number other e.1
      ];
      legal = λ number other h. elim (at_set s.loops p loop' h) [
        | inl e ↦ subst (λ (l : LoopView). AreLegal l.inboxes) (sym e.1) legal
        | inr e ↦ m.legal number other e.1
      ];
    }

-- the same by a run of its core
pub front_streams : (w : WorldView) (s : StreamsView) (p : ℕ) (loop loop' : LoopView) (connections' : List Connection) (history' : List Entry) (front : FrontRuns w p loop.front loop'.front)
    → MirrorsStreams w s → At s.loops p loop → AreLegal loop'.inboxes → Tells front.so.world.history history'
    → ((place : ℕ) (link : Link) → At loop'.links place link → AreOf p link.legs)
    → ((i : ℕ) (c : Connection) → At connections' i c → StandsFor s.connections i c)
    → ((i : ℕ) (c : Connection) → At connections' i c → FlowsOf w.sent w.replies (slice_set (lines_of s.loops) p loop'.links) (seats_of s.nodes) c)
    → RunsTo w [] (with_parts s p loop' connections' history')
front_streams w s p loop loop' connections' history' front m home legal tells own stands flows =
    let so : RunsSo w p loop'.front.core = front.so in
    record {
      world = so.world;
      happened = so.events;
      run = so.run;
      ticks_are = so.ticks;
      mirrors = loop_streams w so.world s p loop loop' connections' history' m home (so.kin loop.front.core (core_there w s p loop m home)) so.readings so.proxies so.nodes
          (λ number other h. known_still w.history so.world.history other.front.clients so.gains (m.known number other h))
          (front.known (m.known p loop home)) legal tells own stands
          (λ i c h. flows_in w.sent so.world.sent w.replies so.world.replies (slice_set (lines_of s.loops) p loop'.links) (seats_of s.nodes) c so.sent so.replies (flows i c h));
    }

-- and all connections are as they were, unless their links are down
pub moves_to : (w : WorldView) (s : StreamsView) (p : ℕ) (loop loop' : LoopView) (history' : List Entry) (front : FrontRuns w p loop.front loop'.front)
    → MirrorsStreams w s → At s.loops p loop → AreLegal loop'.inboxes → Tells front.so.world.history history'
    → ((place : ℕ) (link : Link) → At loop'.links place link → AreOf p link.legs)
    → ((place : ℕ) → IsSameLink loop.links loop'.links place)
    → RunsTo w [] (with_parts s p loop' (map (left_if_down p loop') s.connections) history')
moves_to w s p loop loop' history' front m home legal tells own still =
    front_streams w s p loop loop' (map (left_if_down p loop') s.connections) history' front m home legal tells own
    (λ i c h. (let old = at_map (left_if_down p loop') s.connections h in
    record { old = old.0; there = old.1; like = subst (λ x. IsLike old.0 x) (sym old.2) (down_like p loop' old.0) }))
    (λ i c h. (let old = at_map (left_if_down p loop') s.connections h in
    subst (λ x. FlowsOf w.sent w.replies (slice_set (lines_of s.loops) p loop'.links) (seats_of s.nodes) x) (sym old.2)
    (moved_flow w.sent w.replies (lines_of s.loops) (seats_of s.nodes) p loop loop' old.0 (at_mapped (λ (l : LoopView). l.links) home) (m.mirrors.flows i old.0 old.1)
    (λ here same. still old.0.link))))

-- and the history is as it was
pub moves_quietly : (w : WorldView) (s : StreamsView) (p : ℕ) (loop loop' : LoopView) → MirrorsStreams w s → At s.loops p loop → FrontRuns w p loop.front loop'.front
    → AreLegal loop'.inboxes → ((place : ℕ) (link : Link) → At loop'.links place link → AreOf p link.legs)
    → ((place : ℕ) → IsSameLink loop.links loop'.links place)
    → RunsTo w [] (with_loop p loop' s)
moves_quietly w s p loop loop' m home front legal own still =
    moves_to w s p loop loop' s.history front m home legal (still_tells w.history front.so.world.history s.history front.so.gains m.mirrors.tells) own still

-- streams of these parts mirror what they do, whoever their clients are
pub runs_in : (w : WorldView) (ticks : List Tick) (s s' : StreamsView) → s' ≡ s → RunsTo w ticks s → RunsTo w ticks s'
runs_in w ticks s s' e h = subst (λ x. RunsTo w ticks x) (sym e) h

-- nothing is gained
pub no_gains : (w : WorldView) (s : StreamsView) → RunsTo w [] s → RunsTo w [] (with_entries [] s)
no_gains w s h = runs_in w [] s (with_entries [] s) (ap (λ x. record s { history = x }) (append-nil s.history)) h

-- visits are told of nowhere
pub runs_visited : (w : WorldView) (ticks : List Tick) (s : StreamsView) (visits : List (List Visit)) → RunsTo w ticks s → RunsTo w ticks (record s { visits = visits })
runs_visited w ticks s visits h = record {
  world = h.world;
  happened = h.happened;
  run = h.run;
  ticks_are = h.ticks_are;
  mirrors = record { mirrors = h.mirrors.mirrors; known = h.mirrors.known; legal = h.mirrors.legal };
}
