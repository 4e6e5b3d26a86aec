-- What happens on the node's side of connections, and to clocks.
use Rattle.std.proofs.Common.{◌≡◌, ◌≢◌, ℕ, ◌<◌, ◌==◌, ◌⊎◌, inl, inr, Bool, true, false, List, [], ◌∷◌, ◌++◌, map, slice_get, slice_set, drop, length, Some, None, if◌then◌else◌, refl, sym, ap, ◌∙◌, subst, append_assoc, eqb-true}
use Rattle.std.proofs.lemmas.Bool.{eqb-false, or_cases}
use Rattle.std.proofs.lemmas.List.{append-nil, drop_at, map-set, length-map}
use Rattle.mr_clock.specs.Readings.{Tick, readings_after}
use Rattle.mr_history.specs.Places.{At}
use Rattle.mr_history.specs.declared.entry.Author.{Author}
use Rattle.mr_history.specs.declared.entry.Entry.{Entry}
use Rattle.mr_node.specs.Output.{text_of_answer}
use Rattle.mr_node.specs.Recency.{CacheView}
use Rattle.mr_loop.specs.LoopView.{LoopView, TakesPiece}
use Rattle.mr_loop.specs.declared.inbox.Inbox.{Inbox}
use Rattle.mr_loop.specs.declared.link.Link.{Link}
use Rattle.mr_loop.specs.declared.node.client.NodeClient.{NodeClient}
use Rattle.mr_loop.specs.declared.node.serving.NodePause.{NodePause}
use Rattle.mr_loop.specs.node.NodeView.{NodeView, NodeBytes, NodeEnds, NodeWrote, with_seat, with_node_place, after_node_leaving, fresh_node, fresh_node_client, out_in}
use Rattle.mr_loop.specs.node.Serving.{Seat, ServesSome, IsOver, seat, to_tell}
use Rattle.mr_world.specs.Lists.{Has}
use Rattle.mr_world.specs.Positions.{node_number}
use Rattle.mr_world.specs.WorldView.{WorldView}
use Rattle.mr_world.specs.declared.event.Event.TheVariants as event
use Rattle.mr_world.specs.declared.message.Delivery.{Delivery}
use Rattle.mr_world.specs.declared.message.Message.{Message}
use Rattle.mr_world.specs.declared.note.Note.TheVariants as note
use Rattle.mr_streams.specs.Fleet.{FleetEvent}
use Rattle.mr_streams.specs.Flows.{AreReplies, AreRequests}
use Rattle.mr_streams.specs.Kept.{AreTellable}
use Rattle.mr_streams.specs.OneNode.{IsBusy, holding}
use Rattle.mr_streams.specs.Refines.{Tells}
use Rattle.mr_streams.specs.Entries.{stored_in}
use Rattle.mr_streams.specs.Steps.{NodeDoes, gone_from, with_node, with_connection, with_entries}
use Rattle.mr_streams.specs.StreamsView.{StreamsView, NodeEnd, Connection, node_does, cores_of, world_nodes}
use Rattle.mr_streams.proofs.Changing.{IsLike, StandsFor, node_mirrors, same_like}
use Rattle.mr_streams.proofs.Exchanges.{RequestLaws}
use Rattle.mr_streams.proofs.Lists.{at_map, at_mapped, at_set, at_one, at_left, at_written, at_elsewhere, same_or_not, written_back}
use Rattle.mr_streams.proofs.LoopMoves.{flows_in, runs_in, no_gains}
use Rattle.mr_streams.proofs.Mirrors.{Mirrors, MirrorsStreams, FlowsOf, IsOpen, ReadsOn, RunsTo, lines_of, seats_of, flows_on_seats, flows_still}
use Rattle.mr_streams.proofs.Serving.{empty_both, served}

-- streams with another node and other connections
abbrev pub with_node_parts : StreamsView → ℕ → NodeEnd → NodeView CacheView → List Connection → List Entry → StreamsView
with_node_parts s n end loop connections history = record s { nodes = slice_set s.nodes n (record end { loop = loop }); connections = connections; history = history }

-- the node as the world knows it
pub node_there : (s : StreamsView) (n : ℕ) (end : NodeEnd) → At s.nodes n end → At (world_nodes s.nodes) n (holding end.name end.loop.cache)
node_there s n end home = at_mapped (λ (x : NodeEnd). record { name = x.name; cache = x.loop.cache }) home

-- one node changes
pub node_streams : (w w' : WorldView) (s : StreamsView) (n : ℕ) (end : NodeEnd) (loop' : NodeView CacheView) (connections' : List Connection) (history' : List Entry)
    → MirrorsStreams w s → At s.nodes n end → AreTellable loop'.cache.items
    → w'.readings ≡ w.readings → w'.proxies ≡ w.proxies → w'.nodes ≡ slice_set w.nodes n (holding end.name loop'.cache)
    → ((entry : Entry) → Has w.history entry → Has w'.history entry) → Tells w'.history history'
    → ((i : ℕ) (c : Connection) → At connections' i c → StandsFor s.connections i c)
    → ((i : ℕ) (c : Connection) → At connections' i c → FlowsOf w'.sent w'.replies (lines_of s.loops) (slice_set (seats_of s.nodes) n loop'.clients) c)
    → MirrorsStreams w' (with_node_parts s n end loop' connections' history')
node_streams w w' s n end loop' connections' history' m home kept clocks proxies nodes grows tells stands flows =
    let new : NodeEnd = record end { loop = loop' } in
    let is = node_mirrors w w' s.readings (cores_of s.loops) (lines_of s.loops) (world_nodes s.nodes) (seats_of s.nodes) (slice_set (seats_of s.nodes) n loop'.clients) s.connections connections'
    s.history history' n end.name end.loop.cache loop'.cache m.mirrors (node_there s n end home) kept clocks proxies nodes tells stands flows in
    let names : world_nodes (slice_set s.nodes n new) ≡ slice_set (world_nodes s.nodes) n (holding end.name loop'.cache) =
    map-set (λ (x : NodeEnd). holding x.name x.loop.cache) s.nodes n new in
    let seats : seats_of (slice_set s.nodes n new) ≡ slice_set (seats_of s.nodes) n loop'.clients = map-set (λ (x : NodeEnd). x.loop.clients) s.nodes n new in
    record {
      mirrors = subst (λ x. Mirrors w' s.readings (cores_of s.loops) (lines_of s.loops) x (seats_of (slice_set s.nodes n new)) connections' history') (sym names)
          (subst (λ x. Mirrors w' s.readings (cores_of s.loops) (lines_of s.loops) (slice_set (world_nodes s.nodes) n (holding end.name loop'.cache)) x connections' history') (sym seats) is);
      known = λ number loop h. (λ place client there turn answer k wants. grows _ (m.known number loop h place client there turn answer k wants));
      legal = m.legal;
    }

-- the clients of a node change, but not that of this connection
open_elsewhere : (seats : List (List NodeClient)) (n : ℕ) (clients' : List NodeClient) (c : Connection) (place : ℕ) (kept tail : List ℕ) (is_deaf : Bool) → c.node ≢ n
    → IsOpen seats c place kept tail is_deaf → IsOpen (slice_set seats n clients') c place kept tail is_deaf
open_elsewhere seats n clients' c place kept tail is_deaf other o = record {
  clients = o.clients;
  client = o.client;
  home = at_elsewhere clients' other o.home;
  there = o.there;
  deaf = o.deaf;
  kept_is = o.kept_is;
  tail_is = o.tail_is;
  reads_on = o.reads_on;
}

-- where a client was it still is
abbrev pub StillThere : List NodeClient → List NodeClient → ℕ → Type 0
StillThere clients clients' place = (client : NodeClient) → At clients place client → At clients' place client

open_still : (seats : List (List NodeClient)) (n : ℕ) (clients clients' : List NodeClient) (c : Connection) (place : ℕ) (kept tail : List ℕ) (is_deaf : Bool) → At seats n clients → c.node ≡ n
    → StillThere clients clients' place → IsOpen seats c place kept tail is_deaf → IsOpen (slice_set seats n clients') c place kept tail is_deaf
open_still seats n clients clients' c place kept tail is_deaf there same still o =
    let own : clients ≡ o.clients = at_one there (subst (λ k. At seats k o.clients) same o.home) in
    record {
      clients = clients';
      client = o.client;
      home = subst (λ k. At (slice_set seats n clients') k clients') (sym same) (at_written clients' there);
      there = still o.client (subst (λ x. At x place o.client) (sym own) o.there);
      deaf = o.deaf;
      kept_is = o.kept_is;
      tail_is = o.tail_is;
      reads_on = o.reads_on;
    }

-- a connection whose client is where it was
pub seated_flow : (messages : List Message) (deliveries : List Delivery) (lines : List (List Link)) (seats : List (List NodeClient)) (n : ℕ) (clients clients' : List NodeClient) (c : Connection)
    → At seats n clients → (c.node ≡ n → (place : ℕ) → c.place ≡ Some place → StillThere clients clients' place)
    → FlowsOf messages deliveries lines seats c → FlowsOf messages deliveries lines (slice_set seats n clients') c
seated_flow messages deliveries lines seats n clients clients' c there still h =
    flows_on_seats messages deliveries lines seats (slice_set seats n clients') c
    (λ place kept tail is_deaf e o. elim (same_or_not c.node n) [
      | inl same ↦ open_still seats n clients clients' c place kept tail is_deaf there same (still same place e) o
      | inr other ↦ open_elsewhere seats n clients' c place kept tail is_deaf other o
    ]) h

pub still_but : (clients : List NodeClient) (place other : ℕ) (client : NodeClient) → other ≢ place → StillThere clients (slice_set clients place client) other
still_but clients place other client ne = λ old there. at_elsewhere client ne there

-- a clock shows another reading
pub ticks_on : (w : WorldView) (s : StreamsView) (tick : Tick) → MirrorsStreams w s → tick.proxy < length s.loops → RunsTo w (tick ∷ []) (record s { readings = readings_after s.readings tick })
ticks_on w s tick m within =
    let readings = readings_after w.readings tick in
    let world : WorldView = record w { readings = readings } in
    let i = m.mirrors in
    let home : tick.proxy < length w.proxies = subst (λ n. tick.proxy < n) (sym (ap length i.cores_are ∙ length-map s.loops (λ (l : LoopView). l.front.core))) within in
    record {
      world = world;
      happened = FleetEvent.Happens (event.Clock tick.proxy tick.reading) ∷ [];
      run = (world, (note.Nothing, record { home = home; tells = refl; becomes = refl }), refl);
      ticks_are = refl;
      mirrors = record {
        mirrors = record {
          readings_are = ap (λ r. readings_after r tick) i.readings_are;
          cores_are = i.cores_are;
          nodes_are = i.nodes_are;
          tells = i.tells;
          tellable = i.tellable;
          named = i.named;
          numbers = i.numbers;
          plans = i.plans;
          own = i.own;
          flows = i.flows;
          homes = i.homes;
          one_link = i.one_link;
          one_place = i.one_place;
        };
        known = m.known;
        legal = m.legal;
      };
    }

-- nothing happens to the world, and one connection and one node change
pub quiet_node : (w : WorldView) (s : StreamsView) (n : ℕ) (end : NodeEnd) (loop' : NodeView CacheView) (connections' : List Connection)
    → MirrorsStreams w s → At s.nodes n end → loop'.cache ≡ end.loop.cache
    → ((i : ℕ) (c : Connection) → At connections' i c → StandsFor s.connections i c)
    → ((i : ℕ) (c : Connection) → At connections' i c → FlowsOf w.sent w.replies (lines_of s.loops) (slice_set (seats_of s.nodes) n loop'.clients) c)
    → RunsTo w [] (with_node_parts s n end loop' connections' s.history)
quiet_node w s n end loop' connections' m home same stands flows =
    let at = node_there s n end home in
    let nodes : w.nodes ≡ slice_set w.nodes n (holding end.name loop'.cache) =
    sym (ap (λ x. slice_set w.nodes n (holding end.name x)) same ∙ written_back (subst (λ x. At x n (holding end.name end.loop.cache)) (sym m.mirrors.nodes_are) at)) in
    record {
      world = w;
      happened = [];
      run = refl;
      ticks_are = refl;
      mirrors = node_streams w w s n end loop' connections' s.history m home
          (subst (λ c. AreTellable c.items) (sym same) (m.mirrors.tellable n (holding end.name end.loop.cache) at))
          refl refl nodes (λ entry has. has) m.mirrors.tells stands flows;
    }

-- one connection changes, and the client at its place
module _ (s : StreamsView) (number place : ℕ) (c c' : Connection) (end : NodeEnd) (client' : NodeClient) where
  stands_changed : At s.connections number c → IsLike c c' → (i : ℕ) (d : Connection) → At (slice_set s.connections number c') i d → StandsFor s.connections i d
  stands_changed there like i d k = elim (at_set s.connections number c' k) [
    | inl e ↦ record { old = c; there = subst (λ n. At s.connections n c) (sym e.0) there; like = subst (λ x. IsLike c x) (sym e.1) like }
    | inr e ↦ record { old = d; there = e.1; like = same_like d }
  ]

  flows_changed : (w : WorldView) → MirrorsStreams w s → At s.connections number c → c.place ≡ Some place → At s.nodes c.node end → (messages : List Message) (deliveries : List Delivery)
      → ((i : ℕ) (d : Connection) → At s.connections i d → FlowsOf messages deliveries (lines_of s.loops) (seats_of s.nodes) d)
      → FlowsOf messages deliveries (lines_of s.loops) (slice_set (seats_of s.nodes) c.node (slice_set end.loop.clients place client')) c'
      → (i : ℕ) (d : Connection) → At (slice_set s.connections number c') i d
      → FlowsOf messages deliveries (lines_of s.loops) (slice_set (seats_of s.nodes) c.node (slice_set end.loop.clients place client')) d
  flows_changed w m there is_open home messages deliveries others flow i d k = elim (at_set s.connections number c' k) [
    | inl e ↦ subst (λ x. FlowsOf messages deliveries (lines_of s.loops) (slice_set (seats_of s.nodes) c.node (slice_set end.loop.clients place client')) x) (sym e.1) flow
    | inr e ↦ seated_flow messages deliveries (lines_of s.loops) (seats_of s.nodes) c.node end.loop.clients (slice_set end.loop.clients place client') d
        (at_mapped (λ (x : NodeEnd). x.loop.clients) home)
        (λ same other is. still_but end.loop.clients place other client' (λ same_place. e.0 (m.mirrors.one_place i number place d c e.1 there (is ∙ ap (λ x. Some x) same_place) is_open same)))
        (others i d e.1)
  ]

-- bytes leave a node
leaves_node : (w : WorldView) (s : StreamsView) (number place : ℕ) (c : Connection) (end : NodeEnd) (loop' : NodeView CacheView) (piece rest : List ℕ) → MirrorsStreams w s
    → At s.connections number c → c.place ≡ Some place → At s.nodes c.node end
    → out_in (slice_get end.loop.clients place) ≡ piece ++ rest → NodeWrote place (length piece) end.loop loop'
    → RunsTo w [] (with_node c.node end loop' (with_connection number (record c { back = c.back ++ piece }) s))
leaves_node w s number place c end loop' piece rest m there is_open home splits l =
    let c' : Connection = record c { back = c.back ++ piece } in
    let client' : NodeClient = record l.was { out = drop (length piece) l.was.out } in
    let explicit : NodeView CacheView = record end.loop { clients = slice_set end.loop.clients place client' } in
    let f = m.mirrors.flows number c there in
    let o = f.opens place is_open in
    let seats_there : At (seats_of s.nodes) c.node end.loop.clients = at_mapped (λ (x : NodeEnd). x.loop.clients) home in
    let own : end.loop.clients ≡ o.clients = at_one seats_there o.home in
    let was_there : At end.loop.clients place l.was = record { gets = l.there } in
    let one : l.was ≡ o.client = at_one was_there (subst (λ x. At x place o.client) (sym own) o.there) in
    let out : l.was.out ≡ piece ++ rest = ap out_in (sym l.there) ∙ splits in
    let left : client'.out ≡ rest = ap (λ x. drop (length piece) x) out ∙ drop_at piece rest (length piece) refl in
    let due : List ℕ = text_of_answer l.was.due in
    let tail : f.tail ≡ piece ++ (rest ++ due) =
    sym o.tail_is ∙ ap (λ (x : NodeClient). to_tell x) (sym one) ∙ ap (λ x. x ++ due) out ∙ append_assoc piece rest due in
    let texts : f.front ++ (c.back ++ f.tail) ≡ f.front ++ ((c.back ++ piece) ++ (rest ++ due)) =
    ap (λ x. f.front ++ x) (ap (λ x. c.back ++ x) tail ∙ sym (append_assoc c.back piece (rest ++ due))) in
    let flow : FlowsOf w.sent w.replies (lines_of s.loops) (slice_set (seats_of s.nodes) c.node (slice_set end.loop.clients place client')) c' = record {
      returning = f.returning;
      going = f.going;
      front = f.front;
      tail = rest ++ due;
      kept = f.kept;
      out = f.out;
      is_deaf = f.is_deaf;
      busy = subst (λ x. IsBusy w.sent w.replies c.node f.is_deaf f.returning f.going x (f.kept ++ (c.forth ++ f.out))) texts f.busy;
      here = λ e. (let g = f.here e in record {
        links = g.links;
        link = g.link;
        home = g.home;
        there = g.there;
        is_up = g.is_up;
        legs_are = g.legs_are;
        kept = g.kept;
        out_is = g.out_is;
      });
      opens = λ k e. (
          let same : place ≡ k = (let both : Some place ≡ Some k = sym is_open ∙ e in cc) in
          record {
            clients = slice_set end.loop.clients place client';
            client = client';
            home = at_written (slice_set end.loop.clients place client') seats_there;
            there = subst (λ n. At (slice_set end.loop.clients place client') n client') same (at_written client' was_there);
            deaf = ap (λ (x : NodeClient). x.inbox.is_done) one ∙ o.deaf;
            kept_is = ap (λ (x : NodeClient). x.inbox.reader.kept) one ∙ o.kept_is;
            tail_is = ap (λ x. x ++ due) left;
            reads_on = λ hears. (let r = o.reads_on hears in record {
              not_closed = ap (λ (x : NodeClient). x.inbox.reader.closed) one ∙ r.not_closed;
              ended = λ ends. r.ended (ap (λ (x : NodeClient). x.inbox.reader.ended) (sym one) ∙ ends);
            });
          });
    } in
    let like : IsLike c c' = record { proxy = refl; link = refl; node = refl; place = λ k e. e; here = λ e. e } in
    runs_in w [] _ (with_node c.node end loop' (with_connection number c' s)) (ap (λ x. with_node c.node end x (with_connection number c' s)) l.becomes)
    (quiet_node w s c.node end explicit (slice_set s.connections number c') m home refl
    (stands_changed s number place c c' end client' there like)
    (flows_changed s number place c c' end client' w m there is_open home w.sent w.replies (λ i d k. m.mirrors.flows i d k) flow))

-- what a client that was served reads next
reads_after : (now most : ℕ) (old new : Seat CacheView) → ServesSome node_does now most old new ⊎ IsOver old new → new.client.inbox.is_done ≡ false
    → (new.client.inbox.reader.closed ≡ false) × (new.client.inbox.reader.ended ≡ old.client.inbox.reader.ended)
reads_after now most old new (inl some) hears =
    elim some.leaves [
      | inl stays ↦ (stays.1.is_closed, stays.1.is_ended)
      | inr over ↦ absurd (let no : true ≡ false = sym over.0 ∙ hears in cc)
    ]
reads_after now most old new (inr over) hears =
    absurd (let no : true ≡ false = sym (ap (λ (i : Inbox). i.is_done) over.same_inbox ∙ over.over) ∙ hears in cc)

-- it read on before
still_heard : (now most : ℕ) (old new : Seat CacheView) → ServesSome node_does now most old new ⊎ IsOver old new → new.client.inbox.is_done ≡ false → old.client.inbox.is_done ≡ false
still_heard now most old new (inl some) hears = some.is_open
still_heard now most old new (inr over) hears =
    absurd (let no : true ≡ false = sym (ap (λ (i : Inbox). i.is_done) over.same_inbox ∙ over.over) ∙ hears in cc)

-- more deliveries stand behind the others
flows_later : (messages messages' : List Message) (deliveries deliveries' more : List Delivery) (lines : List (List Link)) (seats : List (List NodeClient)) (c : Connection)
    → messages' ≡ messages → deliveries' ≡ deliveries ++ more → FlowsOf messages deliveries lines seats c → FlowsOf messages' deliveries' lines seats c
flows_later messages messages' deliveries deliveries' more lines seats c e f h =
    flows_in (messages ++ []) messages' (deliveries ++ more) deliveries' lines seats c (e ∙ sym (append-nil messages)) f
    (flows_still messages [] deliveries more lines seats c h)

-- a node serves what came over a connection, of which this is still on its way then
module _ (laws : RequestLaws) (w : WorldView) (s : StreamsView) (number place now : ℕ) (c : Connection) (forth' : List ℕ) (end : NodeEnd) (was : NodeClient) (fed : Inbox) (after : Seat CacheView) (by : Author) where
  abbrev was_seat : Seat CacheView
  was_seat = seat end.loop.cache (record was { inbox = fed }) end.loop.counts

  abbrev now_forth : Connection
  now_forth = record c { forth = forth' }

  node_served : (m : MirrorsStreams w s) → At s.connections number c → c.place ≡ Some place → At s.nodes c.node end → At end.loop.clients place was
      → fed.is_done ≡ was.inbox.is_done
      → ((kept out : List ℕ) → was.inbox.is_done ≡ false → was.inbox.reader.kept ≡ kept → ReadsOn was c → kept ++ (c.forth ++ out) ≡ fed.reader.kept ++ (forth' ++ out))
      → (was.inbox.is_done ≡ false → ReadsOn was c → fed.reader.ended ≡ true → (c.is_left ≡ true) × (forth' ≡ []))
      → (serves : ServesSome node_does now end.loop.most_unread was_seat after ⊎ IsOver was_seat after)
      → RunsTo w [] (with_node_parts s c.node end (with_seat place after end.loop) (slice_set s.connections number now_forth) (s.history ++ stored_in by serves))
  node_served m there is_open home was_there same_done texts ended serves =
      let c' : Connection = now_forth in
      let f = m.mirrors.flows number c there in
      let o = f.opens place is_open in
      let seats_there : At (seats_of s.nodes) c.node end.loop.clients = at_mapped (λ (x : NodeEnd). x.loop.clients) home in
      let own : end.loop.clients ≡ o.clients = at_one seats_there o.home in
      let one : was ≡ o.client = at_one was_there (subst (λ x. At x place o.client) (sym own) o.there) in
      let deaf : was.inbox.is_done ≡ f.is_deaf = ap (λ (x : NodeClient). x.inbox.is_done) one ∙ o.deaf in
      let reads_on : was.inbox.is_done ≡ false → ReadsOn was c = λ hears. subst (λ (x : NodeClient). ReadsOn x c) (sym one) (o.reads_on (sym deaf ∙ hears)) in
      let kept : was.inbox.reader.kept ≡ f.kept = ap (λ (x : NodeClient). x.inbox.reader.kept) one ∙ o.kept_is in
      let tail : f.tail ≡ to_tell was = sym o.tail_is ∙ ap (λ (x : NodeClient). to_tell x) (sym one) in
      let back : f.front ++ (c.back ++ f.tail) ≡ (f.front ++ c.back) ++ to_tell was =
      ap (λ x. f.front ++ (c.back ++ x)) tail ∙ sym (append_assoc f.front c.back (to_tell was)) in
      let node_at = node_there s c.node end home in
      let busy : IsBusy w.sent w.replies c.node fed.is_done f.returning f.going ((f.front ++ c.back) ++ to_tell was) (fed.reader.kept ++ (forth' ++ f.out)) = record {
        replies = subst (λ x. AreReplies w.sent w.replies f.returning x) back f.busy.replies;
        requests = λ hears. (
            let was_hears : was.inbox.is_done ≡ false = sym same_done ∙ hears in
            subst (λ x. AreRequests w.sent c.node f.going x) (texts f.kept f.out was_hears kept (reads_on was_hears)) (f.busy.requests (sym deaf ∙ was_hears)));
      } in
      let is = served laws by w.sent w.replies w c.node now end.loop.most_unread end.name (f.front ++ c.back) (forth' ++ f.out) was_seat after f.returning f.going s.history serves refl refl
      (subst (λ x. At x c.node (holding end.name end.loop.cache)) (sym m.mirrors.nodes_are) node_at)
      (m.mirrors.tellable c.node (holding end.name end.loop.cache) node_at) busy in
      let so = is.so in
      let clients' : List NodeClient = slice_set end.loop.clients place after.client in
      let seats' : List (List NodeClient) = slice_set (seats_of s.nodes) c.node clients' in
      let legs : f.returning ++ f.going ≡ (f.returning ++ is.answered) ++ is.left = ap (λ x. f.returning ++ x) is.splits ∙ sym (append_assoc f.returning is.answered is.left) in
      let deliveries : List Delivery = w.replies ++ so.more in
      let flow : FlowsOf w.sent deliveries (lines_of s.loops) seats' c' = record {
        returning = f.returning ++ is.answered;
        going = is.left;
        front = f.front;
        tail = to_tell after.client;
        kept = after.client.inbox.reader.kept;
        out = f.out;
        is_deaf = after.client.inbox.is_done;
        busy = record {
          replies = subst (λ x. AreReplies w.sent deliveries (f.returning ++ is.answered) x) (append_assoc f.front c.back (to_tell after.client)) is.busy.replies;
          requests = is.busy.requests;
        };
        here = λ e. (let g = f.here e in record {
          links = g.links;
          link = g.link;
          home = g.home;
          there = g.there;
          is_up = g.is_up;
          legs_are = g.legs_are ∙ legs;
          kept = g.kept;
          out_is = g.out_is;
        });
        opens = λ k e. (
            let same : place ≡ k = (let both : Some place ≡ Some k = sym is_open ∙ e in cc) in
            record {
              clients = clients';
              client = after.client;
              home = at_written clients' seats_there;
              there = subst (λ n. At clients' n after.client) same (at_written after.client was_there);
              deaf = refl;
              kept_is = refl;
              tail_is = refl;
              reads_on = λ hears. (
                  let r = reads_after now end.loop.most_unread was_seat after serves hears in
                  let was_hears : was.inbox.is_done ≡ false = sym same_done ∙ still_heard now end.loop.most_unread was_seat after serves hears in
                  record { not_closed = r.0; ended = λ ends. ended was_hears (reads_on was_hears) (sym r.1 ∙ ends) });
            });
      } in
      let like : IsLike c c' = record { proxy = refl; link = refl; node = refl; place = λ k e. e; here = λ e. e } in
      record {
        world = so.world;
        happened = so.events;
        run = so.run;
        ticks_are = so.ticks;
        mirrors = node_streams w so.world s c.node end (with_seat place after end.loop) (slice_set s.connections number c') (s.history ++ stored_in by serves) m home is.kept so.readings so.proxies so.nodes
            so.grows (so.tells m.mirrors.tells) (stands_changed s number place c c' end after.client there like)
            (λ i d k. flows_in w.sent so.world.sent deliveries so.world.replies (lines_of s.loops) seats' d so.sent so.replies
            (flows_changed s number place c c' end after.client w m there is_open home w.sent deliveries
            (λ j x a. flows_later w.sent w.sent w.replies deliveries so.more (lines_of s.loops) (seats_of s.nodes) x refl refl (m.mirrors.flows j x a)) flow i d k));
      }

pub takes_done : (piece : List ℕ) (old new : Inbox) → TakesPiece piece old new → new.is_done ≡ old.is_done
takes_done piece old new (inl takes) = ap (λ (i : Inbox). i.is_done) takes.3
takes_done piece old new (inr takes) = ap (λ (i : Inbox). i.is_done) takes.2

-- nothing of the piece is lost to a client that reads on
pub takes_all : (piece rest : List ℕ) (was : NodeClient) (fed : Inbox) (c : Connection) → TakesPiece piece was.inbox fed → c.forth ≡ piece ++ rest → ReadsOn was c
    → (fed.reader.kept ≡ was.inbox.reader.kept ++ piece) × (fed.reader.ended ≡ was.inbox.reader.ended)
takes_all piece rest was fed c (inl takes) splits r = (takes.0.stands, takes.0.is_ended ∙ sym takes.2)
takes_all piece rest was fed c (inr takes) splits r =
    let none : piece ≡ [] = elim takes.0 [
      | inl over ↦ elim (or_cases was.inbox.reader.closed was.inbox.reader.ended over) [
        | inl closed ↦ absurd (let no : false ≡ true = sym r.not_closed ∙ closed in cc)
        | inr ended ↦ (empty_both piece rest (sym splits ∙ (r.ended ended).1)).0
      ]
      | inr empty ↦ empty
    ] in
    (takes.1.stands ∙ sym (append-nil was.inbox.reader.kept) ∙ ap (λ x. was.inbox.reader.kept ++ x) (sym none), takes.1.is_ended)

-- bytes reach a node
reaches_node : RequestLaws → (w : WorldView) (s : StreamsView) (number place now : ℕ) (c : Connection) (end : NodeEnd) (loop' : NodeView CacheView) (pause : NodePause) (by : Author) (piece rest : List ℕ)
    → MirrorsStreams w s → At s.connections number c → c.place ≡ Some place → At s.nodes c.node end → c.forth ≡ piece ++ rest → (step : NodeBytes node_does place now piece end.loop pause loop')
    → RunsTo w [] (with_entries (stored_in by step.serves.serves) (with_node c.node end loop' (with_connection number (record c { forth = rest }) s)))
reaches_node laws w s number place now c end loop' pause by piece rest m there is_open home splits l =
    runs_in w [] _ _ (ap (λ x. with_entries (stored_in by l.serves.serves) (with_node c.node end x (with_connection number (record c { forth = rest }) s))) l.becomes)
    (node_served laws w s number place now c rest end l.was l.fed l.after by m there is_open home (record { gets = l.there })
    (takes_done piece l.was.inbox l.fed l.takes)
    (λ kept out hears e r. (
    let all = takes_all piece rest l.was l.fed c l.takes splits r in
    ap (λ x. x ++ (c.forth ++ out)) (sym e) ∙ ap (λ x. l.was.inbox.reader.kept ++ x) (ap (λ x. x ++ out) splits ∙ append_assoc piece rest out)
    ∙ sym (append_assoc l.was.inbox.reader.kept piece (rest ++ out)) ∙ ap (λ x. x ++ (rest ++ out)) (sym all.0)))
    (λ hears r ends. (
    let all = takes_all piece rest l.was l.fed c l.takes splits r in
    let over = r.ended (sym all.1 ∙ ends) in
    (over.0, (empty_both piece rest (sym splits ∙ over.1)).1)))
    l.serves.serves)

-- a node reads that a connection ends
ends_at_node : RequestLaws → (w : WorldView) (s : StreamsView) (number place now : ℕ) (c : Connection) (end : NodeEnd) (loop' : NodeView CacheView) (pause : NodePause) (by : Author)
    → MirrorsStreams w s → At s.connections number c → c.place ≡ Some place → At s.nodes c.node end → c.is_left ≡ true → c.forth ≡ [] → (step : NodeEnds node_does place now end.loop pause loop')
    → RunsTo w [] (with_entries (stored_in by step.serves.serves) (with_node c.node end loop' (with_connection number c s)))
ends_at_node laws w s number place now c end loop' pause by m there is_open home is_left all_came l =
    runs_in w [] _ _ (ap (λ x. with_entries (stored_in by l.serves.serves) (with_node c.node end x (with_connection number c s))) l.becomes)
    (node_served laws w s number place now c c.forth end l.was l.ended l.after by m there is_open home (record { gets = l.there })
    (ap (λ (i : Inbox). i.is_done) l.ends.becomes)
    (λ kept out hears e r. ap (λ x. x ++ (c.forth ++ out)) (sym e ∙ sym l.ends.reader.stands))
    (λ hears r ends. (is_left, all_came)) l.serves.serves)

-- a node has one more place
pub gains_place : (w : WorldView) (s : StreamsView) (n : ℕ) (end : NodeEnd) → MirrorsStreams w s → At s.nodes n end → RunsTo w [] (with_node n end (with_node_place end.loop) s)
gains_place w s n end m home =
    let loop' : NodeView CacheView = with_node_place end.loop in
    quiet_node w s n end loop' s.connections m home refl (λ i c k. record { old = c; there = k; like = same_like c })
    (λ i c k. seated_flow w.sent w.replies (lines_of s.loops) (seats_of s.nodes) n end.loop.clients loop'.clients c (at_mapped (λ (x : NodeEnd). x.loop.clients) home)
    (λ same place is client there. at_left (fresh_node_client ∷ []) there) (m.mirrors.flows i c k))

-- the node's end of a connection is gone
abbrev pub without_node : Connection → Connection
without_node c = record c { place = None; forth = [] }

without_flow : (messages : List Message) (deliveries : List Delivery) (lines : List (List Link)) (seats seats' : List (List NodeClient)) (c : Connection)
    → FlowsOf messages deliveries lines seats c → FlowsOf messages deliveries lines seats' (without_node c)
without_flow messages deliveries lines seats seats' c f = record {
  returning = f.returning;
  going = f.going;
  front = f.front;
  tail = f.tail;
  kept = f.kept;
  out = f.out;
  is_deaf = true;
  busy = record { replies = f.busy.replies; requests = λ e. absurd (let no : true ≡ false = e in cc) };
  here = λ e. (let g = f.here e in record {
    links = g.links;
    link = g.link;
    home = g.home;
    there = g.there;
    is_up = g.is_up;
    legs_are = g.legs_are;
    kept = g.kept;
    out_is = g.out_is;
  });
  opens = λ k e. absurd (let no : None ≡ Some k = e in cc);
}

without_like : (c : Connection) → IsLike c (without_node c)
without_like c = record { proxy = refl; link = refl; node = refl; place = λ k e. absurd (let no : None ≡ Some k = e in cc); here = λ e. e }

loses_node : (w : WorldView) (s : StreamsView) (number place : ℕ) (c : Connection) (end : NodeEnd) → MirrorsStreams w s → At s.connections number c → c.place ≡ Some place → At s.nodes c.node end
    → RunsTo w [] (with_node c.node end (after_node_leaving place end.loop) (with_connection number (without_node c) s))
loses_node w s number place c end m there is_open home =
    let c' : Connection = without_node c in
    let loop' : NodeView CacheView = after_node_leaving place end.loop in
    quiet_node w s c.node end loop' (slice_set s.connections number c') m home refl
    (stands_changed s number place c c' end fresh_node_client there (without_like c))
    (flows_changed s number place c c' end fresh_node_client w m there is_open home w.sent w.replies (λ i d k. m.mirrors.flows i d k)
    (without_flow w.sent w.replies (lines_of s.loops) (seats_of s.nodes) (slice_set (seats_of s.nodes) c.node loop'.clients) c (m.mirrors.flows number c there)))

-- something happens at the node's end of a connection
pub node_runs : RequestLaws → (w : WorldView) (s : StreamsView) (number place : ℕ) (c c' : Connection) (end : NodeEnd) (loop' : NodeView CacheView) (gains : List Entry)
    → MirrorsStreams w s → At s.connections number c → c.place ≡ Some place → At s.nodes c.node end → NodeDoes c place end.loop c' loop' gains
    → RunsTo w [] (with_entries gains (with_node c.node end loop' (with_connection number c' s)))
node_runs laws w s number place c c' end loop' gains m there is_open home (NodeDoes.reaches {pause = pause} by now piece rest splits step) =
    reaches_node laws w s number place now c end loop' pause by piece rest m there is_open home splits step
node_runs laws w s number place c c' end loop' gains m there is_open home (NodeDoes.ends {pause = pause} by now is_left all_came step) =
    ends_at_node laws w s number place now c end loop' pause by m there is_open home is_left all_came step
node_runs laws w s number place c c' end loop' gains m there is_open home (NodeDoes.leaves piece rest splits step) =
    no_gains w _ (leaves_node w s number place c end loop' piece rest m there is_open home splits step)
node_runs laws w s number place c c' end loop' gains m there is_open home NodeDoes.goes =
    no_gains w _ (loses_node w s number place c end m there is_open home)

-- a node restarts
gone_if : (b : Bool) (P : Connection → Type 0) (n : ℕ) (c : Connection) → (b ≡ true → P (without_node c)) → (b ≡ false → P c) → P (if b then without_node c else c)
gone_if true P n c gone stays = gone refl
gone_if false P n c gone stays = stays refl

pub gone_or_not : (P : Connection → Type 0) (n : ℕ) (c : Connection) → (c.node ≡ n → P (without_node c)) → (c.node ≢ n → P c) → P (gone_from n c)
gone_or_not P n c gone stays = gone_if (c.node == n) P n c (λ e. gone (eqb-true c.node n e)) (λ e. stays (eqb-false c.node n e))

pub restarts_node : (w : WorldView) (s : StreamsView) (n : ℕ) (end : NodeEnd) → MirrorsStreams w s → At s.nodes n end
    → RunsTo w [] (record (with_node n end (fresh_node (record end.loop.cache { items = [] }) end.loop.most_unread) s) { connections = map (gone_from n) s.connections })
restarts_node w s n end m home =
    let empty : CacheView = record end.loop.cache { items = [] } in
    let loop' : NodeView CacheView = fresh_node empty end.loop.most_unread in
    let world : WorldView = record w { nodes = slice_set w.nodes n (holding end.name empty) } in
    let connections' : List Connection = map (gone_from n) s.connections in
    let at : At w.nodes n (holding end.name end.loop.cache) = subst (λ x. At x n (holding end.name end.loop.cache)) (sym m.mirrors.nodes_are) (node_there s n end home) in
    let number : node_number w.nodes end.name ≡ n =
    ap (λ x. node_number x end.name) m.mirrors.nodes_are ∙ m.mirrors.named n (holding end.name end.loop.cache) (node_there s n end home) in
    let becomes : world ≡ record w { nodes = slice_set w.nodes (node_number w.nodes end.name) (holding end.name empty) } =
    ap (λ k. record w { nodes = slice_set w.nodes k (holding end.name empty) }) (sym number) in
    let seats' : List (List NodeClient) = slice_set (seats_of s.nodes) n loop'.clients in
    record {
      world = world;
      happened = FleetEvent.Happens (event.NodeRestart end.name) ∷ [];
      run = (
        world,
        (
          note.Nothing,
          record {
            node = holding end.name end.loop.cache;
            there = subst (λ k. At w.nodes k (holding end.name end.loop.cache)) (sym number) at;
            tells = refl;
            becomes = becomes;
          },
        ),
        refl,
      );
      ticks_are = refl;
      mirrors = node_streams w world s n end loop' connections' s.history m home tt refl refl refl (λ entry has. has) m.mirrors.tells
          (λ i c k. (let old = at_map (gone_from n) s.connections k in
          record {
            old = old.0;
            there = old.1;
            like = subst (λ x. IsLike old.0 x) (sym old.2) (gone_or_not (λ x. IsLike old.0 x) n old.0 (λ _. without_like old.0) (λ _. same_like old.0));
          }))
          (λ i c k. (let old = at_map (gone_from n) s.connections k in
          let f = m.mirrors.flows i old.0 old.1 in
          subst (λ x. FlowsOf w.sent w.replies (lines_of s.loops) seats' x) (sym old.2)
          (gone_or_not (λ x. FlowsOf w.sent w.replies (lines_of s.loops) seats' x) n old.0
          (λ _. without_flow w.sent w.replies (lines_of s.loops) (seats_of s.nodes) seats' old.0 f)
          (λ other. seated_flow w.sent w.replies (lines_of s.loops) (seats_of s.nodes) n end.loop.clients loop'.clients old.0 (at_mapped (λ (x : NodeEnd). x.loop.clients) home)
          (λ same. absurd (other same)) f))));
    }
