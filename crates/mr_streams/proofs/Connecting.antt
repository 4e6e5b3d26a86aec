-- A connection is made.
use Rattle.std.proofs.Common.{◌≡◌, ◌≢◌, ℕ, ◌<◌, ◌==◌, ◌&&◌, inl, inr, Bool, true, false, List, [], ◌∷◌, ◌++◌, map, slice_set, length, get_or, Some, if◌then◌else◌, refl, sym, ap, ◌∙◌, subst, eq-eqb}
use Rattle.std.proofs.lemmas.List.{map-set}
use Rattle.std.proofs.lemmas.Option.{slice_get-get_or}
use Rattle.mr_clock.specs.Readings.{Tick}
use Rattle.mr_history.specs.Places.{At}
use Rattle.mr_node.specs.Recency.{CacheView}
use Rattle.mr_loop.specs.Links.{up_link}
use Rattle.mr_loop.specs.LoopView.{LoopView, LinkComesUp, with_link}
use Rattle.mr_loop.specs.declared.link.Link.{Link}
use Rattle.mr_loop.specs.declared.node.client.NodeClient.{NodeClient}
use Rattle.mr_loop.specs.declared.sent_legs.SentLeg.{SentLeg}
use Rattle.mr_loop.specs.node.NodeView.{NodeView, after_node_coming, fresh_node_client}
use Rattle.mr_world.specs.Positions.{node_number}
use Rattle.mr_world.specs.WorldView.{WorldView}
use Rattle.mr_world.specs.declared.message.Delivery.{Delivery}
use Rattle.mr_world.specs.declared.message.Message.{Message}
use Rattle.mr_streams.specs.Fleet.{ticks_of}
use Rattle.mr_streams.specs.OneNode.{holding}
use Rattle.mr_streams.specs.Steps.{left_over, fresh_connection, names_of, with_node}
use Rattle.mr_streams.specs.StreamsView.{StreamsView, NodeEnd, Connection, cores_of, world_nodes}
use Rattle.mr_streams.proofs.Changing.{IsLike, made_mirrors, same_like, here_elsewhere}
use Rattle.mr_streams.proofs.Lists.{at_map, at_mapped, at_written, at_elsewhere, at_one, same_or_not, written_back}
use Rattle.mr_streams.proofs.LoopEvents.{own_set}
use Rattle.mr_streams.proofs.LoopMoves.{with_parts, core_there, own_links, front_streams, runs_in}
use Rattle.mr_streams.proofs.Mirrors.{MirrorsStreams, FlowsOf, IsHere, IsAtHome, RunsTo, lines_of, seats_of, flows_left}
use Rattle.mr_streams.proofs.NodeEvents.{with_node_parts, quiet_node, node_there, seated_flow, still_but}
use Rattle.mr_streams.proofs.Runs.{still_tells, run_append, ticks_append}
use Rattle.mr_streams.proofs.Taking.{breaks_run}

-- one run behind the other
pub runs_behind : (w : WorldView) (first later : List Tick) (s t : StreamsView) (h : RunsTo w first s) → RunsTo h.world later t → RunsTo w (first ++ later) t
runs_behind w first later s t h k = record {
  world = k.world;
  happened = h.happened ++ k.happened;
  run = run_append h.happened k.happened w h.world k.world h.run k.run;
  ticks_are = ticks_append h.happened k.happened ∙ ap (λ x. x ++ ticks_of k.happened) h.ticks_are ∙ ap (λ x. first ++ x) k.ticks_are;
  mirrors = k.mirrors;
}

over_if : (b : Bool) (P : Connection → Type 0) (c : Connection) → (b ≡ true → P (record c { is_left = true })) → (b ≡ false → P c) → P (if b then record c { is_left = true } else c)
over_if true P c gone stays = gone refl
over_if false P c gone stays = stays refl

not_both : (a b x y : ℕ) → ((a == x) && (b == y)) ≡ false → a ≡ x → b ≢ y
not_both a b x y e same other =
    let first : (a == x) ≡ true = eq-eqb a x same in
    let second : (b == y) ≡ true = eq-eqb b y other in
    let no : true ≡ false = sym (ap (λ k. k && (b == y)) first ∙ second) ∙ e in
    cc

-- a connection over that link is left, and any other stays
pub over_or_not : (P : Connection → Type 0) (p link : ℕ) (c : Connection) → P (record c { is_left = true }) → ((c.proxy ≡ p → c.link ≢ link) → P c) → P (left_over p link c)
over_or_not P p link c gone stays = over_if ((c.proxy == p) && (c.link == link)) P c (λ e. gone) (λ e. stays (not_both c.proxy c.link p link e))

left_like : (c : Connection) → IsLike c (record c { is_left = true })
left_like c = record { proxy = refl; link = refl; node = refl; place = λ place e. e; here = λ e. absurd (let no : true ≡ false = e in cc) }

over_like : (p link : ℕ) (c : Connection) → IsLike c (left_over p link c)
over_like p link c = over_or_not (λ x. IsLike c x) p link c (left_like c) (λ _. same_like c)

-- the proxy's end of a connection over another link
pub here_kept : (lines : List (List Link)) (p node : ℕ) (links : List Link) (link' : Link) (c : Connection) (legs : List SentLeg) (front out : List ℕ) → At lines p links → c.proxy ≡ p → c.link ≢ node
    → IsHere lines c legs front out → IsHere (slice_set lines p (slice_set links node link')) c legs front out
here_kept lines p node links link' c legs front out there same other h =
    let own : links ≡ h.links = at_one there (subst (λ n. At lines n h.links) same h.home) in
    let links' : List Link = slice_set links node link' in
    record {
      links = links';
      link = h.link;
      home = subst (λ n. At (slice_set lines p links') n links') (sym same) (at_written links' there);
      there = at_elsewhere link' other (subst (λ x. At x c.link h.link) (sym own) h.there);
      is_up = h.is_up;
      legs_are = h.legs_are;
      kept = h.kept;
      out_is = h.out_is;
    }

over_flow : (messages : List Message) (deliveries : List Delivery) (lines : List (List Link)) (seats : List (List NodeClient)) (p node : ℕ) (links : List Link) (link' : Link) (c : Connection)
    → At lines p links → FlowsOf messages deliveries lines seats c → FlowsOf messages deliveries (slice_set lines p (slice_set links node link')) seats (left_over p node c)
over_flow messages deliveries lines seats p node links link' c there h =
    let lines' : List (List Link) = slice_set lines p (slice_set links node link') in
    over_or_not (λ x. FlowsOf messages deliveries lines' seats x) p node c (flows_left messages deliveries lines lines' seats c h) (λ other. record {
      returning = h.returning;
      going = h.going;
      front = h.front;
      tail = h.tail;
      kept = h.kept;
      out = h.out;
      is_deaf = h.is_deaf;
      busy = h.busy;
      here = λ e. elim (same_or_not c.proxy p) [
        | inl same ↦ here_kept lines p node links link' c (h.returning ++ h.going) h.front h.out there same (other same) (h.here e)
        | inr ne ↦ here_elsewhere lines p (slice_set links node link') c (h.returning ++ h.going) h.front h.out ne (h.here e)
      ];
      opens = h.opens;
    })

-- the proxy's side: the link comes up, and what it was before is left
comes_up : (w : WorldView) (s : StreamsView) (p node now : ℕ) (loop loop' : LoopView) (m : MirrorsStreams w s) (home : At s.loops p loop) (l : LinkComesUp node now loop loop')
    → RunsTo w [] (with_parts s p (with_link loop l.front' node (up_link l.link'.counts)) (map (left_over p node) s.connections) s.history)
comes_up w s p node now loop loop' m home l =
    let new : Link = up_link l.link'.counts in
    let explicit : LoopView = with_link loop l.front' node new in
    let there : At loop.links node l.link = record { gets = l.there } in
    let own = own_links w s p loop m home in
    let front = breaks_run now l.link l.link' loop.front l.front' w p (core_there w s p loop m home) (own node l.link there) l.breaks in
    front_streams w s p loop explicit (map (left_over p node) s.connections) s.history front m home (m.legal p loop home)
    (still_tells w.history front.so.world.history s.history front.so.gains m.mirrors.tells)
    (own_set p loop.links node new own tt)
    (λ i c k. (let old = at_map (left_over p node) s.connections k in
    record { old = old.0; there = old.1; like = subst (λ x. IsLike old.0 x) (sym old.2) (over_like p node old.0) }))
    (λ i c k. (let old = at_map (left_over p node) s.connections k in
    subst (λ x. FlowsOf w.sent w.replies (slice_set (lines_of s.loops) p explicit.links) (seats_of s.nodes) x) (sym old.2)
    (over_flow w.sent w.replies (lines_of s.loops) (seats_of s.nodes) p node loop.links new old.0 (at_mapped (λ (x : LoopView). x.links) home) (m.mirrors.flows i old.0 old.1))))

-- the node's side: a client comes to a place that no connection has
module _ (s : StreamsView) (p node place : ℕ) (end : NodeEnd) (connections : List Connection) where
  abbrev came_to : NodeView CacheView
  came_to = after_node_coming place end.loop

  comes_in : (w : WorldView) → MirrorsStreams w s → At s.nodes node end → s.connections ≡ connections
      → ((i : ℕ) (c : Connection) → At connections i c → c.node ≡ node → c.place ≢ Some place)
      → RunsTo w [] (with_node_parts s node end came_to s.connections s.history)
  comes_in w m there same free =
      quiet_node w s node end came_to s.connections m there refl (λ i c k. record { old = c; there = k; like = same_like c })
      (λ i c k. seated_flow w.sent w.replies (lines_of s.loops) (seats_of s.nodes) node end.loop.clients came_to.clients c (at_mapped (λ (x : NodeEnd). x.loop.clients) there)
      (λ at_node other is. still_but end.loop.clients place other fresh_node_client (λ same_place. free i c (subst (λ x. At x i c) same k) at_node (is ∙ ap (λ x. Some x) same_place)))
      (m.mirrors.flows i c k))

-- a connection is made
pub connects : (w : WorldView) (s : StreamsView) (p link node place now : ℕ) (loop loop' : LoopView) (end : NodeEnd) → MirrorsStreams w s → At s.loops p loop → LinkComesUp link now loop loop'
    → At s.nodes node end → At (names_of loop.front.core.routing) link end.name → place < length end.loop.clients
    → ((i : ℕ) (c : Connection) → At s.connections i c → c.node ≡ node → c.place ≢ Some place)
    → RunsTo w [] (record (with_node node end (after_node_coming place end.loop) s) {
      loops = slice_set s.loops p loop';
      connections = map (left_over p link) s.connections ++ fresh_connection p link node place ∷ [];
    })
connects w s p link node place now loop loop' end m home l there named within is_free =
    let numbered : node ≡ node_number (world_nodes s.nodes) end.name = sym (m.mirrors.named node (holding end.name end.loop.cache) (node_there s node end there)) in
    let new : Link = up_link l.link'.counts in
    let explicit : LoopView = with_link loop l.front' link new in
    let connections : List Connection = map (left_over p link) s.connections in
    let s1 : StreamsView = with_parts s p explicit connections s.history in
    let up : RunsTo w [] s1 = comes_up w s p link now loop loop' m home l in
    let free : (i : ℕ) (c : Connection) → At connections i c → c.node ≡ node → c.place ≢ Some place = λ i c k at_node at_place. (
    let old = at_map (left_over p link) s.connections k in
    let like : IsLike old.0 c = subst (λ x. IsLike old.0 x) (sym old.2) (over_like p link old.0) in
    is_free i old.0 old.1 (sym like.node ∙ at_node) (like.place place at_place)) in
    let loop_there : At s1.loops p explicit = at_written explicit home in
    let s2 : StreamsView = with_node_parts s1 node end (after_node_coming place end.loop) connections s.history in
    let seated : RunsTo up.world [] s2 = comes_in s1 p node place end connections up.world up.mirrors there refl free in
    let m2 = seated.mirrors in
    let w2 : WorldView = seated.world in
    let c : Connection = fresh_connection p link node place in
    let end' : NodeEnd = record end { loop = after_node_coming place end.loop } in
    let end_there : At s2.nodes node end' = at_written end' there in
    let link_there : At explicit.links link new = at_written new (let t : At loop.links link l.link = record { gets = l.there } in t) in
    let client_there : At end.loop.clients place (get_or end.loop.clients place fresh_node_client) =
    record { gets = slice_get-get_or end.loop.clients place fresh_node_client within } in
    let flow : FlowsOf w2.sent w2.replies (lines_of s2.loops) (seats_of s2.nodes) c = record {
      returning = [];
      going = [];
      front = [];
      tail = [];
      kept = [];
      out = [];
      is_deaf = false;
      busy = record { replies = refl; requests = λ _. record { texts = refl; sent = tt } };
      here = λ _. record {
        links = explicit.links;
        link = new;
        home = at_mapped (λ (x : LoopView). x.links) loop_there;
        there = link_there;
        is_up = refl;
        legs_are = refl;
        kept = refl;
        out_is = refl;
      };
      opens = λ k e. (
          let same : place ≡ k = (let both : Some place ≡ Some k = e in cc) in
          record {
            clients = end'.loop.clients;
            client = fresh_node_client;
            home = at_mapped (λ (x : NodeEnd). x.loop.clients) end_there;
            there = subst (λ n. At end'.loop.clients n fresh_node_client) same (at_written fresh_node_client client_there);
            deaf = refl;
            kept_is = refl;
            tail_is = refl;
            reads_on = λ _. record { not_closed = refl; ended = λ e. absurd (let no : false ≡ true = e in cc) };
          });
    } in
    let front = breaks_run now l.link l.link' loop.front l.front' w p (core_there w s p loop m home)
    (own_links w s p loop m home link l.link (record { gets = l.there })) l.breaks in
    let kin = front.so.kin loop.front.core (core_there w s p loop m home) in
    let names : world_nodes s2.nodes ≡ world_nodes s.nodes =
    map-set (λ (x : NodeEnd). holding x.name x.loop.cache) s.nodes node end' ∙ written_back (node_there s node end there) in
    let at_home : IsAtHome (cores_of s2.loops) (world_nodes s2.nodes) c = record {
      core = l.front'.core;
      name = end.name;
      home = at_mapped (λ (x : LoopView). x.front.core) loop_there;
      named = subst (λ r. At (names_of r) link end.name) (sym kin.routing) named;
      numbered = numbered ∙ ap (λ x. node_number x end.name) (sym names);
    } in
    let made = made_mirrors w2 s2.readings (cores_of s2.loops) (lines_of s2.loops) (world_nodes s2.nodes) (seats_of s2.nodes) connections s.history c m2.mirrors flow at_home
    (λ i d k here same_proxy same_link. (
    let old = at_map (left_over p link) s.connections k in
    over_or_not (λ x. x.is_left ≡ false → x.proxy ≡ p → x.link ≡ link → ⊥) p link old.0 (λ e _ _. (let no : true ≡ false = e in cc)) (λ other _ a b. other a b)
    (subst (λ (x : Connection). x.is_left ≡ false) old.2 here) (subst (λ (x : Connection). x.proxy ≡ p) old.2 same_proxy) (subst (λ (x : Connection). x.link ≡ link) old.2 same_link)))
    (λ i k d a e f same_node. free i d a same_node (e ∙ sym f)) in
    let s3 : StreamsView = record s2 { connections = connections ++ c ∷ [] } in
    let last : RunsTo up.world [] s3 = record {
      world = w2;
      happened = seated.happened;
      run = seated.run;
      ticks_are = seated.ticks_are;
      mirrors = record { mirrors = made; known = m2.known; legal = m2.legal };
    } in
    runs_in w [] s3 _ (ap (λ x. record (with_node node end (after_node_coming place end.loop) s) {
      loops = slice_set s.loops p x;
      connections = connections ++ c ∷ [];
    }) l.becomes)
    (runs_behind w [] [] s1 s3 up last)
