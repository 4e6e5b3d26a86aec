-- What happens on the proxy's side of a connection: bytes leave the loop and reach it, a proxy restarts, a client is answered.
use Rattle.std.proofs.Common.{◌≡◌, ◌≢◌, ℕ, suc, ◌+◌, ◌-◌, ◌^◌, inl, inr, Bool, true, false, List, [], ◌∷◌, ◌++◌, map, slice_get, slice_set, drop, length, Some, if◌then◌else◌, refl, sym, ap, ◌∙◌, subst, append_assoc}
use Rattle.std.proofs.lemmas.List.{append-nil, drop_at}
use Rattle.mr_history.specs.Places.{At}
use Rattle.mr_history.specs.declared.entry.Entry.{Entry}
use Rattle.mr_history.specs.declared.entry.Entry.TheVariants as entry
use Rattle.mr_node.specs.Output.{is_silent}
use Rattle.mr_proxy.specs.Answer.{AnswerView, reply_of}
use Rattle.mr_proxy.specs.Transitions.{after_restart}
use Rattle.mr_loop.specs.Counts.{no_link_counts}
use Rattle.mr_loop.specs.Links.{down_link, is_up_at, is_up_in}
use Rattle.mr_loop.specs.LoopView.{LoopView, LinkBytes, LinkWrote, with_link, link_output_in, fresh_loop, nodes_of}
use Rattle.mr_loop.specs.declared.client.Client.{Client}
use Rattle.mr_loop.specs.declared.link.Link.{Link}
use Rattle.mr_loop.specs.declared.link.LinkEnd.{LinkEnd}
use Rattle.mr_loop.specs.declared.node.client.NodeClient.{NodeClient}
use Rattle.mr_loop.specs.declared.turns.Turn.{Turn}
use Rattle.mr_loop.specs.declared.turns.Turn.TheVariants.{Waits, Answered, Says}
use Rattle.mr_world.specs.Lists.{Has}
use Rattle.mr_world.specs.WorldView.{WorldView}
use Rattle.mr_world.specs.declared.event.Event.TheVariants as event
use Rattle.mr_world.specs.declared.note.Note.TheVariants as note
use Rattle.mr_streams.specs.Entries.{told_by, told_in}
use Rattle.mr_streams.specs.Fleet.{FleetEvent}
use Rattle.mr_streams.specs.Flows.{AreReplies, AreOf}
use Rattle.mr_streams.specs.OneLink.{Awaits}
use Rattle.mr_streams.specs.OneNode.{IsBusy}
use Rattle.mr_streams.specs.OneProxy.{AreKnown, KnowsTurns, FrontRuns}
use Rattle.mr_streams.specs.Refines.{Tells}
use Rattle.mr_streams.specs.Steps.{CrossesLink, left_if_down, with_loop, with_connection, with_entries}
use Rattle.mr_streams.specs.StreamsView.{StreamsView, Connection}
use Rattle.mr_streams.specs.Putting.{PutsTexts}
use Rattle.mr_streams.proofs.Changing.{IsLike, IsSameLink, moved_flow, down_like, like_on, unless_down}
use Rattle.mr_streams.proofs.Fronts.{front_stays}
use Rattle.mr_streams.proofs.Lists.{at_map, at_mapped, at_set, at_one, at_left, at_right, at_written, at_replicate, at_nothing}
use Rattle.mr_streams.proofs.LoopEvents.{front_same, own_set, all_same}
use Rattle.mr_streams.proofs.LoopMoves.{core_there, own_links, loop_streams, front_streams, moves_to, runs_in}
use Rattle.mr_streams.proofs.Mirrors.{MirrorsStreams, FlowsOf, IsOpen, RunsTo, lines_of, seats_of, flows_left}
use Rattle.mr_streams.proofs.Runs.{still_tells}
use Rattle.mr_streams.proofs.Spellings.{ReplyLaws}
use Rattle.mr_streams.proofs.Taking.{bytes_taken}

-- a link that isn't written is as it was
pub elsewhere_same : (links : List Link) (node place : ℕ) (link' : Link) → place ≢ node → IsSameLink links (slice_set links node link') place
elsewhere_same links node place link' other = λ old new h k was is.
    elim (at_set links node link' k) [
      | inl e ↦ absurd (other e.0)
      | inr e ↦ (let one : old ≡ new = at_one h e.1 in
          (ap (λ (x : Link). x.legs) (sym one), ap (λ (x : Link). x.reader.kept) (sym one), ap (λ (x : Link). x.out) (sym one)))
    ]

-- no link is up once a proxy restarts
pub restarted_same : (loop : LoopView) (place : ℕ) → IsSameLink loop.links (fresh_loop (after_restart loop.front.core) loop.limits).links place
restarted_same loop place = λ link new a b was up.
    absurd (let no : false ≡ true = ap (λ (x : Link). x.is_up) (sym (at_replicate (nodes_of (after_restart loop.front.core).routing) (down_link no_link_counts) b)) ∙ up in cc)

-- a proxy restarts
pub restarted : (w : WorldView) (s : StreamsView) (p : ℕ) (loop : LoopView) → MirrorsStreams w s → At s.loops p loop → loop.front.core.incarnation ≢ 2 ^ 64 - 1
    → RunsTo w [] (with_loop p (fresh_loop (after_restart loop.front.core) loop.limits) s)
restarted w s p loop m home not_last =
    let core = after_restart loop.front.core in
    let explicit : LoopView = fresh_loop core loop.limits in
    let world : WorldView = record w { proxies = slice_set w.proxies p core } in
    let connections' : List Connection = map (left_if_down p explicit) s.connections in
    let down : Link = down_link no_link_counts in
    let is = loop_streams w world s p loop explicit connections' s.history m home (record { number = refl; routing = refl; schedule = refl }) refl refl refl m.known
    (λ place client there. absurd (at_nothing there)) (λ place inbox there. absurd (at_nothing there)) m.mirrors.tells
    (λ place link there. subst (λ (x : Link). AreOf p x.legs) (sym (at_replicate (nodes_of core.routing) down there)) tt)
    (λ i c k. (let old = at_map (left_if_down p explicit) s.connections k in
    record { old = old.0; there = old.1; like = subst (λ x. IsLike old.0 x) (sym old.2) (down_like p explicit old.0) }))
    (λ i c k. (let old = at_map (left_if_down p explicit) s.connections k in
    subst (λ x. FlowsOf w.sent w.replies (slice_set (lines_of s.loops) p explicit.links) (seats_of s.nodes) x) (sym old.2)
    (moved_flow w.sent w.replies (lines_of s.loops) (seats_of s.nodes) p loop explicit old.0 (at_mapped (λ (l : LoopView). l.links) home) (m.mirrors.flows i old.0 old.1)
    (λ here same. restarted_same loop old.0.link)))) in
    record {
      world = world;
      happened = FleetEvent.Happens (event.ProxyRestart p) ∷ [];
      run = (
        world,
        (
          note.Nothing,
          record {
            proxy = loop.front.core;
            home = core_there w s p loop m home;
            not_last = not_last;
            tells = refl;
            becomes = refl;
          },
        ),
        refl,
      );
      ticks_are = refl;
      mirrors = is;
    }

tells_unless : (told heard : List Entry) (answer : AnswerView) (silent : Bool) → (silent ≡ false → Has told (entry.Answered answer.op (reply_of answer))) → Tells told heard
    → Tells told (heard ++ (if silent then [] else entry.Answered answer.op (reply_of answer) ∷ []))
tells_unless told heard answer true known t = subst (λ h. Tells told h) (sym (append-nil heard)) t
tells_unless told heard answer false known t = Tells.answers answer.op (reply_of answer) t (known refl)

tells_turn : (told heard : List Entry) (turn : Turn) → ((answer : AnswerView) → turn ≡ Answered answer → is_silent answer.request ≡ false → Has told (entry.Answered answer.op (reply_of answer)))
    → Tells told heard → Tells told (heard ++ told_by turn)
tells_turn told heard (Waits op) known t = subst (λ h. Tells told h) (sym (append-nil heard)) t
tells_turn told heard (Answered answer) known t = tells_unless told heard answer (is_silent answer.request) (known answer refl) t
tells_turn told heard (Says reply) known t = subst (λ h. Tells told h) (sym (append-nil heard)) t

-- the answers at turns that are known are told
tells_turns : (told heard : List Entry) (turns : List Turn) → KnowsTurns told turns → Tells told heard → Tells told (heard ++ told_in turns)
tells_turns told heard [] known t = subst (λ h. Tells told h) (sym (append-nil heard)) t
tells_turns told heard (turn ∷ turns) known t =
    subst (λ h. Tells told h) (append_assoc heard (told_by turn) (told_in turns))
    (tells_turns told (heard ++ told_by turn) turns (λ place answer h wants. known (suc place) answer (record { gets = h.gets }) wants)
    (tells_turn told heard turn (λ answer e wants. known 0 answer (record { gets = ap (λ x. Some x) e }) wants) t))

-- a client is answered
pub answers : (w : WorldView) (s : StreamsView) (p client : ℕ) (loop loop' : LoopView) → MirrorsStreams w s → At s.loops p loop → (step : PutsTexts client loop loop')
    → RunsTo w [] (with_entries (told_in step.tells.told) (with_loop p loop' s))
answers w s p client loop loop' m home l =
    let new : Client = l.client in
    let put : List Turn = l.tells.told in
    let explicit : LoopView = record loop { front = record loop.front { clients = slice_set loop.front.clients client new } } in
    let all : KnowsTurns w.history (put ++ new.turns) = subst (λ t. KnowsTurns w.history t) l.tells.splits (m.known p loop home client l.was (record { gets = l.there })) in
    let first : KnowsTurns w.history put = λ place answer k wants. all place answer (at_left new.turns k) wants in
    let later : KnowsTurns w.history new.turns = λ place answer k wants. all (length put + place) answer (at_right put k) wants in
    let known : AreKnown w.history loop.front.clients → AreKnown w.history explicit.front.clients = λ known n other there. elim (at_set loop.front.clients client new there) [
      | inl e ↦ subst (λ (c : Client). KnowsTurns w.history c.turns) (sym e.1) later
      | inr e ↦ known n other e.1
    ] in
    let front = front_same w p loop.front explicit.front (core_there w s p loop m home) refl known in
    let told : Tells front.so.world.history (s.history ++ told_in put) = tells_turns w.history s.history put first m.mirrors.tells in
    let is = moves_to w s p loop explicit (s.history ++ told_in put) front m home (m.legal p loop home) told (own_links w s p loop m home) (λ place. all_same loop.links place) in
    runs_in w [] _ _ (ap (λ x. with_entries (told_in put) (with_loop p x s)) l.becomes) is

-- the connection that a step changes, and the others
module _ (w : WorldView) (s : StreamsView) (number : ℕ) (c c' : Connection) (loop : LoopView) (front' : _) (link link' : Link) where
  changed_streams : (m : MirrorsStreams w s) → At s.connections number c → c.is_left ≡ false → At s.loops c.proxy loop → At loop.links c.link link
      → (front : FrontRuns w c.proxy loop.front front') → AreOf c.proxy link'.legs → IsLike c c'
      → FlowsOf w.sent w.replies (slice_set (lines_of s.loops) c.proxy (slice_set loop.links c.link link')) (seats_of s.nodes) (left_if_down c.proxy (with_link loop front' c.link link') c')
      → RunsTo w [] (with_loop c.proxy (with_link loop front' c.link link') (with_connection number c' s))
  changed_streams m there here home link_there front own like flow =
      let p : ℕ = c.proxy in
      let loop' : LoopView = with_link loop front' c.link link' in
      let changed : List Connection = slice_set s.connections number c' in
      front_streams w s p loop loop' (map (left_if_down p loop') changed) s.history front m home (m.legal p loop home)
      (still_tells w.history front.so.world.history s.history front.so.gains m.mirrors.tells)
      (own_set p loop.links c.link link' (own_links w s p loop m home) own)
      (λ i d k. (let old = at_map (left_if_down p loop') changed k in
      elim (at_set s.connections number c' old.1) [
        | inl e ↦ record {
          old = c;
          there = subst (λ n. At s.connections n c) (sym e.0) there;
          like = subst (λ x. IsLike c x) (sym old.2) (subst (λ x. IsLike c (left_if_down p loop' x)) (sym e.1) (like_on c c' (left_if_down p loop' c') like (down_like p loop' c')));
        }
        | inr e ↦ record { old = old.0; there = e.1; like = subst (λ x. IsLike old.0 x) (sym old.2) (down_like p loop' old.0) }
      ]))
      (λ i d k. (let old = at_map (left_if_down p loop') changed k in
      subst (λ x. FlowsOf w.sent w.replies (slice_set (lines_of s.loops) p loop'.links) (seats_of s.nodes) x) (sym old.2)
      (elim (at_set s.connections number c' old.1) [
        | inl e ↦ subst (λ x. FlowsOf w.sent w.replies (slice_set (lines_of s.loops) p loop'.links) (seats_of s.nodes) (left_if_down p loop' x)) (sym e.1) flow
        | inr e ↦ moved_flow w.sent w.replies (lines_of s.loops) (seats_of s.nodes) p loop loop' old.0 (at_mapped (λ (l : LoopView). l.links) home) (m.mirrors.flows i old.0 e.1)
            (λ other_here same. elsewhere_same loop.links c.link old.0.link link' (λ same_link. e.0 (m.mirrors.one_link i number old.0 c e.1 there other_here here same same_link)))
      ])))

opens_back : (seats : List (List NodeClient)) (c : Connection) (place : ℕ) (kept tail : List ℕ) (is_deaf : Bool) (back : List ℕ) → IsOpen seats c place kept tail is_deaf
    → IsOpen seats (record c { back = back }) place kept tail is_deaf
opens_back seats c place kept tail is_deaf back o = record {
  clients = o.clients;
  client = o.client;
  home = o.home;
  there = o.there;
  deaf = o.deaf;
  kept_is = o.kept_is;
  tail_is = o.tail_is;
  reads_on = λ hears. (let r = o.reads_on hears in record { not_closed = r.not_closed; ended = r.ended });
}

-- bytes leave a loop
leaves : (w : WorldView) (s : StreamsView) (number : ℕ) (c : Connection) (loop new : LoopView) (piece rest : List ℕ) → MirrorsStreams w s
    → At s.connections number c → c.is_left ≡ false → At s.loops c.proxy loop
    → link_output_in (slice_get loop.links c.link) ≡ piece ++ rest → LinkWrote c.link (length piece) loop new
    → RunsTo w [] (with_loop c.proxy new (with_connection number (record c { forth = c.forth ++ piece }) s))
leaves w s number c loop new piece rest m at is_here home splits l =
    let p : ℕ = c.proxy in
    let link' : Link = record l.link { out = drop (length piece) l.link.out } in
    let c' : Connection = record c { forth = c.forth ++ piece } in
    let there : At loop.links c.link l.link = record { gets = l.there } in
    let f = m.mirrors.flows number c at in
    let old = f.here is_here in
    let lines_there : At (lines_of s.loops) p loop.links = at_mapped (λ (x : LoopView). x.links) home in
    let links : loop.links ≡ old.links = at_one lines_there old.home in
    let one : l.link ≡ old.link = at_one there (subst (λ x. At x c.link old.link) (sym links) old.there) in
    let out : l.link.out ≡ piece ++ rest = ap link_output_in (sym l.there) ∙ splits in
    let left : link'.out ≡ rest = ap (λ x. drop (length piece) x) out ∙ drop_at piece rest (length piece) refl in
    let was : f.out ≡ piece ++ rest = sym old.out_is ∙ ap (λ (x : Link). x.out) (sym one) ∙ out in
    let texts : f.kept ++ (c.forth ++ f.out) ≡ f.kept ++ ((c.forth ++ piece) ++ rest) =
    ap (λ x. f.kept ++ x) (ap (λ x. c.forth ++ x) was ∙ sym (append_assoc c.forth piece rest)) in
    let lines' : List (List Link) = slice_set (lines_of s.loops) p (slice_set loop.links c.link link') in
    let flow : FlowsOf w.sent w.replies lines' (seats_of s.nodes) c' = record {
      returning = f.returning;
      going = f.going;
      front = f.front;
      tail = f.tail;
      kept = f.kept;
      out = rest;
      is_deaf = f.is_deaf;
      busy = subst (λ x. IsBusy w.sent w.replies c.node f.is_deaf f.returning f.going (f.front ++ (c.back ++ f.tail)) x) texts f.busy;
      here = λ _. record {
        links = slice_set loop.links c.link link';
        link = link';
        home = at_written (slice_set loop.links c.link link') lines_there;
        there = at_written link' there;
        is_up = ap (λ (x : Link). x.is_up) one ∙ old.is_up;
        legs_are = ap (λ (x : Link). x.legs) one ∙ old.legs_are;
        kept = ap (λ (x : Link). x.reader.kept) one ∙ old.kept;
        out_is = left;
      };
      opens = λ place e. (let o = f.opens place e in record {
        clients = o.clients;
        client = o.client;
        home = o.home;
        there = o.there;
        deaf = o.deaf;
        kept_is = o.kept_is;
        tail_is = o.tail_is;
        reads_on = λ hears. (let r = o.reads_on hears in record {
          not_closed = r.not_closed;
          ended = λ ends. absurd (let no : false ≡ true = sym is_here ∙ (r.ended ends).0 in cc);
        });
      });
    } in
    let loop' : LoopView = with_link loop loop.front c.link link' in
    let is = changed_streams w s number c c' loop loop.front l.link link' m at is_here home there (front_stays w p loop.front (core_there w s p loop m home))
    (own_links w s p loop m home c.link l.link there) (record { proxy = refl; link = refl; node = refl; place = λ place e. e; here = λ e. e })
    (unless_down (λ x. FlowsOf w.sent w.replies lines' (seats_of s.nodes) x) p loop' c' (flows_left w.sent w.replies lines' lines' (seats_of s.nodes) c' flow) (λ _. flow)) in
    runs_in w [] (with_loop p loop' (with_connection number c' s)) _ (ap (λ x. with_loop p x (with_connection number c' s)) l.becomes) is

-- bytes reach a loop
reaches : ReplyLaws → (w : WorldView) (s : StreamsView) (number now : ℕ) (c : Connection) (loop new : LoopView) (end : LinkEnd) (piece rest : List ℕ) → MirrorsStreams w s
    → At s.connections number c → c.is_left ≡ false → At s.loops c.proxy loop → c.back ≡ piece ++ rest → LinkBytes c.link now piece loop end new
    → RunsTo w [] (with_loop c.proxy new (with_connection number (record c { back = rest }) s))
reaches laws w s number now c loop new end piece rest m at is_here home splits l =
    let p : ℕ = c.proxy in
    let c' : Connection = record c { back = rest } in
    let there : At loop.links c.link l.link = record { gets = l.there } in
    let f = m.mirrors.flows number c at in
    let old = f.here is_here in
    let lines_there : At (lines_of s.loops) p loop.links = at_mapped (λ (x : LoopView). x.links) home in
    let links : loop.links ≡ old.links = at_one lines_there old.home in
    let one : l.link ≡ old.link = at_one there (subst (λ x. At x c.link old.link) (sym links) old.there) in
    let own = own_links w s p loop m home in
    let front : f.front ≡ l.link.reader.kept = sym old.kept ∙ ap (λ (x : Link). x.reader.kept) (sym one) in
    let regrouped : f.front ++ (c.back ++ f.tail) ≡ (f.front ++ piece) ++ (rest ++ f.tail) =
    ap (λ x. f.front ++ (x ++ f.tail)) splits ∙ ap (λ x. f.front ++ x) (append_assoc piece rest f.tail) ∙ sym (append_assoc f.front piece (rest ++ f.tail)) in
    let replies : AreReplies w.sent w.replies f.returning ((f.front ++ piece) ++ (rest ++ f.tail)) = subst (λ x. AreReplies w.sent w.replies f.returning x) regrouped f.busy.replies in
    let awaits : Awaits w.sent w.replies w p loop.front.core l.link.legs f.going ((l.link.reader.kept ++ piece) ++ (rest ++ f.tail)) = record {
      returning = f.returning;
      splits = ap (λ (x : Link). x.legs) one ∙ old.legs_are;
      replies = subst (λ x. AreReplies w.sent w.replies f.returning ((x ++ piece) ++ (rest ++ f.tail))) front replies;
      own = own c.link l.link there;
      sent = refl;
      replied = refl;
      there = core_there w s p loop m home;
    } in
    let taken = bytes_taken laws w.sent w.replies w p now piece (rest ++ f.tail) end l.link l.link' loop.front l.front' f.going awaits l.takes in
    let lines' : List (List Link) = slice_set (lines_of s.loops) p (slice_set loop.links c.link l.link') in
    let loop' : LoopView = with_link loop l.front' c.link l.link' in
    let new_there : At loop'.links c.link l.link' = at_written l.link' there in
    let left : FlowsOf w.sent w.replies lines' (seats_of s.nodes) (record c' { is_left = true }) = record {
      returning = f.returning;
      going = f.going;
      front = f.front ++ piece;
      tail = f.tail;
      kept = f.kept;
      out = f.out;
      is_deaf = f.is_deaf;
      busy = record { replies = replies; requests = f.busy.requests };
      here = λ e. absurd (let no : true ≡ false = e in cc);
      opens = λ place e. (let o = f.opens place e in record {
        clients = o.clients;
        client = o.client;
        home = o.home;
        there = o.there;
        deaf = o.deaf;
        kept_is = o.kept_is;
        tail_is = o.tail_is;
        reads_on = λ hears. (let r = o.reads_on hears in record { not_closed = r.not_closed; ended = λ ends. (refl, (r.ended ends).1) });
      });
    } in
    let like : IsLike c c' = record { proxy = refl; link = refl; node = refl; place = λ place e. e; here = λ e. e } in
    runs_in w [] (with_loop p loop' (with_connection number c' s)) _ (ap (λ x. with_loop p x (with_connection number c' s)) l.becomes)
    (elim taken.left [
      | inl goes ↦ (
          let a = goes.2 in
          changed_streams w s number c c' loop l.front' l.link l.link' m at is_here home there taken.run a.own like
          (unless_down (λ x. FlowsOf w.sent w.replies lines' (seats_of s.nodes) x) p loop' c' left (λ _. record {
            returning = a.returning;
            going = f.going;
            front = l.link'.reader.kept;
            tail = f.tail;
            kept = f.kept;
            out = f.out;
            is_deaf = f.is_deaf;
            busy = record { replies = a.replies; requests = f.busy.requests };
            here = λ _. record {
              links = slice_set loop.links c.link l.link';
              link = l.link';
              home = at_written (slice_set loop.links c.link l.link') lines_there;
              there = new_there;
              is_up = goes.0 ∙ ap (λ (x : Link). x.is_up) one ∙ old.is_up;
              legs_are = a.splits;
              kept = refl;
              out_is = goes.1 ∙ ap (λ (x : Link). x.out) one ∙ old.out_is;
            };
            opens = λ place e. opens_back (seats_of s.nodes) c place f.kept f.tail f.is_deaf rest (f.opens place e);
          })))
      | inr down ↦ (
          let none : is_up_at loop'.links c.link ≡ false = ap is_up_in new_there.gets ∙ down.0 in
          changed_streams w s number c c' loop l.front' l.link l.link' m at is_here home there taken.run down.1 like
          (unless_down (λ x. FlowsOf w.sent w.replies lines' (seats_of s.nodes) x) p loop' c' left (λ where'. absurd (elim where' [
            | inl other ↦ other refl
            | inr up ↦ (let no : false ≡ true = sym none ∙ up.1 in cc)
          ]))))
    ])

-- bytes cross the proxy's end of a connection
pub link_runs : ReplyLaws → (w : WorldView) (s : StreamsView) (number : ℕ) (c c' : Connection) (loop loop' : LoopView) → MirrorsStreams w s
    → At s.connections number c → c.is_left ≡ false → At s.loops c.proxy loop → CrossesLink c loop c' loop' → RunsTo w [] (with_loop c.proxy loop' (with_connection number c' s))
link_runs laws w s number c c' loop loop' m there is_here home (CrossesLink.leaves piece rest splits step) = leaves w s number c loop loop' piece rest m there is_here home splits step
link_runs laws w s number c c' loop loop' m there is_here home (CrossesLink.reaches {end = end} now piece rest splits step) =
    reaches laws w s number now c loop loop' end piece rest m there is_here home splits step
