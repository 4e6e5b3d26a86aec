-- What a client asks is issued in the world, and its legs are messages.
use Rattle.std.proofs.Common.{◌≡◌, ℕ, suc, ◌+◌, ◌==◌, inl, inr, Bool, true, false, List, [], ◌∷◌, ◌++◌, length, map, slice_get, slice_set, Option, Some, None, if◌then◌else◌, refl, sym, ap, ◌∙◌, subst, append_assoc, arith, eq-eqb, ne_eqb}
use Rattle.std.specs.List.{AllByRecursion}
use Rattle.std.proofs.lemmas.List.{append-nil, set-set}
use Rattle.mr_text.specs.Valid.{IsValidRequest}
use Rattle.mr_text.specs.declared.cause.Cause.{Cause}
use Rattle.mr_text.specs.declared.cause.Cause.TheVariants as cause
use Rattle.mr_text.specs.declared.reply.Reply.{Reply}
use Rattle.mr_text.specs.declared.request.Request.{Request}
use Rattle.mr_text.specs.declared.request.Request.TheVariants as request
use Rattle.mr_history.specs.Places.{At}
use Rattle.mr_history.specs.declared.entry.Entry.{Entry}
use Rattle.mr_history.specs.declared.entry.Entry.TheVariants as entry
use Rattle.mr_history.specs.declared.op_id.OpId.{OpId}
use Rattle.mr_node.specs.Output.{reply_to_refusal}
use Rattle.mr_pools.specs.Names.{HasNode, name_at}
use Rattle.mr_pools.specs.Routing.{RoutingView}
use Rattle.mr_proxy.specs.Issue.{next_op, sheets_of, refusal_of, after_issue, used_reading}
use Rattle.mr_proxy.specs.NodeRequests.{request_for}
use Rattle.mr_proxy.specs.Pending.{PendingView}
use Rattle.mr_proxy.specs.ProxyView.{ProxyView}
use Rattle.mr_proxy.specs.Sheets.{pool_at}
use Rattle.mr_proxy.specs.Sound.{HasLegs}
use Rattle.mr_proxy.specs.Transitions.{after_give_up, left_by, place_of_op, pending_with}
use Rattle.mr_proxy.specs.declared.sheet.LegSheet.{LegSheet}
use Rattle.mr_proxy.specs.declared.step.Step.TheVariants.{Issue, GiveUp}
use Rattle.mr_loop.specs.Asking.{Asking, DoesAll, IsDoneFor, HasNoMemory, begins, denies, denial, fails, tells}
use Rattle.mr_loop.specs.Events.{FrontView, Event, after_event, after_all, with_turn}
use Rattle.mr_loop.specs.Links.{all_sent, all_up, link_of}
use Rattle.mr_loop.specs.LoopView.{LoopView}
use Rattle.mr_loop.specs.declared.asker.Asker.{Asker}
use Rattle.mr_loop.specs.declared.client.Client.{Client}
use Rattle.mr_loop.specs.declared.inbox.Inbox.{Inbox}
use Rattle.mr_loop.specs.declared.inbox.Input.{Input}
use Rattle.mr_loop.specs.declared.inbox.Input.TheVariants as input
use Rattle.mr_loop.specs.declared.link.Link.{Link}
use Rattle.mr_loop.specs.declared.turns.Turn.TheVariants.{Waits, Says}
use Rattle.mr_world.specs.Positions.{node_number}
use Rattle.mr_world.specs.Steps.{Issues, ClientAsks, message_of}
use Rattle.mr_world.specs.WorldView.{WorldView}
use Rattle.mr_world.specs.declared.event.Event.TheVariants as event
use Rattle.mr_world.specs.declared.message.Message.{Message}
use Rattle.mr_world.specs.declared.node.Node.{Node}
use Rattle.mr_world.specs.declared.note.Note.{Note}
use Rattle.mr_world.specs.declared.note.Note.TheVariants as note
use Rattle.mr_streams.specs.Entries.{issued_by, issued_in}
use Rattle.mr_streams.specs.Fleet.{FleetEvent}
use Rattle.mr_streams.specs.Flows.{AreOf}
use Rattle.mr_streams.specs.OneProxy.{AreKnown, FrontRuns}
use Rattle.mr_streams.specs.Refines.{Tells}
use Rattle.mr_streams.specs.Steps.{names_of}
use Rattle.mr_streams.specs.StreamsView.{StreamsView, Connection, cores_of, world_nodes}
use Rattle.mr_streams.proofs.Changing.{same_like}
use Rattle.mr_streams.proofs.Connecting.{runs_behind}
use Rattle.mr_streams.proofs.Fronts.{front_stays, front_on, front_to, front_does, front_alone, has_left, known_changed, known_waits, known_says}
use Rattle.mr_streams.proofs.Legal.{came_legal, came_held}
use Rattle.mr_streams.proofs.Lists.{at_left, at_new, at_one, at_mapped, at_written, written_back}
use Rattle.mr_streams.proofs.LoopEvents.{front_same}
use Rattle.mr_streams.proofs.LoopMoves.{with_parts, core_there, own_links, loop_streams, front_streams, runs_in}
use Rattle.mr_streams.proofs.Mirrors.{MirrorsStreams, FlowsOf, IsAtHome, IsLegal, IsLegalInput, RunsTo, lines_of, seats_of, flows_still}
use Rattle.mr_streams.proofs.Placing.{SheetLaws, link_named, sheet_placed}
use Rattle.mr_streams.proofs.Runs.{still_tells, gives_up}
use Rattle.mr_streams.proofs.Sending.{GoesHome, legs_over, own_all_sent}
use Rattle.mr_streams.proofs.Travels.{IsReadableSheet, legs_fit}

-- a client is told something beside its answers
tells_run : (client : ℕ) (o : Option Reply) (w : WorldView) (p : ℕ) (front : FrontView) → At w.proxies p front.core → FrontRuns w p front (after_all (tells client o) front)
tells_run client None w p front there = front_stays w p front there
tells_run client (Some reply) w p front there =
    front_same w p front (after_event (Event.Tells client reply) front) there refl
    (λ known. known_changed w.history client (with_turn (Says reply)) front.clients known (λ c turns. known_says w.history c.turns reply turns))

denies_run : (client : ℕ) (asked : Request) (why : Cause) (w : WorldView) (p : ℕ) (front : FrontView) → At w.proxies p front.core → FrontRuns w p front (after_all (denies client asked why) front)
denies_run client asked why w p front there =
    let denied : FrontView = after_event (Event.Denies why) front in
    front_on w p front denied (after_all (denies client asked why) front) (front_same w p front denied there refl (λ known. known)) (tells_run client (denial asked why) w p denied there)

tells_core : (client : ℕ) (o : Option Reply) (front : FrontView) → (after_all (tells client o) front).core ≡ front.core
tells_core client None front = refl
tells_core client (Some reply) front = refl

pub denies_core : (client : ℕ) (asked : Request) (why : Cause) (front : FrontView) → (after_all (denies client asked why) front).core ≡ front.core
denies_core client asked why front = tells_core client (denial asked why) (after_event (Event.Denies why) front)

-- the core and its clients change alone
front_moves : (w : WorldView) (t : StreamsView) (p : ℕ) (l : LoopView) (front' : FrontView) → MirrorsStreams w t → At t.loops p l → FrontRuns w p l.front front'
    → RunsTo w [] (with_parts t p (record l { front = front' }) t.connections t.history)
front_moves w t p l front' m home front =
    let l' : LoopView = record l { front = front' } in
    let lines : slice_set (lines_of t.loops) p l.links ≡ lines_of t.loops = written_back (at_mapped (λ (x : LoopView). x.links) home) in
    front_streams w t p l l' t.connections t.history front m home (m.legal p l home) (still_tells w.history front.so.world.history t.history front.so.gains m.mirrors.tells)
    (own_links w t p l m home) (λ i c k. record { old = c; there = k; like = same_like c })
    (λ i c k. subst (λ x. FlowsOf w.sent w.replies x (seats_of t.nodes) c) (sym lines) (m.mirrors.flows i c k))

pub client_asks : (old : WorldView) (number : ℕ) (asked : Request) (told : Note) (new : WorldView) → HasLegs asked → Issues old number asked told new → ClientAsks old number asked told new
client_asks old number (request.Get keys) told new legs step = step
client_asks old number (request.Set key flags exptime block noreply) told new legs step = step
client_asks old number (request.Delete key noreply) told new legs step = step
client_asks old number request.Quit told new legs step = absurd legs

-- the world after an issue
abbrev issued_world : WorldView → ℕ → ProxyView → ℕ → Request → WorldView
issued_world w p core reading asked = record w {
  proxies = slice_set w.proxies p (after_issue core reading asked);
  sent = w.sent ++ map (message_of w.nodes core.routing) (sheets_of core reading asked);
  history = w.history ++ entry.Issued (next_op core) p asked ∷ [];
}

abbrev issued_entry : ProxyView → Request → List Entry
issued_entry core asked = entry.Issued (next_op core) core.number asked ∷ []

known_more : (history gains : List Entry) (clients : List Client) → AreKnown history clients → AreKnown (history ++ gains) clients
known_more history gains clients known = λ place client there turn answer h wants. has_left gains (known place client there turn answer h wants)

-- a request is issued: its legs are messages, whether or not they went
issue_streams : (w : WorldView) (t : StreamsView) (p reading : ℕ) (l : LoopView) (front' : FrontView) (links' : List Link) (asked : Request)
    → MirrorsStreams w t → At t.loops p l → At t.readings.standing p reading → HasLegs asked → refusal_of l.front.core ≡ None
    → front'.core ≡ after_issue l.front.core reading asked
    → AreKnown (w.history ++ entry.Issued (next_op l.front.core) p asked ∷ []) front'.clients
    → ((place : ℕ) (link : Link) → At links' place link → AreOf p link.legs)
    → ((i : ℕ) (c : Connection) → At t.connections i c
    → FlowsOf (w.sent ++ map (message_of w.nodes l.front.core.routing) (sheets_of l.front.core reading asked)) w.replies (slice_set (lines_of t.loops) p links') (seats_of t.nodes) c)
    → RunsTo w [] (with_parts t p (record l { front = front'; links = links' }) t.connections (t.history ++ issued_entry l.front.core asked))
issue_streams w t p reading l front' links' asked m home clock legs accepted core_is known own flows =
    let core : ProxyView = l.front.core in
    let world : WorldView = issued_world w p core reading asked in
    let number : core.number ≡ p = m.mirrors.numbers p core (at_mapped (λ (x : LoopView). x.front.core) home) in
    let told : Note = note.Issued (next_op core) (length w.sent) (length (sheets_of core reading asked)) in
    let told_both : Tells world.history (t.history ++ issued_entry core asked) =
    subst (λ n. Tells world.history (t.history ++ entry.Issued (next_op core) n asked ∷ [])) (sym number) (Tells.issues (next_op core) p asked m.mirrors.tells) in
    record {
      world = world;
      happened = FleetEvent.Happens (event.Client p asked) ∷ [];
      run = (
        world,
        (
          told,
          client_asks w p asked told world legs (record {
            proxy = core;
            reading = reading;
            home = core_there w t p l m home;
            clock = subst (λ r. At r.standing p reading) (sym m.mirrors.readings_are) clock;
            has_legs = legs;
            accepted = accepted;
            tells = refl;
            becomes = refl;
          }),
        ),
        refl,
      );
      ticks_are = refl;
      mirrors = loop_streams w world t p l (record l { front = front'; links = links' }) t.connections (t.history ++ issued_entry core asked) m home
          (record {
            number = ap (λ (x : ProxyView). x.number) core_is;
            routing = ap (λ (x : ProxyView). x.routing) core_is;
            schedule = ap (λ (x : ProxyView). x.schedule) core_is;
          })
          refl (ap (λ x. slice_set w.proxies p x) (sym core_is)) refl
          (λ n other h. known_more w.history (entry.Issued (next_op core) p asked ∷ []) other.front.clients (m.known n other h))
          known (m.legal p l home) told_both own (λ i c k. record { old = c; there = k; like = same_like c }) flows;
    }

-- what is known of each
pub all_from : {X : Type 0} (P : X → Type 0) (xs : List X) → ((i : ℕ) (x : X) → slice_get xs i ≡ Some x → P x) → AllByRecursion P xs
all_from P [] h = tt
all_from P (x ∷ xs) h = (h 0 x refl, all_from P xs (λ i y e. h (suc i) y e))

at_middle : {X : Type 0} (front : List X) (x : X) (later : List X) → At (front ++ (x ∷ later)) (length front) x
at_middle front x later = subst (λ l. At l (length front) x) (append_assoc front (x ∷ []) later) (at_left later (at_new front x))

-- what is known of a sheet
record IsSound (routing : RoutingView) (p : ℕ) (sheet : LegSheet) : Type 0 where
  placed : HasNode routing (pool_at sheet) sheet.node
  valid : IsValidRequest (request_for sheet.command)
  own : sheet.id.op.proxy ≡ p

go_home : (front : List Message) (sheets : List LegSheet) (nodes : List Node) (cores : List ProxyView) (core : ProxyView) (p : ℕ) (c : Connection)
    → At cores p core → IsAtHome cores nodes c → AllByRecursion (IsSound core.routing p) sheets
    → AllByRecursion (GoesHome (front ++ map (message_of nodes core.routing) sheets) p core.routing c) sheets
go_home front [] nodes cores core p c there home all = tt
go_home front (sheet ∷ sheets) nodes cores core p c there home all = (
  λ left same link. (
      let one : home.core ≡ core = at_one (subst (λ n. At cores n home.core) same home.home) there in
      let named : At (names_of core.routing) (link_of core.routing sheet) home.name =
      subst (λ n. At (names_of core.routing) n home.name) link (subst (λ (x : ProxyView). At (names_of x.routing) c.link home.name) one home.named) in
      let name : home.name ≡ name_at core.routing (pool_at sheet) sheet.node = at_one named (link_named core.routing sheet all.0.placed) in
      let node : node_number nodes (name_at core.routing (pool_at sheet) sheet.node) ≡ c.node = ap (λ n. node_number nodes n) (sym name) ∙ sym home.numbered in
      record {
        number = length front;
        there = subst (λ n. At (front ++ map (message_of nodes core.routing) (sheet ∷ sheets)) (length front) (record { sheet = sheet; node = n })) node
            (at_middle front (message_of nodes core.routing sheet) (map (message_of nodes core.routing) sheets));
      }),
  subst (λ m. AllByRecursion (GoesHome m p core.routing c) sheets) (append_assoc front (message_of nodes core.routing sheet ∷ []) (map (message_of nodes core.routing) sheets))
      (go_home (front ++ message_of nodes core.routing sheet ∷ []) sheets nodes cores core p c there home all.1),
)

all_own : (routing : RoutingView) (p : ℕ) (sheets : List LegSheet) → AllByRecursion (IsSound routing p) sheets → AllByRecursion (λ (sheet : LegSheet). sheet.id.op.proxy ≡ p) sheets
all_own routing p [] h = tt
all_own routing p (sheet ∷ sheets) h = (h.0.own, all_own routing p sheets h.1)

all_valid : (routing : RoutingView) (p : ℕ) (sheets : List LegSheet) → AllByRecursion (IsSound routing p) sheets → AllByRecursion IsReadableSheet sheets
all_valid routing p [] h = tt
all_valid routing p (sheet ∷ sheets) h = (h.0.valid, all_valid routing p sheets h.1)

-- the sheets of a request are sound
sheets_sound : SheetLaws → (w : WorldView) (t : StreamsView) (p reading : ℕ) (l : LoopView) (asked : Request) → MirrorsStreams w t → At t.loops p l → IsLegal asked
    → AllByRecursion (IsSound l.front.core.routing p) (sheets_of l.front.core reading asked)
sheets_sound laws w t p reading l asked m home legal =
    let core : ProxyView = l.front.core in
    let core_at = at_mapped (λ (x : LoopView). x.front.core) home in
    let u : ℕ = used_reading core.last reading in
    all_from (IsSound core.routing p) (sheets_of core reading asked) (λ i sheet e. (
    let says = laws.say core.routing core.schedule (next_op core) u asked i sheet e in
    record {
      placed = sheet_placed laws core.routing core.schedule (next_op core) u asked i sheet (m.mirrors.plans p core core_at) e;
      valid = legal.valid sheet.command says.command;
      own = ap (λ id. id.op.proxy) says.named ∙ m.mirrors.numbers p core core_at;
    }))

next_left : (p : ProxyView) (place : ℕ) (o : Option PendingView) → (left_by p place o).next ≡ p.next
next_left p place None = refl
next_left p place (Some pending) = refl

next_given_up : (p : ProxyView) (op : OpId) → (after_give_up p op).next ≡ p.next
next_given_up p op = next_left p (place_of_op p.outstanding op) (pending_with p.outstanding op)

if_false : (b : Bool) (x : List Entry) → b ≡ false → (if b then [] else x) ≡ x
if_false true x e = absurd (let no : true ≡ false = e in cc)
if_false false x e = refl

if_true : (b : Bool) (x : List Entry) → b ≡ true → (if b then [] else x) ≡ []
if_true true x e = refl
if_true false x e = absurd (let no : false ≡ true = e in cc)

pub issued_new : (asked : Request) (old new : ProxyView) → new.next ≡ old.next + 1 → issued_by (input.Asks asked) old new ≡ issued_entry old asked
issued_new asked old new e = if_false (new.next == old.next) (issued_entry old asked) (ne_eqb new.next old.next (λ same. omega arith))

pub issued_none : (asked : Request) (old new : ProxyView) → new.next ≡ old.next → issued_by (input.Asks asked) old new ≡ []
issued_none asked old new e = if_true (new.next == old.next) (issued_entry old asked) (eq-eqb new.next old.next e)

-- the loop has another front and other links
abbrev asked_loop : LoopView → FrontView → List Link → LoopView
asked_loop l front links = record l { front = front; links = links }

abbrev asked_parts : StreamsView → ℕ → LoopView → FrontView → List Link → List Entry → StreamsView
asked_parts t p l front links gains = with_parts t p (asked_loop l front links) t.connections (t.history ++ gains)

-- a front changes behind another step
front_behind : (w : WorldView) (t : StreamsView) (p : ℕ) (l : LoopView) (front front' : FrontView) (links : List Link) (gains : List Entry) (run : RunsTo w [] (asked_parts t p l front links gains))
    → At t.loops p l → (At run.world.proxies p front.core → FrontRuns run.world p front front') → RunsTo w [] (asked_parts t p l front' links gains)
front_behind w t p l front front' links gains run home next =
    let t1 : StreamsView = asked_parts t p l front links gains in
    let l1 : LoopView = asked_loop l front links in
    let there : At t1.loops p l1 = at_written l1 home in
    let core = core_there run.world t1 p l1 run.mirrors there in
    let is = front_moves run.world t1 p l1 front' run.mirrors there (next core) in
    runs_in w [] _ (asked_parts t p l front' links gains)
    (ap (λ x. record t { loops = x; history = t.history ++ gains }) (sym (set-set t.loops p l1 (asked_loop l front' links))))
    (runs_behind w [] [] t1 _ run is)

-- nothing is issued, and what happens to the front is this
front_alone_here : (w : WorldView) (t : StreamsView) (p : ℕ) (l : LoopView) (front' : FrontView) (gains : List Entry) → MirrorsStreams w t → At t.loops p l → gains ≡ []
    → FrontRuns w p l.front front' → RunsTo w [] (asked_parts t p l front' l.links gains)
front_alone_here w t p l front' gains m home none front =
    runs_in w [] (with_parts t p (record l { front = front' }) t.connections t.history) (asked_parts t p l front' l.links gains)
    (ap (λ x. with_parts t p (record l { front = front' }) t.connections x) (ap (λ x. t.history ++ x) none ∙ append-nil t.history))
    (front_moves w t p l front' m home front)

-- a request is issued, and its legs go over their links
begun_all : SheetLaws → (w : WorldView) (t : StreamsView) (p : ℕ) (l : LoopView) (asker : Asker) (asked : Request)
    → MirrorsStreams w t → At t.loops p l → At t.readings.standing p asker.reading → IsLegal asked → refusal_of l.front.core ≡ None
    → RunsTo w [] (asked_parts t p l (after_event (Event.Does asker.client (Issue asker.reading asked)) l.front) (all_sent asker l.front.core.routing (sheets_of l.front.core asker.reading asked) l.links)
    (issued_entry l.front.core asked))
begun_all laws w t p l asker asked m home clock legal accepted =
    let core : ProxyView = l.front.core in
    let sheets : List LegSheet = sheets_of core asker.reading asked in
    let sound = sheets_sound laws w t p asker.reading l asked m home legal in
    let core_at = at_mapped (λ (x : LoopView). x.front.core) home in
    let lines_at = at_mapped (λ (x : LoopView). x.links) home in
    let more : List Message = map (message_of w.nodes core.routing) sheets in
    let front' : FrontView = after_event (Event.Does asker.client (Issue asker.reading asked)) l.front in
    issue_streams w t p asker.reading l front' (all_sent asker core.routing sheets l.links) asked m home clock legal.has_legs accepted refl
    (known_changed (w.history ++ entry.Issued (next_op core) p asked ∷ []) asker.client (with_turn (Waits (next_op core))) l.front.clients
    (known_more w.history (entry.Issued (next_op core) p asked ∷ []) l.front.clients (m.known p l home))
    (λ client turns. known_waits (w.history ++ entry.Issued (next_op core) p asked ∷ []) client.turns (next_op core) turns))
    (own_all_sent sheets p asker core.routing l.links (all_own core.routing p sheets sound) (own_links w t p l m home))
    (λ i c k. legs_over sheets (w.sent ++ more) w.replies (lines_of t.loops) (seats_of t.nodes) p l.links c asker core.routing lines_at
    (subst (λ n. AllByRecursion (GoesHome (w.sent ++ map (message_of n core.routing) sheets) p core.routing c) sheets) (sym m.mirrors.nodes_are)
    (go_home w.sent sheets (world_nodes t.nodes) (cores_of t.loops) core p c core_at (m.mirrors.homes i c k) sound))
    (all_valid core.routing p sheets sound) (legs_fit core.routing core.schedule (next_op core) (used_reading core.last asker.reading) asked legal.fits)
    (subst (λ d. FlowsOf (w.sent ++ more) d (lines_of t.loops) (seats_of t.nodes) c) (append-nil w.replies)
    (flows_still w.sent more w.replies [] (lines_of t.loops) (seats_of t.nodes) c (m.mirrors.flows i c k))))

-- and it is given up at once where one of them didn't go
begun_by : SheetLaws → (w : WorldView) (t : StreamsView) (p : ℕ) (l : LoopView) (asker : Asker) (asked : Request) (all : Bool)
    → MirrorsStreams w t → At t.loops p l → At t.readings.standing p asker.reading → IsLegal asked → refusal_of l.front.core ≡ None
    → RunsTo w [] (asked_parts t p l (after_all (begins asker asked all l.front.core) l.front) (all_sent asker l.front.core.routing (sheets_of l.front.core asker.reading asked) l.links)
    (issued_entry l.front.core asked))
begun_by laws w t p l asker asked true m home clock legal accepted = begun_all laws w t p l asker asked m home clock legal accepted
begun_by laws w t p l asker asked false m home clock legal accepted =
    let core : ProxyView = l.front.core in
    let op : OpId = next_op core in
    let first = begun_all laws w t p l asker asked m home clock legal accepted in
    let front1 : FrontView = after_event (Event.Does asker.client (Issue asker.reading asked)) l.front in
    let number : core.number ≡ p = m.mirrors.numbers p core (at_mapped (λ (x : LoopView). x.front.core) home) in
    front_behind w t p l front1 (after_event (Event.Does asker.client (GiveUp op)) front1)
    (all_sent asker core.routing (sheets_of core asker.reading asked) l.links) (issued_entry core asked) first home
    (λ there. front_does first.world p front1 asker.client (GiveUp op) tt (gives_up first.world p front1.core op there number))

pub begun_next : (asker : Asker) (asked : Request) (all : Bool) (front : FrontView) → (after_all (begins asker asked all front.core) front).core.next ≡ front.core.next + 1
begun_next asker asked true front = refl
begun_next asker asked false front = next_given_up (after_issue front.core asker.reading asked) (next_op front.core)

-- memory for the legs of a request was refused: it is issued and given up
failed_by : (w : WorldView) (t : StreamsView) (p : ℕ) (l : LoopView) (asker : Asker) (asked : Request)
    → MirrorsStreams w t → At t.loops p l → At t.readings.standing p asker.reading → IsLegal asked → refusal_of l.front.core ≡ None
    → RunsTo w [] (asked_parts t p l (after_all (fails asker asked l.front.core) l.front) l.links (issued_entry l.front.core asked))
failed_by w t p l asker asked m home clock legal accepted =
    let core : ProxyView = l.front.core in
    let op : OpId = next_op core in
    let more : List Message = map (message_of w.nodes core.routing) (sheets_of core asker.reading asked) in
    let front1 : FrontView = after_event (Event.Alone (Issue asker.reading asked)) l.front in
    let lines : slice_set (lines_of t.loops) p l.links ≡ lines_of t.loops = written_back (at_mapped (λ (x : LoopView). x.links) home) in
    let number : core.number ≡ p = m.mirrors.numbers p core (at_mapped (λ (x : LoopView). x.front.core) home) in
    let first = issue_streams w t p asker.reading l front1 l.links asked m home clock legal.has_legs accepted refl
    (known_more w.history (entry.Issued (next_op core) p asked ∷ []) l.front.clients (m.known p l home)) (own_links w t p l m home)
    (λ i c k. subst (λ x. FlowsOf (w.sent ++ more) w.replies x (seats_of t.nodes) c) (sym lines)
    (subst (λ d. FlowsOf (w.sent ++ more) d (lines_of t.loops) (seats_of t.nodes) c) (append-nil w.replies)
    (flows_still w.sent more w.replies [] (lines_of t.loops) (seats_of t.nodes) c (m.mirrors.flows i c k)))) in
    front_behind w t p l front1 (after_event (Event.Alone (GiveUp op)) front1) l.links (issued_entry core asked) first home
    (λ there. front_alone first.world p front1 (GiveUp op) (gives_up first.world p front1.core op there number))

pub fails_next : (asker : Asker) (asked : Request) (front : FrontView) → (after_all (fails asker asked front.core) front).core.next ≡ front.core.next + 1
fails_next asker asked front = next_given_up (after_issue front.core asker.reading asked) (next_op front.core)

-- a request that is asked, by another word for the front and what was issued
asked_to : (w : WorldView) (t : StreamsView) (p : ℕ) (l : LoopView) (front front' : FrontView) (links links' : List Link) (gains gains' : List Entry)
    → front' ≡ front → links' ≡ links → gains' ≡ gains → RunsTo w [] (asked_parts t p l front links gains) → RunsTo w [] (asked_parts t p l front' links' gains')
asked_to w t p l front front' links links' gains gains' e f g h =
    subst (λ x. RunsTo w [] (asked_parts t p l x links' gains')) (sym e)
    (subst (λ x. RunsTo w [] (asked_parts t p l front x gains')) (sym f) (subst (λ x. RunsTo w [] (asked_parts t p l front links x)) (sym g) h))

abbrev done_of : LoopView → Input → FrontView → List Entry
done_of l next front' = issued_by next l.front.core front'.core

memory_lost : SheetLaws → (w : WorldView) (t : StreamsView) (p : ℕ) (l : LoopView) (asker : Asker) (asked : Request) (front' : FrontView)
    → MirrorsStreams w t → At t.loops p l → At t.readings.standing p asker.reading → IsLegal asked
    → HasNoMemory asker l.front l.links asked front' → RunsTo w [] (asked_parts t p l front' l.links (done_of l (input.Asks asked) front'))
memory_lost laws w t p l asker asked front' m home clock legal h =
    let why : Cause = cause.OutOfMemory in
    let denied : List Event = denies asker.client asked why in
    elim h.either [
      | inl none ↦ (
          let happens : front' ≡ after_all denied l.front = h.happens ∙ ap (λ x. after_all (x ++ denied) l.front) none in
          let same : front'.core ≡ l.front.core = ap (λ (f : FrontView). f.core) happens ∙ denies_core asker.client asked why l.front in
          front_alone_here w t p l front' (done_of l (input.Asks asked) front') m home (issued_none asked l.front.core front'.core (ap (λ (x : ProxyView). x.next) same))
          (front_to w p l.front (after_all denied l.front) front' (sym happens) (denies_run asker.client asked why w p l.front (core_there w t p l m home))))
      | inr failed ↦ (
          let between : FrontView = after_all (fails asker asked l.front.core) l.front in
          let happens : front' ≡ after_all denied between = h.happens ∙ ap (λ x. after_all (x ++ denied) l.front) failed in
          let same : front'.core ≡ between.core = ap (λ (f : FrontView). f.core) happens ∙ denies_core asker.client asked why between in
          let first = failed_by w t p l asker asked m home clock legal h.accepted in
          let gains = issued_new asked l.front.core front'.core (ap (λ (x : ProxyView). x.next) same ∙ fails_next asker asked l.front) in
          asked_to w t p l (after_all denied between) front' l.links l.links (issued_entry l.front.core asked) (done_of l (input.Asks asked) front') happens refl gains
          (front_behind w t p l between (after_all denied between) l.links (issued_entry l.front.core asked) first home
          (λ there. denies_run asker.client asked why first.world p between there)))
    ]

-- one thing that a client sent is done
one_done : SheetLaws → (w : WorldView) (t : StreamsView) (p : ℕ) (l : LoopView) (asker : Asker) (next : Input) (front' : FrontView) (links' : List Link)
    → MirrorsStreams w t → At t.loops p l → At t.readings.standing p asker.reading → IsLegalInput (Some next)
    → IsDoneFor asker l.front l.links next front' links' → RunsTo w [] (asked_parts t p l front' links' (done_of l next front'))
one_done laws w t p l asker (input.Asks asked) front' links' m home clock legal h =
    let links_to : links' ≡ l.links → RunsTo w [] (asked_parts t p l front' l.links (done_of l (input.Asks asked) front')) → RunsTo w [] (asked_parts t p l front' links' (done_of l (input.Asks asked) front')) =
    λ e r. subst (λ x. RunsTo w [] (asked_parts t p l front' x (done_of l (input.Asks asked) front'))) (sym e) r in
    elim h [
      | inl begun ↦ (
          let all : Bool = all_up l.front.core.routing (sheets_of l.front.core asker.reading asked) l.links in
          asked_to w t p l (after_all (begins asker asked all l.front.core) l.front) front'
          (all_sent asker l.front.core.routing (sheets_of l.front.core asker.reading asked) l.links) links' (issued_entry l.front.core asked) (done_of l (input.Asks asked) front')
          begun.happens begun.went
          (issued_new asked l.front.core front'.core (ap (λ (f : FrontView). f.core.next) begun.happens ∙ begun_next asker asked all l.front))
          (begun_by laws w t p l asker asked all m home clock legal begun.accepted))
      | inr other ↦ elim other [
        | inl quits ↦ links_to quits.1 (front_alone_here w t p l front' (done_of l (input.Asks asked) front') m home
            (issued_none asked l.front.core front'.core (ap (λ (f : FrontView). f.core.next) quits.0.unchanged))
            (front_to w p l.front l.front front' (sym quits.0.unchanged) (front_stays w p l.front (core_there w t p l m home))))
        | inr third ↦ elim third [
          | inl spent ↦ (
              let why : Cause = cause.NumbersSpent in
              let denied : FrontView = after_all (denies asker.client asked why) l.front in
              let same : front'.core ≡ l.front.core = ap (λ (f : FrontView). f.core) spent.0.happens ∙ denies_core asker.client asked why l.front in
              links_to spent.1 (front_alone_here w t p l front' (done_of l (input.Asks asked) front') m home (issued_none asked l.front.core front'.core (ap (λ (x : ProxyView). x.next) same))
              (front_to w p l.front denied front' (sym spent.0.happens) (denies_run asker.client asked why w p l.front (core_there w t p l m home)))))
          | inr memory ↦ links_to memory.1 (memory_lost laws w t p l asker asked front' m home clock legal memory.0)
        ]
      ]
    ]
one_done laws w t p l asker (input.Refused refusal) front' links' m home clock legal h =
    subst (λ x. RunsTo w [] (asked_parts t p l front' x [])) (sym h.1)
    (front_alone_here w t p l front' [] m home refl
    (front_to w p l.front (after_all (tells asker.client (reply_to_refusal refusal)) l.front) front' (sym h.0)
    (tells_run asker.client (reply_to_refusal refusal) w p l.front (core_there w t p l m home))))

-- what was asked so far
pub record IsAsked (w : WorldView) (t : StreamsView) (p : ℕ) (l : LoopView) (new : Asking) (gains : List Entry) : Type 0 where
  pub run : RunsTo w [] (asked_parts t p l new.front new.links gains)
  pub legal : IsLegalInput new.inbox.held

nothing_asked : (w : WorldView) (t : StreamsView) (p : ℕ) (l : LoopView) (front : FrontView) (links : List Link) → MirrorsStreams w t → At t.loops p l → front ≡ l.front → links ≡ l.links
    → RunsTo w [] (asked_parts t p l front links [])
nothing_asked w t p l front links m home e f =
    asked_to w t p l l.front front l.links links [] [] e f refl
    (front_alone_here w t p l l.front [] m home refl (front_stays w p l.front (core_there w t p l m home)))

pub asks_run : SheetLaws → (asker : Asker) (old new : Asking) (did : DoesAll asker old new) (w : WorldView) (t : StreamsView) (p : ℕ) (l : LoopView)
    → MirrorsStreams w t → At t.loops p l → At t.readings.standing p asker.reading → IsLegalInput old.inbox.held → old.front ≡ l.front → old.links ≡ l.links
    → IsAsked w t p l new (issued_in did)
asks_run laws asker old new DoesAll.starts w t p l m home clock legal e f = record { run = nothing_asked w t p l old.front old.links m home e f; legal = legal }
asks_run laws asker old new (DoesAll.goes_on {between = between} before one) w t p l m home clock legal e f =
    let first = asks_run laws asker old between before w t p l m home clock legal e f in
    let t1 : StreamsView = asked_parts t p l between.front between.links (issued_in before) in
    let l1 : LoopView = asked_loop l between.front between.links in
    let gains : List Entry = issued_by one.input between.front.core new.front.core in
    let next = one_done laws first.run.world t1 p l1 asker one.input new.front new.links first.run.mirrors (at_written l1 home) clock
    (came_legal between.inbox one.fetched one.input first.legal one.came) one.done in
    let both : slice_set (slice_set t.loops p l1) p (asked_loop l new.front new.links) ≡ slice_set t.loops p (asked_loop l new.front new.links) =
    set-set t.loops p l1 (asked_loop l new.front new.links) in
    record {
      run = runs_in w [] (asked_parts t1 p l1 new.front new.links gains) (asked_parts t p l new.front new.links (issued_in before ++ gains))
          (ap (λ x. record t { loops = slice_set t.loops p (asked_loop l new.front new.links); history = x }) (sym (append_assoc t.history (issued_in before) gains))
          ∙ ap (λ x. record t { loops = x; history = (t.history ++ issued_in before) ++ gains }) (sym both))
          (runs_behind w [] [] t1 (asked_parts t1 p l1 new.front new.links gains) first.run next);
      legal = subst (λ (x : Inbox). IsLegalInput x.held) (sym one.goes_on) (came_held between.inbox one.fetched one.input one.came);
    }
