-- Whatever happens, each client is told the answers to what it sent, in order.
use Rattle.std.proofs.Common.{◌≡◌, ℕ, zero, suc, ◌+◌, ◌<◌, ◌⊎◌, inl, inr, Bool, true, false, List, [], ◌∷◌, ◌++◌, length, map, slice_get, slice_set, drop, get_or, Option, Some, None, if◌then◌else◌, refl, sym, ap, ◌∙◌, subst, append_assoc, arith, length-append}
use Rattle.std.specs.Prelude.{flat_map, is_some, IsTrue}
use Rattle.std.specs.List.{AllByRecursion}
use Rattle.std.proofs.lemmas.Grind.{flat_map-append}
use Rattle.std.proofs.lemmas.List.{length-set, drop_at}
use Rattle.std.proofs.lemmas.Option.{slice_get_within, slice_get-get_or}
use Rattle.mr_clock.specs.Readings.{Tick}
use Rattle.mr_history.specs.Places.{At}
use Rattle.mr_history.specs.declared.entry.Entry.{Entry}
use Rattle.mr_history.specs.declared.entry.Entry.TheVariants as entry
use Rattle.mr_history.specs.declared.op_id.OpId.{OpId}
use Rattle.mr_node.specs.Output.{is_silent}
use Rattle.mr_proxy.specs.Answer.{AnswerView, reply_of}
use Rattle.mr_proxy.specs.ProxyView.{ProxyView, fresh_proxy}
use Rattle.mr_loop.specs.Asking.{Asking, AsksOn, StopsFor}
use Rattle.mr_loop.specs.Events.{FrontView}
use Rattle.mr_loop.specs.Inboxes.{fresh_inbox}
use Rattle.mr_loop.specs.LoopView.{LoopView, ClientBytes, ClientEnds, LinkBreaks, IsAsked, asker_of, with_place, output_in}
use Rattle.mr_loop.specs.Runs.{due_of_turn, told_text}
use Rattle.mr_loop.specs.Ticking.{ticks}
use Rattle.mr_loop.specs.Turns.{fresh_client, text_of_turn}
use Rattle.mr_loop.specs.declared.asker.Asker.{Asker}
use Rattle.mr_loop.specs.declared.asking.Pause.{Pause}
use Rattle.mr_loop.specs.declared.asking.Pause.TheVariants.{NeedsBytes, NeedsRoom, NeedsReader, NeedsQueue, NeedsMemory, IsDone}
use Rattle.mr_loop.specs.declared.client.Client.{Client}
use Rattle.mr_counting.specs.declared.client_counts.ClientCounts.{ClientCounts}
use Rattle.mr_loop.specs.declared.inbox.Inbox.{Inbox}
use Rattle.mr_loop.specs.declared.inbox.Input.TheVariants as input
use Rattle.mr_loop.specs.declared.link.Link.{Link}
use Rattle.mr_loop.specs.declared.turns.Turn.{Turn}
use Rattle.mr_loop.specs.declared.turns.Turn.TheVariants.{Waits, Answered}
use Rattle.mr_world.specs.Lists.{Has}
use Rattle.mr_world.specs.Setup.{SetupView, proxies_from}
use Rattle.mr_world.specs.declared.setup.ProxySetup.{ProxySetup}
use Rattle.mr_streams.specs.Entries.{issued_in, told_by, told_in}
use Rattle.mr_streams.specs.Headline.{Starts}
use Rattle.mr_streams.specs.Served.{AreServed, AreDue}
use Rattle.mr_streams.specs.Steps.{ProxyDoes, CrossesLink, StreamsStep, StreamsRun}
use Rattle.mr_streams.specs.StreamsView.{StreamsView, Connection, Visit, fresh_visit}
use Rattle.mr_streams.specs.Putting.{TellsFirst}
use Rattle.mr_streams.proofs.Dues.{GrewAt, StaysDue, grew_none, quiet_stays, quiet_ticks, stays_breaks, stays_bytes, stays_none, stays_to}
use Rattle.mr_streams.proofs.Fronts.{TurnsAre}
use Rattle.mr_streams.proofs.Hearing.{ClientOk, ok_still, ok_stays, all_asked, stops_ok, piece_ok, ends_ok}
use Rattle.mr_streams.proofs.Lists.{at_set, at_written, at_elsewhere, at_one, at_last, at_left, at_right, at_new, at_mapped, at_nothing, written_back}
use Rattle.mr_streams.proofs.Origins.{HasOrigin, HasOrigins, ArePending, asked_still, origins_still}
use Rattle.mr_streams.proofs.Starting.{fresh_at}

-- a place of a loop, with what its client sent and was told
pub record SeatOk (history : List Entry) (visit : Visit) (client : Client) (inboxes : List Inbox) (place : ℕ) : Type 0 where
  pub inbox : Inbox
  pub there : At inboxes place inbox
  pub ok : ClientOk history visit client inbox

-- the clients of a loop
pub record LoopOk (history : List Entry) (visits : List Visit) (loop : LoopView) : Type 0 where
  pub places : length loop.front.clients ≡ length visits
  pub boxes : length loop.inboxes ≡ length visits
  pub origins : HasOrigins history loop.front
  pub seats : (place : ℕ) (client : Client) (visit : Visit) → At loop.front.clients place client → At visits place visit → SeatOk history visit client loop.inboxes place

-- with their visits
pub record HasVisits (all : List (List Visit)) (history : List Entry) (p : ℕ) (loop : LoopView) : Type 0 where
  pub visits : List Visit
  pub there : At all p visits
  pub ok : LoopOk history visits loop

-- the clients of all loops
abbrev pub AllOk : List LoopView → List (List Visit) → List Entry → Type 0
AllOk loops all history = (p : ℕ) (loop : LoopView) → At loops p loop → HasVisits all history p loop

still_loop : (history gains : List Entry) (visits : List Visit) (loop : LoopView) → LoopOk history visits loop → LoopOk (history ++ gains) visits loop
still_loop history gains visits loop h = record {
  places = h.places;
  boxes = h.boxes;
  origins = origins_still history gains loop.front h.origins;
  seats = λ place client visit a b. (let s = h.seats place client visit a b in record { inbox = s.inbox; there = s.there; ok = ok_still history gains visit client s.inbox s.ok });
}

-- nothing happens to loops and clients
pub others_ok : (loops : List LoopView) (all : List (List Visit)) (history gains : List Entry) → AllOk loops all history → AllOk loops all (history ++ gains)
others_ok loops all history gains ok = λ p loop h. (let v = ok p loop h in record { visits = v.visits; there = v.there; ok = still_loop history gains v.visits loop v.ok })

moved_loop : (history : List Entry) (visits : List Visit) (loop loop' : LoopView) → LoopOk history visits loop → StaysDue loop.front loop'.front → loop'.inboxes ≡ loop.inboxes → LoopOk history visits loop'
moved_loop history visits loop loop' h stays same = record {
  places = stays.grew.count ∙ h.places;
  boxes = ap length same ∙ h.boxes;
  origins = stays.origins history h.origins;
  seats = λ place client visit a b. (
      let g = stays.grew.each place client a in
      let s = h.seats place g.was visit g.there b in
      record {
        inbox = s.inbox;
        there = subst (λ x. At x place s.inbox) (sym same) s.there;
        ok = ok_stays history visit loop.front.clients place client s.inbox g s.ok;
      });
}

-- one loop changes, and with it its visits
one_ok : (loops : List LoopView) (all : List (List Visit)) (history gains : List Entry) (p : ℕ) (loop loop' : LoopView) (visits' : List Visit) → AllOk loops all history → At loops p loop
    → LoopOk (history ++ gains) visits' loop' → AllOk (slice_set loops p loop') (slice_set all p visits') (history ++ gains)
one_ok loops all history gains p loop loop' visits' ok home new = λ q other h. elim (at_set loops p loop' h) [
  | inl e ↦ record {
    visits = visits';
    there = subst (λ n. At (slice_set all p visits') n visits') (sym e.0) (at_written visits' (ok p loop home).there);
    ok = subst (λ l. LoopOk (history ++ gains) visits' l) (sym e.1) new;
  }
  | inr e ↦ (
      let v = ok q other e.1 in
      record { visits = v.visits; there = at_elsewhere visits' e.0 v.there; ok = still_loop history gains v.visits other v.ok })
]

-- one loop changes alone
loop_ok : (loops : List LoopView) (all : List (List Visit)) (history : List Entry) (p : ℕ) (loop loop' : LoopView) → AllOk loops all history → At loops p loop
    → StaysDue loop.front loop'.front → loop'.inboxes ≡ loop.inboxes → AllOk (slice_set loops p loop') all history
loop_ok loops all history p loop loop' ok home stays same = λ q other h. elim (at_set loops p loop' h) [
  | inl e ↦ (
      let v = ok p loop home in
      record {
        visits = v.visits;
        there = subst (λ n. At all n v.visits) (sym e.0) v.there;
        ok = subst (λ l. LoopOk history v.visits l) (sym e.1) (moved_loop history v.visits loop loop' v.ok stays same);
      })
  | inr e ↦ ok q other e.1
]

-- a place that is there, with all that is there of it
record SeatWas (history : List Entry) (visits : List Visit) (loop : LoopView) (place : ℕ) : Type 0 where
  client : Client
  visit : Visit
  client_there : At loop.front.clients place client
  visit_there : At visits place visit
  seat : SeatOk history visit client loop.inboxes place

seat_was : (history : List Entry) (visits : List Visit) (loop : LoopView) (place n : ℕ) → n ≡ place → LoopOk history visits loop → n < length loop.front.clients → n < length visits
    → SeatWas history visits loop place
seat_was history visits loop place n same h below within =
    let client : Client = get_or loop.front.clients place fresh_client in
    let visit : Visit = get_or visits place fresh_visit in
    let a : At loop.front.clients place client = record { gets = slice_get-get_or loop.front.clients place fresh_client (subst (λ k. k < length loop.front.clients) same below) } in
    let b : At visits place visit = record { gets = slice_get-get_or visits place fresh_visit (subst (λ k. k < length visits) same within) } in
    record { client = client; visit = visit; client_there = a; visit_there = b; seat = h.seats place client visit a b }

-- one place of a loop is another one's
seat_loop : (history : List Entry) (visits : List Visit) (loop loop' : LoopView) (place : ℕ) (client' : Client) (inbox' : Inbox) (visit' : Visit) → LoopOk history visits loop
    → loop'.front.core ≡ loop.front.core → loop'.front.clients ≡ slice_set loop.front.clients place client' → loop'.inboxes ≡ slice_set loop.inboxes place inbox'
    → TurnsAre (HasOrigin history) client'.turns → ((visit : Visit) (client : Client) → At loop.front.clients place client → At visits place visit → ClientOk history visit' client' inbox')
    → LoopOk history (slice_set visits place visit') loop'
seat_loop history visits loop loop' place client' inbox' visit' h core clients inboxes origins new = record {
  places = ap length clients ∙ length-set loop.front.clients place client' ∙ h.places ∙ sym (length-set visits place visit');
  boxes = ap length inboxes ∙ length-set loop.inboxes place inbox' ∙ h.boxes ∙ sym (length-set visits place visit');
  origins = record {
    pending = subst (λ (c : ProxyView). ArePending history c.outstanding) (sym core) h.origins.pending;
    turns = λ n client there. elim (at_set loop.front.clients place client' (subst (λ x. At x n client) clients there)) [
      | inl e ↦ subst (λ (c : Client). TurnsAre (HasOrigin history) c.turns) (sym e.1) origins
      | inr e ↦ h.origins.turns n client e.1
    ];
  };
  seats = λ n client visit a b. (
      let a' : At (slice_set loop.front.clients place client') n client = subst (λ x. At x n client) clients a in
      elim (at_set loop.front.clients place client' a') [
        | inl e ↦ elim (at_set visits place visit' b) [
          | inl f ↦ (
              let client_below : n < length (slice_set loop.front.clients place client') = slice_get_within (slice_set loop.front.clients place client') n client a'.gets in
              let visit_below : n < length (slice_set visits place visit') = slice_get_within (slice_set visits place visit') n visit b.gets in
              let was = seat_was history visits loop place n e.0 h (let l = length-set loop.front.clients place client' in omega arith) (let l = length-set visits place visit' in omega arith) in
              record {
                inbox = inbox';
                there = subst (λ x. At x n inbox') (sym inboxes) (subst (λ k. At (slice_set loop.inboxes place inbox') k inbox') (sym e.0) (at_written inbox' was.seat.there));
                ok = subst (λ x. ClientOk history x client inbox') (sym f.1) (subst (λ x. ClientOk history visit' x inbox') (sym e.1) (new was.visit was.client was.client_there was.visit_there));
              })
          | inr f ↦ absurd (f.0 e.0)
        ]
        | inr e ↦ elim (at_set visits place visit' b) [
          | inl f ↦ absurd (e.0 f.0)
          | inr f ↦ (
              let s = h.seats n client visit e.1 f.1 in
              record { inbox = s.inbox; there = subst (λ x. At x n s.inbox) (sym inboxes) (at_elsewhere inbox' e.0 s.there); ok = s.ok })
        ]
      ]);
}

-- the loops, visits and history of streams
abbrev pub StreamsOk : StreamsView → Type 0
StreamsOk s = AllOk s.loops s.visits s.history

-- a client of which nothing came
fresh_ok : (history : List Entry) → ClientOk history fresh_visit fresh_client fresh_inbox
fresh_ok history = record {
  bytes = [];
  held = [];
  tail = [];
  sent = refl;
  holds = refl;
  reads = λ e. record { lost = []; kept = refl; nothing = λ f. refl };
  reads_on = true;
  over = λ e. absurd (let never : true ≡ false = e in cc);
  held_over = λ refusal e s. absurd (let never : None ≡ Some (input.Refused refusal) = e in cc);
  due = AreDue.begins;
  heard = refl;
  none_waits = λ place op at. at_nothing at;
  answered = λ place answer at. absurd (at_nothing at);
}

-- a place begins anew
refreshed_ok : (history : List Entry) (visits : List Visit) (client : ℕ) (loop loop' : LoopView) → LoopOk history visits loop
    → loop'.front.core ≡ loop.front.core → loop'.front.clients ≡ slice_set loop.front.clients client fresh_client → loop'.inboxes ≡ slice_set loop.inboxes client fresh_inbox
    → LoopOk history (slice_set visits client fresh_visit) loop'
refreshed_ok history visits client loop loop' h core clients inboxes =
    seat_loop history visits loop loop' client fresh_client fresh_inbox fresh_visit h core clients inboxes (λ place answer at. absurd (at_nothing at)) (λ visit was a b. fresh_ok history)

-- one more place
added_ok : (history : List Entry) (visits : List Visit) (loop : LoopView) → LoopOk history visits loop → LoopOk history (visits ++ fresh_visit ∷ []) (with_place loop)
added_ok history visits loop h =
    record {
      places = length-append loop.front.clients (fresh_client ∷ []) ∙ ap (λ n. n + 1) h.places ∙ sym (length-append visits (fresh_visit ∷ []));
      boxes = length-append loop.inboxes (fresh_inbox ∷ []) ∙ ap (λ n. n + 1) h.boxes ∙ sym (length-append visits (fresh_visit ∷ []));
      origins = record {
        pending = h.origins.pending;
        turns = λ place client there. elim (at_last loop.front.clients fresh_client there) [
          | inl old ↦ h.origins.turns place client old
          | inr new ↦ subst (λ (c : Client). TurnsAre (HasOrigin history) c.turns) (sym new.1) (λ turn answer at. absurd (at_nothing at))
        ];
      };
      seats = λ place client visit a b. elim (at_last loop.front.clients fresh_client a) [
        | inl old ↦ elim (at_last visits fresh_visit b) [
          | inl was ↦ (let seat = h.seats place client visit old was in record { inbox = seat.inbox; there = at_left (fresh_inbox ∷ []) seat.there; ok = seat.ok })
          | inr last ↦ absurd (
              let below : place < length loop.front.clients = slice_get_within loop.front.clients place client old.gets in
              let same = h.places in
              let at = last.0 in
              omega arith)
        ]
        | inr new_client ↦ elim (at_last visits fresh_visit b) [
          | inl was ↦ absurd (
              let below : place < length visits = slice_get_within visits place visit was.gets in
              let same = h.places in
              let at = new_client.0 in
              omega arith)
          | inr last ↦ (
              let there : At (loop.inboxes ++ fresh_inbox ∷ []) (length loop.inboxes) fresh_inbox = at_new loop.inboxes fresh_inbox in
              let here : length loop.inboxes ≡ place = h.boxes ∙ sym last.0 in
              record {
                inbox = fresh_inbox;
                there = subst (λ n. At (loop.inboxes ++ fresh_inbox ∷ []) n fresh_inbox) here there;
                ok = subst (λ x. ClientOk history x client fresh_inbox) (sym last.1)
                    (subst (λ x. ClientOk history fresh_visit x fresh_inbox) (sym new_client.1) (fresh_ok history));
              })
        ]
      ];
    }

-- a proxy restarts
restarts_ok : (history : List Entry) (loop : LoopView) → loop.front.core.outstanding ≡ [] → loop.front.clients ≡ [] → loop.inboxes ≡ [] → LoopOk history [] loop
restarts_ok history loop none clients inboxes = record {
  places = ap length clients;
  boxes = ap length inboxes;
  origins = record {
    pending = λ place pending there. absurd (at_nothing (subst (λ x. At x place pending) none there));
    turns = λ place client there. absurd (at_nothing (subst (λ x. At x place client) clients there));
  };
  seats = λ place client visit a b. absurd (at_nothing b);
}

told_there_unless : (history : List Entry) (answer : AnswerView) (silent : Bool) (later : List Entry) → silent ≡ false
    → Has (history ++ ((if silent then [] else entry.Answered answer.op (reply_of answer) ∷ []) ++ later)) (entry.Answered answer.op (reply_of answer))
told_there_unless history answer true later e = absurd (let never : true ≡ false = e in cc)
told_there_unless history answer false later e =
    let x : Entry = entry.Answered answer.op (reply_of answer) in
    record { place = length history; there = subst (λ l. At l (length history) x) (append_assoc history (x ∷ []) later) (at_left later (at_new history x)) }

-- an answer at a turn that was put stands in the history
told_there : (history : List Entry) (turns : List Turn) (place : ℕ) (answer : AnswerView) → slice_get turns place ≡ Some (Answered answer) → is_silent answer.request ≡ false
    → Has (history ++ told_in turns) (entry.Answered answer.op (reply_of answer))
told_there history [] place answer e wants = absurd (let never : None ≡ Some (Answered answer) = e in cc)
told_there history (turn ∷ turns) zero answer e wants =
    let same : turn ≡ Answered answer = cc in
    subst (λ t. Has (history ++ (told_by t ++ told_in turns)) (entry.Answered answer.op (reply_of answer))) (sym same)
    (told_there_unless history answer (is_silent answer.request) (told_in turns) wants)
told_there history (turn ∷ turns) (suc place) answer e wants =
    subst (λ h. Has h (entry.Answered answer.op (reply_of answer))) (append_assoc history (told_by turn) (told_in turns))
    (told_there (history ++ told_by turn) turns place answer e wants)

at_either : {X : Type 0} (xs ys : List X) (i : ℕ) (x : X) → slice_get (xs ++ ys) i ≡ Some x → (slice_get xs i ≡ Some x) ⊎ ((j : ℕ) × (slice_get ys j ≡ Some x))
at_either [] ys i x e = inr (i, e)
at_either (z ∷ xs) ys zero x e = inl e
at_either (z ∷ xs) ys (suc i) x e = elim (at_either xs ys i x e) [ inl h ↦ inl h | inr h ↦ inr h ]

-- of turns that have texts none waits
none_waits_there : (turns : List Turn) (place : ℕ) (op : OpId) → AllByRecursion (λ turn. IsTrue (is_some (text_of_turn turn))) turns → slice_get turns place ≡ Some (Waits op) → ⊥
none_waits_there [] place op texts e = (let never : None ≡ Some (Waits op) = e in cc)
none_waits_there (turn ∷ turns) zero op texts e =
    let same : turn ≡ Waits op = cc in
    let text : false ≡ true = subst (λ t. IsTrue (is_some (text_of_turn t))) same texts.0 in
    cc
none_waits_there (turn ∷ turns) (suc place) op texts e = none_waits_there turns place op texts.1 e

-- texts are put to the bytes that a client is to be told
put_ok : (history : List Entry) (visit : Visit) (was client : Client) (t : TellsFirst was client) (inbox : Inbox) → TurnsAre (HasOrigin history) was.turns → ClientOk history visit was inbox
    → ClientOk (history ++ told_in t.told) (record visit { put = visit.put ++ t.told }) client inbox
put_ok history visit was client t inbox origins h =
    let told : List Turn = t.told in
    let still = ok_still history (told_in told) visit was inbox h in
    let turns : (visit.put ++ told) ++ client.turns ≡ visit.put ++ was.turns = append_assoc visit.put told client.turns ∙ ap (λ x. visit.put ++ x) (sym t.splits) in
    record {
      bytes = still.bytes;
      held = still.held;
      tail = still.tail;
      sent = still.sent;
      holds = still.holds;
      reads = still.reads;
      reads_on = still.reads_on;
      over = still.over;
      held_over = still.held_over;
      due = subst (λ x. AreDue (history ++ told_in told) still.reads_on still.bytes (map due_of_turn x)) (sym turns) still.due;
      heard = ap (λ x. visit.heard ++ x) t.text ∙ sym (append_assoc visit.heard was.out (flat_map told_text told)) ∙ ap (λ x. x ++ flat_map told_text told) still.heard
          ∙ sym (flat_map-append told_text visit.put told);
      none_waits = λ place op at. elim (at_either visit.put told place (Waits op) at.gets) [
        | inl old ↦ still.none_waits place op (record { gets = old })
        | inr new ↦ none_waits_there told new.0 op t.have_texts new.1
      ];
      answered = λ place answer at. elim (at_either visit.put told place (Answered answer) at.gets) [
        | inl old ↦ still.answered place answer (record { gets = old })
        | inr new ↦ (
            let at_turn : At (told ++ client.turns) new.0 (Answered answer) = at_left client.turns (record { gets = new.1 }) in
            let origin = asked_still history (told_in told) answer.op answer.request (origins new.0 answer (subst (λ x. At x new.0 (Answered answer)) (sym t.splits) at_turn)) in
            record { issue = origin.issue; issued = origin.issued; told = λ wants. told_there history told new.0 answer new.1 wants })
      ];
    }

hear_ok : (history : List Entry) (visit : Visit) (was : Client) (piece rest out : List ℕ) (inbox : Inbox) → was.out ≡ piece ++ rest → out ≡ rest → ClientOk history visit was inbox
    → ClientOk history (record visit { heard = visit.heard ++ piece }) (record was { out = out }) inbox
hear_ok history visit was piece rest out inbox splits left h = record {
  bytes = h.bytes;
  held = h.held;
  tail = h.tail;
  sent = h.sent;
  holds = h.holds;
  reads = h.reads;
  reads_on = h.reads_on;
  over = h.over;
  held_over = h.held_over;
  due = h.due;
  heard = ap (λ x. (visit.heard ++ piece) ++ x) left ∙ append_assoc visit.heard piece rest ∙ ap (λ x. visit.heard ++ x) (sym splits) ∙ h.heard;
  none_waits = h.none_waits;
  answered = h.answered;
}

-- one client is told something
told_ok : (history gains : List Entry) (visits : List Visit) (client : ℕ) (loop loop' : LoopView) (visit visit' : Visit) (was client' : Client) → LoopOk history visits loop → At visits client visit
    → At loop.front.clients client was → loop'.front.core ≡ loop.front.core → loop'.front.clients ≡ slice_set loop.front.clients client client' → loop'.inboxes ≡ loop.inboxes
    → TurnsAre (HasOrigin history) client'.turns → ((inbox : Inbox) → ClientOk history visit was inbox → ClientOk (history ++ gains) visit' client' inbox)
    → LoopOk (history ++ gains) (slice_set visits client visit') loop'
told_ok history gains visits client loop loop' visit visit' was client' h visit_there there core clients inboxes origins new =
    let seat = h.seats client was visit there visit_there in
    let same : loop'.inboxes ≡ slice_set loop.inboxes client seat.inbox = inboxes ∙ sym (written_back seat.there) in
    seat_loop (history ++ gains) visits loop loop' client client' seat.inbox visit' (still_loop history gains visits loop h) core clients same
    (λ place answer at. asked_still history gains answer.op answer.request (origins place answer at)) (λ x y a b. new seat.inbox seat.ok)

pub stopped_front : (asker : Asker) (pause : Pause) (old new : Asking) → StopsFor asker pause old new → new.front ≡ old.front
stopped_front asker NeedsReader old new h = ap (λ (a : Asking). a.front) h.1
stopped_front asker NeedsBytes old new h = h.1.same_front
stopped_front asker IsDone old new h = h.1.same_front
stopped_front asker NeedsRoom old new h = ap (λ (a : Asking). a.front) h.1.held
stopped_front asker (NeedsQueue number) old new h = ap (λ (a : Asking). a.front) h.1.held
stopped_front asker NeedsMemory old new h = elim h [ inl unread ↦ ap (λ (a : Asking). a.front) unread.left | inr held ↦ ap (λ (a : Asking). a.front) held.1.held ]

-- what a client sent is asked
asked_ok : (history : List Entry) (visits : List Visit) (loop : LoopView) (asker : Asker) (pause : Pause) (fed inbox' : Inbox) (front' : FrontView) (links' : List Link) (counts' : ClientCounts) (visit' : Visit)
    → LoopOk history visits loop
    → ((client : Client) → At loop.front.clients asker.client client → ClientOk history visit' client fed)
    → (asks : AsksOn asker pause (record { inbox = fed; front = loop.front; links = loop.links; counts = loop.client_counts })
    (record { inbox = inbox'; front = front'; links = links'; counts = counts' }))
    → (loop' : LoopView) → loop'.front ≡ front' → loop'.inboxes ≡ slice_set loop.inboxes asker.client inbox'
    → LoopOk (history ++ issued_in asks.did) (slice_set visits asker.client visit') loop'
asked_ok history visits loop asker pause fed inbox' front' links' counts' visit' h own asks loop' front inboxes =
    let c : ℕ = asker.client in
    let gains : List Entry = issued_in asks.did in
    let first : Asking = record { inbox = fed; front = loop.front; links = loop.links; counts = loop.client_counts } in
    let last : Asking = record { inbox = inbox'; front = front'; links = links'; counts = counts' } in
    let so = all_asked asker first asks.between asks.did history visit' h.origins own in
    let same : front' ≡ asks.between.front = stopped_front asker pause asks.between last asks.stops in
    let clients : loop'.front.clients ≡ asks.between.front.clients = ap (λ (f : FrontView). f.clients) (front ∙ same) in
    record {
      places = ap length clients ∙ so.grew.count ∙ h.places ∙ sym (length-set visits c visit');
      boxes = ap length inboxes ∙ length-set loop.inboxes c inbox' ∙ h.boxes ∙ sym (length-set visits c visit');
      origins = subst (λ f. HasOrigins (history ++ gains) f) (sym (front ∙ same)) so.origins;
      seats = λ place client visit a b. (
          let a' : At asks.between.front.clients place client = subst (λ x. At x place client) clients a in
          let g = so.grew.each place client a' in
          elim (at_set visits c visit' b) [
            | inl e ↦ (
                let ok = stops_ok asker pause (history ++ gains) visit' client asks.between last (so.here client (subst (λ n. At asks.between.front.clients n client) e.0 a')) asks.stops in
                let below : place < length loop.front.clients = slice_get_within loop.front.clients place g.was g.there.gets in
                let within : place < length loop.inboxes = (let x = h.places in let y = h.boxes in omega arith) in
                let box : At loop.inboxes place (get_or loop.inboxes place fresh_inbox) = record { gets = slice_get-get_or loop.inboxes place fresh_inbox within } in
                record {
                  inbox = inbox';
                  there = subst (λ x. At x place inbox') (sym inboxes) (subst (λ n. At (slice_set loop.inboxes n inbox') place inbox') e.0 (at_written inbox' box));
                  ok = subst (λ x. ClientOk (history ++ gains) x client inbox') (sym e.1) ok;
                })
            | inr e ↦ (
                let seat = h.seats place g.was visit g.there e.1 in
                let stays : GrewAt loop.front.clients place [] client = record { was = g.was; there = g.there; same_out = g.same_out; dues = g.dues ∙ ap (λ x. map due_of_turn g.was.turns ++ x) (so.elsewhere place e.0) } in
                record {
                  inbox = seat.inbox;
                  there = subst (λ x. At x place seat.inbox) (sym inboxes) (at_elsewhere inbox' e.0 seat.there);
                  ok = ok_still history gains visit client seat.inbox (ok_stays history visit loop.front.clients place client seat.inbox stays seat.ok);
                })
          ]);
    }

asker_sends : (history : List Entry) (visits : List Visit) (client reading now : ℕ) (piece : List ℕ) (loop loop' : LoopView) (pause : Pause) (visit : Visit) → LoopOk history visits loop
    → At visits client visit → (step : ClientBytes (asker_of loop client reading now) piece loop pause loop')
    → LoopOk (history ++ issued_in step.asks.did) (slice_set visits client (record visit { sent = visit.sent ++ piece })) loop'
asker_sends history visits client reading now piece loop loop' pause visit h visit_there l =
    let visit' : Visit = record visit { sent = visit.sent ++ piece } in
    let own : (c : Client) → At loop.front.clients client c → ClientOk history visit' c l.fed = λ c there. (
    let seat = h.seats client c visit there visit_there in
    let one : seat.inbox ≡ l.inbox = at_one seat.there (let t : At loop.inboxes client l.inbox = record { gets = l.there } in t) in
    piece_ok history visit c piece l.inbox l.fed (subst (λ i. ClientOk history visit c i) one seat.ok) l.takes) in
    asked_ok history visits loop (asker_of loop client reading now) pause l.fed l.inbox' l.front' l.links' l.counts' visit' h own l.asks loop'
    (ap (λ (x : LoopView). x.front) l.becomes) (ap (λ (x : LoopView). x.inboxes) l.becomes)

asker_stops : (history : List Entry) (visits : List Visit) (client reading now : ℕ) (loop loop' : LoopView) (pause : Pause) → LoopOk history visits loop
    → (step : ClientEnds (asker_of loop client reading now) loop pause loop') → LoopOk (history ++ issued_in step.asks.did) visits loop'
asker_stops history visits client reading now loop loop' pause h l =
    let visit : Visit = get_or visits client fresh_visit in
    let box : At loop.inboxes client l.inbox = record { gets = l.there } in
    let below : client < length visits = (let b = slice_get_within loop.inboxes client l.inbox l.there in let same = h.boxes in omega arith) in
    let visit_there : At visits client visit = record { gets = slice_get-get_or visits client fresh_visit below } in
    let own : (c : Client) → At loop.front.clients client c → ClientOk history visit c l.ended = λ c there. (
    let seat = h.seats client c visit there visit_there in
    let one : seat.inbox ≡ l.inbox = at_one seat.there box in
    ends_ok history visit c l.inbox l.ended (subst (λ i. ClientOk history visit c i) one seat.ok) l.ends) in
    let new = asked_ok history visits loop (asker_of loop client reading now) pause l.ended l.inbox' l.front' l.links' l.counts' visit h own l.asks loop'
    (ap (λ (x : LoopView). x.front) l.becomes) (ap (λ (x : LoopView). x.inboxes) l.becomes) in
    subst (λ x. LoopOk (history ++ issued_in l.asks.did) x loop') (written_back visit_there) new

pub asked_touched : (place : Option ℕ) (old new : LoopView) → IsAsked old place new → StaysDue old.front new.front × (new.inboxes ≡ old.inboxes)
asked_touched None old new h = (stays_to old.front old.front new.front (ap (λ (l : LoopView). l.front) h.1) (stays_none old.front), ap (λ (l : LoopView). l.inboxes) h.1)
asked_touched (Some place) old new h = (
  subst (λ (l : LoopView). StaysDue old.front l.front) (sym h.1)
      (record { grew = grew_none old.front.clients; origins = λ history is. record { pending = is.pending; turns = is.turns } }),
  ap (λ (l : LoopView). l.inboxes) h.1,
)

pub front_stays_due : (old new : LoopView) → new.front ≡ old.front → StaysDue old.front new.front
front_stays_due old new e = stays_to old.front old.front new.front e (stays_none old.front)

pub breaks_due : (link now : ℕ) (old new : LoopView) → LinkBreaks link now old new → StaysDue old.front new.front
breaks_due link now old new l =
    stays_to old.front l.front' new.front (ap (λ (x : LoopView). x.front) l.becomes) (stays_breaks now l.link l.link' old.front l.front' l.breaks)

-- a loop that says nothing to its clients
quiet_ok : (history : List Entry) (visits : List Visit) (loop loop' : LoopView) → LoopOk history visits loop → StaysDue loop.front loop'.front → loop'.inboxes ≡ loop.inboxes
    → LoopOk (history ++ []) visits loop'
quiet_ok history visits loop loop' h stays same = still_loop history [] visits loop' (moved_loop history visits loop loop' h stays same)

-- whatever a proxy does
proxy_ok : (reading : ℕ) (loop loop' : LoopView) (visits visits' : List Visit) (gains history : List Entry) → LoopOk history visits loop → ProxyDoes reading loop visits loop' visits' gains
    → LoopOk (history ++ gains) visits' loop'
proxy_ok reading loop loop' visits visits' gains history h (ProxyDoes.dials link step) =
    quiet_ok history visits loop loop' h (front_stays_due loop loop' (ap (λ (l : LoopView). l.front) step.becomes)) (ap (λ (l : LoopView). l.inboxes) step.becomes)
proxy_ok reading loop loop' visits visits' gains history h (ProxyDoes.breaks link now step) =
    quiet_ok history visits loop loop' h (breaks_due link now loop loop' step) (ap (λ (l : LoopView). l.inboxes) step.becomes)
proxy_ok reading loop loop' visits visits' gains history h (ProxyDoes.waits now) =
    quiet_ok history visits loop loop' h (quiet_stays (ticks loop.limits.leg_timeout now loop.links) loop.front (quiet_ticks loop.limits.leg_timeout now loop.links)) refl
proxy_ok reading loop loop' visits visits' gains history h (ProxyDoes.looks place step) =
    let t = asked_touched place loop loop' step in
    quiet_ok history visits loop loop' h t.0 t.1
proxy_ok reading loop loop' visits visits' gains history h (ProxyDoes.restarts not_last) = restarts_ok (history ++ []) loop' refl refl refl
proxy_ok reading loop loop' visits visits' gains history h ProxyDoes.adds_place = still_loop history [] visits' loop' (added_ok history visits loop h)
proxy_ok reading loop loop' visits visits' gains history h (ProxyDoes.comes client) = still_loop history [] visits' loop' (refreshed_ok history visits client loop loop' h refl refl refl)
proxy_ok reading loop loop' visits visits' gains history h (ProxyDoes.goes client) = still_loop history [] visits' loop' (refreshed_ok history visits client loop loop' h refl refl refl)
proxy_ok reading loop loop' visits visits' gains history h (ProxyDoes.hears {pause = pause} {visit = visit} client now piece is_visit step) =
    asker_sends history visits client reading now piece loop loop' pause visit h is_visit step
proxy_ok reading loop loop' visits visits' gains history h (ProxyDoes.hears_end {pause = pause} client now step) =
    asker_stops history visits client reading now loop loop' pause h step
proxy_ok reading loop loop' visits visits' gains history h (ProxyDoes.answers {visit = visit} client is_visit l) =
    let t = l.tells in
    let there : At loop.front.clients client l.was = record { gets = l.there } in
    let origins = h.origins.turns client l.was there in
    told_ok history (told_in t.told) visits client loop loop' visit (record visit { put = visit.put ++ t.told }) l.was l.client h is_visit
    there (ap (λ (x : LoopView). x.front.core) l.becomes) (ap (λ (x : LoopView). x.front.clients) l.becomes) (ap (λ (x : LoopView). x.inboxes) l.becomes)
    (λ place answer at. origins (length t.told + place) answer (subst (λ x. At x (length t.told + place) (Answered answer)) (sym t.splits) (at_right t.told at)))
    (λ inbox one. put_ok history visit l.was l.client t inbox origins one)
proxy_ok reading loop loop' visits visits' gains history h (ProxyDoes.tells {visit = visit} client piece rest is_visit splits l) =
    let out : l.was.out ≡ piece ++ rest = ap output_in (sym l.there) ∙ splits in
    let left : drop (length piece) l.was.out ≡ rest = ap (λ x. drop (length piece) x) out ∙ drop_at piece rest (length piece) refl in
    told_ok history [] visits client loop loop' visit (record visit { heard = visit.heard ++ piece }) l.was (record l.was { out = drop (length piece) l.was.out }) h is_visit
    (record { gets = l.there }) (ap (λ (x : LoopView). x.front.core) l.becomes) (ap (λ (x : LoopView). x.front.clients) l.becomes) (ap (λ (x : LoopView). x.inboxes) l.becomes)
    (h.origins.turns client l.was (record { gets = l.there })) (λ inbox one. hear_ok (history ++ []) visit l.was piece rest (drop (length piece) l.was.out) inbox out left (ok_still history [] visit l.was inbox one))

-- whatever crosses a link
pub link_due : (c c' : Connection) (loop loop' : LoopView) → CrossesLink c loop c' loop' → StaysDue loop.front loop'.front × (loop'.inboxes ≡ loop.inboxes)
link_due c c' loop loop' (CrossesLink.leaves piece rest splits step) =
    (front_stays_due loop loop' (ap (λ (l : LoopView). l.front) step.becomes), ap (λ (l : LoopView). l.inboxes) step.becomes)
link_due c c' loop loop' (CrossesLink.reaches {end = end} now piece rest splits l) = (
  stays_to loop.front l.front' loop'.front (ap (λ (x : LoopView). x.front) l.becomes) (stays_bytes now piece l.link loop.front end l.link' l.front' l.takes),
  ap (λ (x : LoopView). x.inboxes) l.becomes,
)

-- whatever happens
step_ok : (s s' : StreamsView) (ticks : List Tick) → StreamsOk s → StreamsStep s ticks s' → StreamsOk s'
step_ok s s' ticks ok (StreamsStep.shows tick within) = ok
step_ok s s' ticks ok (StreamsStep.at_proxy {reading = reading} {loop = loop} {loop' = loop'} {visits = visits} {visits' = visits'} {gains = gains} number clock home were does) =
    let v = ok number loop home in
    one_ok s.loops s.visits s.history gains number loop loop' visits' ok home
    (proxy_ok reading loop loop' visits visits' gains s.history (subst (λ x. LoopOk s.history x loop) (at_one v.there were) v.ok) does)
step_ok s s' ticks ok (StreamsStep.connects {loop = loop} {loop' = loop'} number link node place now home l there named within free) =
    loop_ok s.loops s.visits s.history number loop loop' ok home
    (stays_to loop.front l.front' loop'.front (ap (λ (x : LoopView). x.front) l.becomes) (stays_breaks now l.link l.link' loop.front l.front' l.breaks))
    (ap (λ (x : LoopView). x.inboxes) l.becomes)
step_ok s s' ticks ok (StreamsStep.at_link {c = c} {c' = c'} {loop = loop} {loop' = loop'} number there here home crosses) =
    let d = link_due c c' loop loop' crosses in
    loop_ok s.loops s.visits s.history c.proxy loop loop' ok home d.0 d.1
step_ok s s' ticks ok (StreamsStep.at_node {gains = gains} number place there is_open home does) = others_ok s.loops s.visits s.history gains ok
step_ok s s' ticks ok (StreamsStep.adds_place number home) = ok
step_ok s s' ticks ok (StreamsStep.restarts number home) = ok

pub run_ok : (s : StreamsView) (ticks : List Tick) (s' : StreamsView) → StreamsOk s → StreamsRun s ticks s' → StreamsOk s'
run_ok s ticks s' ok StreamsRun.begins = ok
run_ok s ticks s' ok (StreamsRun.goes_on {ticks = before} {more = more} {between = between} run step) = step_ok between s' more (run_ok s before between ok run) step

fresh_outstanding : (number : ℕ) (proxies : List ProxySetup) (p : ℕ) (core : ProxyView) → At (proxies_from number proxies) p core → core.outstanding ≡ []
fresh_outstanding number [] p core h = absurd (at_nothing h)
fresh_outstanding number (proxy ∷ proxies) zero core h =
    let same : fresh_proxy number 0 proxy.routing proxy.schedule proxy.room ≡ core =
    (let both : Some (fresh_proxy number 0 proxy.routing proxy.schedule proxy.room) ≡ Some core = h.gets in cc) in
    ap (λ (x : ProxyView). x.outstanding) (sym same)
fresh_outstanding number (proxy ∷ proxies) (suc p) core h = fresh_outstanding (number + 1) proxies p core (record { gets = h.gets })

-- at the beginning nothing is under way
none_pending : (setup : SetupView) (s : StreamsView) → Starts setup s → (p : ℕ) (loop : LoopView) → At s.loops p loop → loop.front.core.outstanding ≡ []
none_pending setup s starts p loop h = fresh_outstanding 0 setup.proxies p loop.front.core (subst (λ x. At x p loop.front.core) starts.cores (at_mapped (λ (l : LoopView). l.front.core) h))

-- and nobody is there
pub starts_ok : (setup : SetupView) (s : StreamsView) → Starts setup s → StreamsOk s
starts_ok setup s starts = λ p loop h. (
    let fresh = fresh_at s.loops p loop starts.loops h.gets in
    record {
      visits = [];
      there = subst (λ v. At v p []) (sym starts.visits) (at_mapped (λ (l : LoopView). []) h);
      ok = restarts_ok s.history loop (none_pending setup s starts p loop h) (ap (λ (l : LoopView). l.front.clients) fresh) (ap (λ (l : LoopView). l.inboxes) fresh);
    })

-- so each client is served
pub all_served : (setup : SetupView) (first last : StreamsView) (ticks : List Tick) → Starts setup first → StreamsRun first ticks last → AreServed last
all_served setup first last ticks starts run =
    let ok = run_ok first ticks last (starts_ok setup first starts) run in
    λ proxy place loop client home there. (
    let v = ok proxy loop home in
    let below : place < length v.visits = (let b = slice_get_within loop.front.clients place client there.gets in let same = v.ok.places in omega arith) in
    let visit : Visit = get_or v.visits place fresh_visit in
    let is_visit : At v.visits place visit = record { gets = slice_get-get_or v.visits place fresh_visit below } in
    let h = (v.ok.seats place client visit there is_visit).ok in (
      v.visits,
      visit,
      v.there,
      is_visit,
      record {
        bytes = h.bytes;
        rest = h.held ++ h.tail;
        sent = h.sent;
        reads_on = h.reads_on;
        due = h.due;
        heard = h.heard;
        none_waits = h.none_waits;
        answered = h.answered;
      },
    ))
