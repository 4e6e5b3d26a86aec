-- What a client sent, what of it was read, and what it is told of that.
use Rattle.std.proofs.Common.{◌≡◌, ◌≢◌, ℕ, ◌+◌, ◌==◌, ◌||◌, IsTrue, inl, inr, Bool, true, false, List, [], ◌∷◌, ◌++◌, length, map, Option, Some, None, Err, if◌then◌else◌, refl, sym, ap, ◌∙◌, subst, append_assoc, eq-eqb, ne_eqb}
use Rattle.std.specs.Prelude.{option_to_list, flat_map}
use Rattle.std.specs.List.{AllByRecursion}
use Rattle.std.proofs.lemmas.List.{append-nil, map-append}
use Rattle.mr_text.specs.Stream.{skips_line}
use Rattle.mr_text.specs.declared.cause.Cause.{Cause}
use Rattle.mr_text.specs.declared.cause.Cause.TheVariants as cause
use Rattle.mr_text.specs.declared.error.TextError.{TextError}
use Rattle.mr_text.specs.declared.error.TextError.TheVariants.{LineTooLong, BadKey, BadNumber, WrongWords, DataTooLong, BadDataEnd, UnknownCommand, Truncated, Closed, OutOfMemory}
use Rattle.mr_text.specs.declared.reply.Reply.{Reply}
use Rattle.mr_text.specs.declared.request.Request.{Request}
use Rattle.mr_history.specs.History.{IsIssued}
use Rattle.mr_history.specs.Places.{At}
use Rattle.mr_history.specs.declared.entry.Entry.{Entry}
use Rattle.mr_history.specs.declared.entry.Entry.TheVariants as entry
use Rattle.mr_history.specs.declared.op_id.OpId.{OpId}
use Rattle.mr_node.specs.Output.{reply_to_refusal}
use Rattle.mr_proxy.specs.Answer.{AnswerView}
use Rattle.mr_proxy.specs.Issue.{next_op, sheets_of}
use Rattle.mr_proxy.specs.ProxyView.{ProxyView}
use Rattle.mr_loop.specs.Asking.{Asking, DoesAll, DoesOne, IsDoneFor, HoldsBack, StopsFor, begins, denies, denial, fails, tells}
use Rattle.mr_loop.specs.Events.{FrontView, Event, after_event, after_all}
use Rattle.mr_loop.specs.Inboxes.{FetchIs, ReadsOne}
use Rattle.mr_loop.specs.Links.{all_up}
use Rattle.mr_loop.specs.LoopView.{TakesPiece, EndsInput}
use Rattle.mr_loop.specs.Runs.{Due, due_of_turn, due, told_text}
use Rattle.mr_loop.specs.declared.asker.Asker.{Asker}
use Rattle.mr_loop.specs.declared.asking.Pause.{Pause}
use Rattle.mr_loop.specs.declared.asking.Pause.TheVariants.{NeedsBytes, NeedsRoom, NeedsReader, NeedsQueue, NeedsMemory, IsDone}
use Rattle.mr_loop.specs.declared.client.Client.{Client}
use Rattle.mr_loop.specs.declared.inbox.Fetched.TheVariants.{Came, Done}
use Rattle.mr_loop.specs.declared.inbox.Inbox.{Inbox}
use Rattle.mr_loop.specs.declared.inbox.Input.{Input}
use Rattle.mr_loop.specs.declared.inbox.Input.TheVariants as input
use Rattle.mr_loop.specs.declared.link.Link.{Link}
use Rattle.mr_loop.specs.declared.turns.Turn.TheVariants.{Waits, Answered}
use Rattle.mr_streams.specs.Entries.{issued_by, issued_in}
use Rattle.mr_streams.specs.Issuing.{IsIssuedBy}
use Rattle.mr_streams.specs.Served.{AreDue, IsAnswered}
use Rattle.mr_streams.specs.StreamsView.{Visit}
use Rattle.mr_streams.proofs.Asking.{issued_new, begun_next, denies_core, fails_next}
use Rattle.mr_streams.proofs.Dues.{Grew, GrewAt, AreNoFlush, all_grew, grew_none, grew_on}
use Rattle.mr_streams.proofs.Fronts.{has_left}
use Rattle.mr_streams.proofs.Lists.{at_left, at_new}
use Rattle.mr_streams.proofs.Origins.{IsAsked, HasOrigins, AreAsked, origins_still, all_happen}
use Rattle.mr_streams.proofs.Reading.{TextIs, HeldIs, ReadsFrom, fetch_next}

-- a client between what it sent and what it is told
pub record ClientOk (history : List Entry) (visit : Visit) (client : Client) (inbox : Inbox) : Type 0 where
  pub bytes : List ℕ
  pub held : List ℕ
  pub tail : List ℕ
  pub sent : visit.sent ≡ bytes ++ (held ++ tail)
  pub holds : HeldIs inbox.held held
  pub reads : inbox.reader.closed ≡ false → ReadsFrom inbox tail
  pub reads_on : Bool
  pub over : reads_on ≡ false → (inbox.held ≡ None) × (inbox.reader.closed ≡ true)
  pub held_over : (refusal : TextError) → inbox.held ≡ Some (input.Refused refusal) → skips_line refusal ≡ false → inbox.reader.closed ≡ true
  pub due : AreDue history reads_on bytes (map due_of_turn (visit.put ++ client.turns))
  pub heard : visit.heard ++ client.out ≡ flat_map told_text visit.put
  pub none_waits : (place : ℕ) (op : OpId) → ¬ At visit.put place (Waits op)
  pub answered : (place : ℕ) (answer : AnswerView) → At visit.put place (Answered answer) → IsAnswered history answer

answered_still : (history gains : List Entry) (answer : AnswerView) → IsAnswered history answer → IsAnswered (history ++ gains) answer
answered_still history gains answer h = record {
  issue = h.issue;
  issued = record { proxy = h.issued.proxy; there = at_left gains h.issued.there };
  told = λ wants. has_left gains (h.told wants);
}

due_still : (history gains : List Entry) (reads_on : Bool) (bytes : List ℕ) (dues : List Due) → AreDue history reads_on bytes dues → AreDue (history ++ gains) reads_on bytes dues
due_still history gains reads_on bytes dues AreDue.begins = AreDue.begins
due_still history gains reads_on bytes dues (AreDue.issued {bytes = before} {dues = others} text asked op place h spells is) =
    AreDue.issued text asked op place (due_still history gains true before others h) spells (record { proxy = is.proxy; there = at_left gains is.there })
due_still history gains reads_on bytes dues (AreDue.denied {bytes = before} {dues = others} text asked why h spells) = AreDue.denied text asked why (due_still history gains true before others h) spells
due_still history gains reads_on bytes dues (AreDue.refused {bytes = before} {dues = others} text refusal h is) = AreDue.refused text refusal (due_still history gains true before others h) is

-- the history gains entries
pub ok_still : (history gains : List Entry) (visit : Visit) (client : Client) (inbox : Inbox) → ClientOk history visit client inbox → ClientOk (history ++ gains) visit client inbox
ok_still history gains visit client inbox h = record {
  bytes = h.bytes;
  held = h.held;
  tail = h.tail;
  sent = h.sent;
  holds = h.holds;
  reads = h.reads;
  reads_on = h.reads_on;
  over = h.over;
  held_over = h.held_over;
  due = due_still history gains h.reads_on h.bytes (map due_of_turn (visit.put ++ client.turns)) h.due;
  heard = h.heard;
  none_waits = h.none_waits;
  answered = λ place answer at. answered_still history gains answer (h.answered place answer at);
}

-- the client's turns change, but nothing becomes due and nothing is told
pub ok_stays : (history : List Entry) (visit : Visit) (clients : List Client) (place : ℕ) (client : Client) (inbox : Inbox) (g : GrewAt clients place [] client) → ClientOk history visit g.was inbox
    → ClientOk history visit client inbox
ok_stays history visit clients place client inbox g h = record {
  bytes = h.bytes;
  held = h.held;
  tail = h.tail;
  sent = h.sent;
  holds = h.holds;
  reads = h.reads;
  reads_on = h.reads_on;
  over = h.over;
  held_over = h.held_over;
  due = subst (λ d. AreDue history h.reads_on h.bytes d)
      (map-append due_of_turn visit.put g.was.turns
      ∙ ap (λ x. map due_of_turn visit.put ++ x) (sym (append-nil (map due_of_turn g.was.turns)) ∙ sym g.dues)
      ∙ sym (map-append due_of_turn visit.put client.turns)) h.due;
  heard = ap (λ x. visit.heard ++ x) g.same_out ∙ h.heard;
  none_waits = h.none_waits;
  answered = h.answered;
}

-- what one thing that a client sent makes due to it
pub record IsDoneSo (asker : Asker) (front front' : FrontView) (next : Input) (more : List Due) : Type 0 where
  pub events : List Event
  pub happens : front' ≡ after_all events front
  pub no_flush : AreNoFlush events
  pub here : due asker.client events front ≡ more
  pub elsewhere : (place : ℕ) → place ≢ asker.client → due place events front ≡ []

if_here : (b : Bool) (x : List Due) → b ≡ true → (if b then x else []) ≡ x
if_here true x e = refl
if_here false x e = absurd (let never : false ≡ true = e in cc)

if_elsewhere : (b : Bool) (x : List Due) → b ≡ false → (if b then x else []) ≡ []
if_elsewhere true x e = absurd (let never : true ≡ false = e in cc)
if_elsewhere false x e = refl

at_client : (client : ℕ) (x : List Due) → (if client == client then x else []) ≡ x
at_client client x = if_here (client == client) x (eq-eqb client client refl)

not_at : (client place : ℕ) (x : List Due) → place ≢ client → (if client == place then x else []) ≡ []
not_at client place x other = if_elsewhere (client == place) x (ne_eqb client place (λ e. other (sym e)))

tells_here : (client : ℕ) (o : Option Reply) (f : FrontView) → due client (tells client o) f ≡ map Due.Line (option_to_list o)
tells_here client None f = refl
tells_here client (Some reply) f = append-nil (if client == client then Due.Line reply ∷ [] else []) ∙ at_client client (Due.Line reply ∷ [])

tells_elsewhere : (client place : ℕ) (o : Option Reply) (f : FrontView) → place ≢ client → due place (tells client o) f ≡ []
tells_elsewhere client place None f other = refl
tells_elsewhere client place (Some reply) f other = append-nil (if client == place then Due.Line reply ∷ [] else []) ∙ not_at client place (Due.Line reply ∷ []) other

tells_no_flush : (client : ℕ) (o : Option Reply) → AreNoFlush (tells client o)
tells_no_flush client None = tt
tells_no_flush client (Some reply) = (tt, tt)

begins_here : (asker : Asker) (asked : Request) (all : Bool) (f : FrontView) → due asker.client (begins asker asked all f.core) f ≡ Due.Op (next_op f.core) ∷ []
begins_here asker asked true f = append-nil (if asker.client == asker.client then Due.Op (next_op f.core) ∷ [] else []) ∙ at_client asker.client (Due.Op (next_op f.core) ∷ [])
begins_here asker asked false f = append-nil (if asker.client == asker.client then Due.Op (next_op f.core) ∷ [] else []) ∙ at_client asker.client (Due.Op (next_op f.core) ∷ [])

begins_elsewhere : (asker : Asker) (asked : Request) (all : Bool) (f : FrontView) (place : ℕ) → place ≢ asker.client → due place (begins asker asked all f.core) f ≡ []
begins_elsewhere asker asked true f place other =
    append-nil (if asker.client == place then Due.Op (next_op f.core) ∷ [] else []) ∙ not_at asker.client place (Due.Op (next_op f.core) ∷ []) other
begins_elsewhere asker asked false f place other =
    append-nil (if asker.client == place then Due.Op (next_op f.core) ∷ [] else []) ∙ not_at asker.client place (Due.Op (next_op f.core) ∷ []) other

begins_no_flush : (asker : Asker) (asked : Request) (all : Bool) (core : ProxyView) → AreNoFlush (begins asker asked all core)
begins_no_flush asker asked true core = (tt, tt)
begins_no_flush asker asked false core = (tt, (tt, tt))

-- what was read stands behind what was read before; of bytes that stop inside a request nothing was
abbrev with_text : Input → List ℕ → List ℕ → List ℕ
with_text (input.Refused Truncated) text bytes = bytes
with_text next text bytes = bytes ++ text

-- whether anything is read behind it
abbrev on_after : Input → Bool
on_after (input.Asks asked) = true
on_after (input.Refused Truncated) = true
on_after (input.Refused refusal) = skips_line refusal

behind : (next : Input) (visit : Visit) (bytes text tail : List ℕ) → visit.sent ≡ bytes ++ (text ++ tail) → TextIs next text → visit.sent ≡ with_text next text bytes ++ ([] ++ tail)
behind (input.Refused Truncated) visit bytes text tail sent is = sent ∙ ap (λ x. bytes ++ (x ++ tail)) is
behind next visit bytes text tail sent is = sent ∙ sym (append_assoc bytes text tail)

-- what one thing that a client sent does, and makes due
pub record DoneDue (asker : Asker) (history : List Entry) (front front' : FrontView) (next : Input) : Type 0 where
  pub more : List Due
  pub so : IsDoneSo asker front front' next more
  pub own : AllByRecursion (IsIssuedBy (issued_by next front.core front'.core)) more
  pub asked : AreAsked (history ++ issued_by next front.core front'.core) so.events front
  pub due : (bytes text : List ℕ) (dues : List Due) → TextIs next text → AreDue history true bytes dues
      → AreDue (history ++ issued_by next front.core front'.core) (on_after next) (with_text next text bytes) (dues ++ more)

tells_asked : (history : List Entry) (client : ℕ) (o : Option Reply) (front : FrontView) → AreAsked history (tells client o) front
tells_asked history client None front = tt
tells_asked history client (Some reply) front = (tt, tt)

begins_asked : (history : List Entry) (asker : Asker) (asked : Request) (all : Bool) (front : FrontView) → IsAsked history (next_op front.core) asked → AreAsked history (begins asker asked all front.core) front
begins_asked history asker asked true front h = (h, tt)
begins_asked history asker asked false front h = (h, (tt, tt))

denied_so : (asker : Asker) (asked : Request) (why : Cause) (front front' : FrontView) → front' ≡ after_all (denies asker.client asked why) front
    → IsDoneSo asker front front' (input.Asks asked) (map Due.Line (option_to_list (denial asked why)))
denied_so asker asked why front front' happens = record {
  events = denies asker.client asked why;
  happens = happens;
  no_flush = (tt, tells_no_flush asker.client (denial asked why));
  here = tells_here asker.client (denial asked why) (after_event (Event.Denies why) front);
  elsewhere = λ place other. tells_elsewhere asker.client place (denial asked why) (after_event (Event.Denies why) front) other;
}

issued_there : (history : List Entry) (asked : Request) (old new : ProxyView) → new.next ≡ old.next + 1 → IsIssued (history ++ issued_by (input.Asks asked) old new) (next_op old) asked (length history)
issued_there history asked old new e = record {
  proxy = old.number;
  there = subst (λ g. At (history ++ g) (length history) (entry.Issued (next_op old) old.number asked)) (sym (issued_new asked old new e)) (at_new history (entry.Issued (next_op old) old.number asked));
}

-- no request is a line's
lines_own : (gains : List Entry) (replies : List Reply) → AllByRecursion (IsIssuedBy gains) (map Due.Line replies)
lines_own gains [] = tt
lines_own gains (reply ∷ replies) = (tt, lines_own gains replies)

refused_due : (refusal : TextError) (history : List Entry) (bytes text : List ℕ) (dues : List Due) → TextIs (input.Refused refusal) text → AreDue history true bytes dues
    → AreDue history (on_after (input.Refused refusal)) (with_text (input.Refused refusal) text bytes) (dues ++ map Due.Line (option_to_list (reply_to_refusal refusal)))
refused_due LineTooLong history bytes text dues is h = AreDue.refused text LineTooLong h is
refused_due BadKey history bytes text dues is h = AreDue.refused text BadKey h is
refused_due BadNumber history bytes text dues is h = AreDue.refused text BadNumber h is
refused_due WrongWords history bytes text dues is h = AreDue.refused text WrongWords h is
refused_due DataTooLong history bytes text dues is h = AreDue.refused text DataTooLong h is
refused_due BadDataEnd history bytes text dues is h = AreDue.refused text BadDataEnd h is
refused_due (UnknownCommand closes) history bytes text dues is h = AreDue.refused text (UnknownCommand closes) h is
refused_due Truncated history bytes text dues is h = subst (λ d. AreDue history true bytes d) (sym (append-nil dues)) h
refused_due Closed history bytes text dues is h = AreDue.refused text Closed h is
refused_due OutOfMemory history bytes text dues is h = AreDue.refused text OutOfMemory h is

pub done_due : (next : Input) (asker : Asker) (history : List Entry) (front front' : FrontView) (links links' : List Link) → IsDoneFor asker front links next front' links'
    → DoneDue asker history front front' next
unfolding denied_so
done_due (input.Asks asked) asker history front front' links links' h =
    let core : ProxyView = front.core in
    let gains : List Entry = issued_by (input.Asks asked) core front'.core in
    elim h [
      | inl begun ↦ (
          let all : Bool = all_up core.routing (sheets_of core asker.reading asked) links in
          let next_is : front'.core.next ≡ core.next + 1 = ap (λ (f : FrontView). f.core.next) begun.happens ∙ begun_next asker asked all front in
          record {
            more = Due.Op (next_op core) ∷ [];
            so = record {
              events = begins asker asked all core;
              happens = begun.happens;
              no_flush = begins_no_flush asker asked all core;
              here = begins_here asker asked all front;
              elsewhere = λ place other. begins_elsewhere asker asked all front place other;
            };
            own = (record { place = 0; request = asked; issued = issued_there [] asked core front'.core next_is }, tt);
            asked = begins_asked (history ++ gains) asker asked all front (record { issue = length history; issued = issued_there history asked core front'.core next_is });
            due = λ bytes text dues is was. AreDue.issued text asked (next_op core) (length history) (due_still history gains true bytes dues was) is.0 (issued_there history asked core front'.core next_is);
          })
      | inr other ↦ elim other [
        | inl quits ↦ record {
          more = [];
          so = record {
            events = [];
            happens = quits.0.unchanged;
            no_flush = tt;
            here = refl;
            elsewhere = λ place ne. refl;
          };
          own = tt;
          asked = tt;
          due = λ bytes text dues is was. absurd (is.1 quits.0.quits);
        }
        | inr third ↦ elim third [
          | inl spent ↦ record {
            more = map Due.Line (option_to_list (denial asked cause.NumbersSpent));
            so = denied_so asker asked cause.NumbersSpent front front' spent.0.happens;
            own = lines_own gains (option_to_list (denial asked cause.NumbersSpent));
            asked = (tt, tells_asked (history ++ gains) asker.client (denial asked cause.NumbersSpent) (after_event (Event.Denies cause.NumbersSpent) front));
            due = λ bytes text dues is was. AreDue.denied text asked cause.NumbersSpent (due_still history gains true bytes dues was) is.0;
          }
          | inr memory ↦ elim memory.0.either [
            | inl none ↦ record {
              more = map Due.Line (option_to_list (denial asked cause.OutOfMemory));
              so = denied_so asker asked cause.OutOfMemory front front' (memory.0.happens ∙ ap (λ x. after_all (x ++ denies asker.client asked cause.OutOfMemory) front) none);
              own = lines_own gains (option_to_list (denial asked cause.OutOfMemory));
              asked = (tt, tells_asked (history ++ gains) asker.client (denial asked cause.OutOfMemory) (after_event (Event.Denies cause.OutOfMemory) front));
              due = λ bytes text dues is was. AreDue.denied text asked cause.OutOfMemory (due_still history gains true bytes dues was) is.0;
            }
            | inr failed ↦ (
                let between : FrontView = after_all (fails asker asked core) front in
                let o : Option Reply = denial asked cause.OutOfMemory in
                let happens : front' ≡ after_all (denies asker.client asked cause.OutOfMemory) between =
                memory.0.happens ∙ ap (λ x. after_all (x ++ denies asker.client asked cause.OutOfMemory) front) failed in
                let same : front'.core ≡ between.core = ap (λ (f : FrontView). f.core) happens ∙ denies_core asker.client asked cause.OutOfMemory between in
                let next_is : front'.core.next ≡ core.next + 1 = ap (λ (p : ProxyView). p.next) same ∙ fails_next asker asked front in
                record {
                  more = map Due.Line (option_to_list o);
                  so = record {
                    events = fails asker asked core ++ denies asker.client asked cause.OutOfMemory;
                    happens = happens;
                    no_flush = (tt, (tt, (tt, tells_no_flush asker.client o)));
                    here = tells_here asker.client o (after_event (Event.Denies cause.OutOfMemory) between);
                    elsewhere = λ place ne. tells_elsewhere asker.client place o (after_event (Event.Denies cause.OutOfMemory) between) ne;
                  };
                  own = lines_own gains (option_to_list o);
                  asked = (
                    record { issue = length history; issued = issued_there history asked core front'.core next_is },
                    (tt, (tt, tells_asked (history ++ gains) asker.client o (after_event (Event.Denies cause.OutOfMemory) between))),
                  );
                  due = λ bytes text dues is was. AreDue.denied text asked cause.OutOfMemory (due_still history gains true bytes dues was) is.0;
                })
          ]
        ]
      ]
    ]
done_due (input.Refused refusal) asker history front front' links links' h =
    let o : Option Reply = reply_to_refusal refusal in
    record {
      more = map Due.Line (option_to_list o);
      so = record {
        events = tells asker.client o;
        happens = h.0;
        no_flush = tells_no_flush asker.client o;
        here = tells_here asker.client o front;
        elsewhere = λ place other. tells_elsewhere asker.client place o front other;
      };
      own = lines_own [] (option_to_list o);
      asked = tells_asked (history ++ []) asker.client o front;
      due = λ bytes text dues is was. refused_due refusal (history ++ []) bytes text dues is (due_still history [] true bytes dues was);
    }

-- the client that asks, and the others, after some things that it sent
pub record AskedSo (asker : Asker) (history : List Entry) (visit : Visit) (first : FrontView) (new : Asking) : Type 0 where
  pub grows : ℕ → List Due
  pub grew : Grew first.clients grows new.front.clients
  pub elsewhere : (place : ℕ) → place ≢ asker.client → grows place ≡ []
  pub origins : HasOrigins history new.front
  pub here : (client : Client) → At new.front.clients asker.client client → ClientOk history visit client new.inbox

must_be : (b : Bool) → (b ≡ false → ⊥) → b ≡ true
must_be true h = refl
must_be false h = absurd (h refl)

-- a reader that refuses a text isn't closed before
read_open : (refusal : TextError) (is_done : Bool) (old new : Inbox) → ReadsOne old (Err refusal) is_done new → refusal ≢ Closed → refusal ≢ OutOfMemory → old.reader.closed ≡ false
read_open LineTooLong is_done old new r a b = r.next.0
read_open BadKey is_done old new r a b = r.next.0
read_open BadNumber is_done old new r a b = r.next.0
read_open WrongWords is_done old new r a b = r.next.0
read_open DataTooLong is_done old new r a b = r.next.0
read_open BadDataEnd is_done old new r a b = r.next.0
read_open (UnknownCommand true) is_done old new r a b = r.next.0
read_open (UnknownCommand false) is_done old new r a b = r.next.0
read_open Truncated is_done old new r a b = r.next.0
read_open Closed is_done old new r a b = absurd (a refl)
read_open OutOfMemory is_done old new r a b = absurd (b refl)

-- what is fetched was held back, or read by a reader that isn't closed
fetched_open : (next : Input) (old new : Inbox) → FetchIs old (Came next) new → old.held ≡ None → old.reader.closed ≡ true → ⊥
fetched_open (input.Asks asked) old new h none closed =
    elim h [
      | inl takes ↦ (let never : None ≡ Some (input.Asks asked) = sym none ∙ takes.held in cc)
      | inr r ↦ (let never : true ≡ false = sym closed ∙ r.0.next.0 in cc)
    ]
fetched_open (input.Refused refusal) old new h none closed =
    elim h [
      | inl takes ↦ (let never : None ≡ Some (input.Refused refusal) = sym none ∙ takes.held in cc)
      | inr r ↦ (let never : true ≡ false = sym closed ∙ read_open refusal _ old new r.0 r.1 r.2 in cc)
    ]

-- a refusal behind which nothing is read closes the reader
read_closed : (refusal : TextError) (is_done : Bool) (old new : Inbox) → ReadsOne old (Err refusal) is_done new → refusal ≢ Closed → refusal ≢ OutOfMemory → skips_line refusal ≡ false → new.reader.closed ≡ true
read_closed LineTooLong is_done old new r a b s = r.next.2.is_closed
read_closed BadKey is_done old new r a b s = r.next.2.is_closed
read_closed BadNumber is_done old new r a b s = r.next.2.is_closed
read_closed WrongWords is_done old new r a b s = r.next.2.is_closed
read_closed DataTooLong is_done old new r a b s = r.next.2.is_closed
read_closed BadDataEnd is_done old new r a b s = r.next.2.is_closed
read_closed (UnknownCommand true) is_done old new r a b s = r.next.2.is_closed
read_closed (UnknownCommand false) is_done old new r a b s = absurd (let never : true ≡ false = s in cc)
read_closed Truncated is_done old new r a b s = r.next.3.is_closed
read_closed Closed is_done old new r a b s = absurd (a refl)
read_closed OutOfMemory is_done old new r a b s = absurd (b refl)

abbrev HeldOver : Inbox → Type 0
HeldOver inbox = (refusal : TextError) → inbox.held ≡ Some (input.Refused refusal) → skips_line refusal ≡ false → inbox.reader.closed ≡ true

refused_closed : (refusal : TextError) (old new : Inbox) → FetchIs old (Came (input.Refused refusal)) new → HeldOver old → skips_line refusal ≡ false → new.reader.closed ≡ true
refused_closed refusal old new h held s =
    elim h [
      | inl takes ↦ ap (λ (i : Inbox). i.reader.closed) takes.taken ∙ held refusal takes.held s
      | inr r ↦ read_closed refusal _ old new r.0 r.1 r.2 s
    ]

over_skips : (refusal : TextError) → on_after (input.Refused refusal) ≡ false → skips_line refusal ≡ false
over_skips LineTooLong e = e
over_skips BadKey e = e
over_skips BadNumber e = e
over_skips WrongWords e = e
over_skips DataTooLong e = e
over_skips BadDataEnd e = e
over_skips (UnknownCommand closes) e = e
over_skips Truncated e = absurd (let never : true ≡ false = e in cc)
over_skips Closed e = e
over_skips OutOfMemory e = e

over_closed : (next : Input) (old new : Inbox) → FetchIs old (Came next) new → HeldOver old → on_after next ≡ false → new.reader.closed ≡ true
over_closed (input.Asks asked) old new h held e = absurd (let never : true ≡ false = e in cc)
over_closed (input.Refused refusal) old new h held e = refused_closed refusal old new h held (over_skips refusal e)

one_asked : (asker : Asker) (history : List Entry) (visit : Visit) (first : FrontView) (old new : Asking) → AskedSo asker history visit first old → (one : DoesOne asker old new)
    → AskedSo asker (history ++ issued_by one.input old.front.core new.front.core) visit first new
one_asked asker history visit first old new a one =
    let place : ℕ = asker.client in
    let next : Input = one.input in
    let gains : List Entry = issued_by next old.front.core new.front.core in
    let done = done_due next asker history old.front new.front old.links new.links one.done in
    let made : ℕ → List Due = λ n. due n done.so.events old.front in
    let grew : Grew old.front.clients made new.front.clients =
    subst (λ (f : FrontView). Grew old.front.clients made f.clients) (sym done.so.happens) (all_grew done.so.events old.front done.so.no_flush) in
    record {
      grows = λ n. a.grows n ++ made n;
      grew = grew_on first.clients old.front.clients new.front.clients a.grows made a.grew grew;
      elsewhere = λ n other. ap (λ x. x ++ made n) (a.elsewhere n other) ∙ done.so.elsewhere n other;
      origins = subst (λ f. HasOrigins (history ++ gains) f) (sym done.so.happens)
          (all_happen (history ++ gains) done.so.events old.front done.asked (origins_still history gains old.front a.origins));
      here = λ client there. (
          let g = grew.each place client there in
          let ok = a.here g.was g.there in
          let read = fetch_next next visit ok.bytes ok.held ok.tail old.inbox one.fetched ok.sent ok.holds ok.reads one.came in
          let dues : map due_of_turn (visit.put ++ client.turns) ≡ map due_of_turn (visit.put ++ g.was.turns) ++ done.more =
          map-append due_of_turn visit.put client.turns ∙ ap (λ x. map due_of_turn visit.put ++ x) (g.dues ∙ ap (λ x. map due_of_turn g.was.turns ++ x) done.so.here)
          ∙ sym (append_assoc (map due_of_turn visit.put) (map due_of_turn g.was.turns) done.more) ∙ ap (λ x. x ++ done.more) (sym (map-append due_of_turn visit.put g.was.turns)) in
          let was_due : List Due = map due_of_turn (visit.put ++ g.was.turns) in
          let on : ok.reads_on ≡ true = must_be ok.reads_on (λ e. (let o = ok.over e in fetched_open next old.inbox one.fetched one.came o.0 o.1)) in
          let due_now_is : AreDue (history ++ gains) (on_after next) (with_text next read.text ok.bytes) (map due_of_turn (visit.put ++ client.turns)) =
          subst (λ d. AreDue (history ++ gains) (on_after next) (with_text next read.text ok.bytes) d) (sym dues)
          (done.due ok.bytes read.text was_due read.is (subst (λ b. AreDue history b ok.bytes was_due) on ok.due)) in
          let none : new.inbox.held ≡ None = ap (λ (i : Inbox). i.held) one.goes_on ∙ read.none_held in
          record {
            bytes = with_text next read.text ok.bytes;
            held = [];
            tail = read.tail;
            sent = behind next visit ok.bytes read.text read.tail read.sent read.is;
            holds = subst (λ o. HeldIs o []) (sym (ap (λ (i : Inbox). i.held) one.goes_on ∙ read.none_held)) refl;
            reads = λ e. (let was = read.reads (ap (λ (i : Inbox). i.reader.closed) (sym one.goes_on) ∙ e) in record {
              lost = was.lost;
              kept = was.kept ∙ ap (λ (i : Inbox). i.reader.kept ++ was.lost) (sym one.goes_on);
              nothing = λ f. was.nothing (ap (λ (i : Inbox). i.reader.ended) (sym one.goes_on) ∙ f);
            });
            reads_on = on_after next;
            over = λ e. (none, ap (λ (i : Inbox). i.reader.closed) one.goes_on ∙ over_closed next old.inbox one.fetched one.came ok.held_over e);
            held_over = λ refusal e s. absurd (let never : None ≡ Some (input.Refused refusal) = sym none ∙ e in cc);
            due = due_now_is;
            heard = ap (λ x. visit.heard ++ x) g.same_out ∙ ok.heard;
            none_waits = ok.none_waits;
            answered = λ n answer at. answered_still history gains answer (ok.answered n answer at);
          });
    }

asks_first : (asker : Asker) (history : List Entry) (visit : Visit) (old : Asking) → HasOrigins history old.front → ((client : Client) → At old.front.clients asker.client client → ClientOk history visit client old.inbox)
    → AskedSo asker history visit old.front old
asks_first asker history visit old origins ok = record { grows = λ n. []; grew = grew_none old.front.clients; elsewhere = λ n other. refl; origins = origins; here = ok }

asked_so_to : (asker : Asker) (history history' : List Entry) (visit : Visit) (first : FrontView) (new : Asking) → history' ≡ history → AskedSo asker history visit first new → AskedSo asker history' visit first new
asked_so_to asker history history' visit first new e h = subst (λ x. AskedSo asker x visit first new) (sym e) h

pub all_asked : (asker : Asker) (old new : Asking) (did : DoesAll asker old new) (history : List Entry) (visit : Visit) → HasOrigins history old.front
    → ((client : Client) → At old.front.clients asker.client client → ClientOk history visit client old.inbox) → AskedSo asker (history ++ issued_in did) visit old.front new
all_asked asker old new DoesAll.starts history visit origins ok = asked_so_to asker history (history ++ []) visit old.front old (append-nil history) (asks_first asker history visit old origins ok)
all_asked asker old new (DoesAll.goes_on {between = between} before one) history visit origins ok =
    let first = all_asked asker old between before history visit origins ok in
    let gains : List Entry = issued_by one.input between.front.core new.front.core in
    asked_so_to asker ((history ++ issued_in before) ++ gains) (history ++ (issued_in before ++ gains)) visit old.front new (sym (append_assoc history (issued_in before) gains))
    (one_asked asker (history ++ issued_in before) visit old.front between new first one)

-- nothing more is done: the inbox stands so
ok_inbox : (history : List Entry) (visit : Visit) (client : Client) (old new : Inbox) (ok : ClientOk history visit client old) → (held tail : List ℕ)
    → visit.sent ≡ ok.bytes ++ (held ++ tail) → HeldIs new.held held → (new.reader.closed ≡ false → ReadsFrom new tail)
    → (ok.reads_on ≡ false → (new.held ≡ None) × (new.reader.closed ≡ true)) → HeldOver new → ClientOk history visit client new
ok_inbox history visit client old new ok held tail sent holds reads over held_over = record {
  bytes = ok.bytes;
  held = held;
  tail = tail;
  sent = sent;
  holds = holds;
  reads = reads;
  reads_on = ok.reads_on;
  over = over;
  held_over = held_over;
  due = ok.due;
  heard = ok.heard;
  none_waits = ok.none_waits;
  answered = ok.answered;
}

stays_closed : (old new : Inbox) → (new.reader.closed ≡ false → old.reader.closed ≡ false) → old.reader.closed ≡ true → new.reader.closed ≡ true
stays_closed old new h closed = must_be new.reader.closed (λ e. (let never : true ≡ false = sym closed ∙ h e in cc))

-- the reader has the same bytes, and what was held is held
ok_reader : (history : List Entry) (visit : Visit) (client : Client) (old new : Inbox) → ClientOk history visit client old → new.held ≡ old.held
    → (new.reader.closed ≡ false → (old.reader.closed ≡ false) × (new.reader.kept ≡ old.reader.kept) × (new.reader.ended ≡ false → old.reader.ended ≡ false))
    → ClientOk history visit client new
ok_reader history visit client old new ok held reader =
    ok_inbox history visit client old new ok ok.held ok.tail ok.sent (subst (λ o. HeldIs o ok.held) (sym held) ok.holds) (λ e. (
    let r = reader e in
    let was = ok.reads r.0 in
    record { lost = was.lost; kept = was.kept ∙ ap (λ x. x ++ was.lost) (sym r.1); nothing = λ f. was.nothing (r.2 f) }))
    (λ e. (let o = ok.over e in (held ∙ o.0, stays_closed old new (λ f. (reader f).0) o.1)))
    (λ refusal e s. stays_closed old new (λ f. (reader f).0) (ok.held_over refusal (sym held ∙ e) s))

held_closed : (refusal : TextError) (next : Input) (old new : Inbox) → FetchIs old (Came next) new → HeldOver old → next ≡ input.Refused refusal → skips_line refusal ≡ false → new.reader.closed ≡ true
held_closed refusal next old new h held same s = refused_closed refusal old new (subst (λ n. FetchIs old (Came n) new) same h) held s

held_ok : (history : List Entry) (visit : Visit) (client : Client) (asker : Asker) (old new : Asking) (next : Input) → ClientOk history visit client old.inbox → HoldsBack asker old new next
    → ClientOk history visit client new.inbox
held_ok history visit client asker old new next ok h =
    let read = fetch_next next visit ok.bytes ok.held ok.tail old.inbox h.fetched ok.sent ok.holds ok.reads h.came in
    ok_inbox history visit client old.inbox new.inbox ok read.text read.tail read.sent
    (subst (λ o. HeldIs o read.text) (ap (λ (a : Asking). a.inbox.held) (sym h.held)) read.is)
    (λ e. (let was = read.reads (ap (λ (a : Asking). a.inbox.reader.closed) (sym h.held) ∙ e) in record {
      lost = was.lost;
      kept = was.kept ∙ ap (λ (a : Asking). a.inbox.reader.kept ++ was.lost) (sym h.held);
      nothing = λ f. was.nothing (ap (λ (a : Asking). a.inbox.reader.ended) (sym h.held) ∙ f);
    }))
    (λ e. absurd (let o = ok.over e in fetched_open next old.inbox h.fetched h.came o.0 o.1))
    (λ refusal e s. ap (λ (a : Asking). a.inbox.reader.closed) h.held ∙ held_closed refusal next old.inbox h.fetched h.came ok.held_over
    (let both : Some next ≡ Some (input.Refused refusal) = sym (ap (λ (a : Asking). a.inbox.held) h.held) ∙ e in cc) s)

closed_ok : (history : List Entry) (visit : Visit) (client : Client) (old new : Inbox) → ClientOk history visit client old → new.held ≡ None → old.held ≡ None → new.reader.closed ≡ true
    → ClientOk history visit client new
closed_ok history visit client old new ok none was closed =
    ok_reader history visit client old new ok (none ∙ sym was) (λ e. absurd (let never : true ≡ false = sym closed ∙ e in cc))

done_ok : (history : List Entry) (visit : Visit) (client : Client) (old new : Inbox) → ClientOk history visit client old → FetchIs old Done new → ClientOk history visit client new
done_ok history visit client old new ok fetch =
    elim fetch [
      | inl over ↦ subst (λ i. ClientOk history visit client i) (sym over.2) ok
      | inr reads ↦ elim reads [
        | inl quits ↦ closed_ok history visit client old new ok quits.same_held quits.none_held quits.next.3.is_closed
        | inr other ↦ elim other [
          | inl ended ↦ ok_reader history visit client old new ok (ended.0.same_held ∙ sym ended.0.none_held)
              (λ e. (ended.0.next.0, ended.0.next.3.stands, λ f. sym ended.0.next.3.is_ended ∙ f))
          | inr closed ↦ closed_ok history visit client old new ok closed.same_held closed.none_held closed.next.1.is_closed
        ]
      ]
    ]

pub stops_ok : (asker : Asker) (pause : Pause) (history : List Entry) (visit : Visit) (client : Client) (old new : Asking) → ClientOk history visit client old.inbox → StopsFor asker pause old new
    → ClientOk history visit client new.inbox
stops_ok asker NeedsReader history visit client old new ok h = subst (λ (a : Asking). ClientOk history visit client a.inbox) (sym h.1) ok
stops_ok asker NeedsBytes history visit client old new ok h =
    ok_reader history visit client old.inbox new.inbox ok (h.0.0.same_held ∙ sym h.0.0.none_held) (λ e. (h.0.0.next.0, h.0.0.next.3.stands, λ f. sym h.0.0.next.3.is_ended ∙ f))
stops_ok asker IsDone history visit client old new ok h = done_ok history visit client old.inbox new.inbox ok h.0
stops_ok asker NeedsRoom history visit client old new ok h = held_ok history visit client asker old new (input.Asks h.0) ok h.1
stops_ok asker (NeedsQueue number) history visit client old new ok h = held_ok history visit client asker old new (input.Asks h.0) ok h.1
stops_ok asker NeedsMemory history visit client old new ok h =
    elim h [
      | inl unread ↦ subst (λ (a : Asking). ClientOk history visit client a.inbox) (sym unread.left)
          (ok_reader history visit client old.inbox (record unread.fetched { waits = true }) ok (unread.refused.same_held ∙ sym unread.refused.none_held)
          (λ e. (unread.refused.next.0, unread.refused.next.4.stands, λ f. sym unread.refused.next.4.is_ended ∙ f)))
      | inr held ↦ held_ok history visit client asker old new held.0 ok held.1
    ]

or_false : (a b : Bool) → a ≡ false → b ≡ false → IsTrue (a || b) → ⊥
or_false true b ea eb h = (let never : true ≡ false = ea in cc)
or_false false true ea eb h = (let never : true ≡ false = eb in cc)
or_false false false ea eb h = (let never : false ≡ true = h in cc)

-- bytes of a client came
pub piece_ok : (history : List Entry) (visit : Visit) (client : Client) (piece : List ℕ) (old new : Inbox) → ClientOk history visit client old → TakesPiece piece old new
    → ClientOk history (record visit { sent = visit.sent ++ piece }) client new
piece_ok history visit client piece old new ok (inl takes) =
    let was = ok.reads takes.1 in
    let none : was.lost ≡ [] = was.nothing takes.2 in
    record {
      bytes = ok.bytes;
      held = ok.held;
      tail = ok.tail ++ piece;
      sent = ap (λ x. x ++ piece) ok.sent ∙ append_assoc ok.bytes (ok.held ++ ok.tail) piece ∙ ap (λ x. ok.bytes ++ x) (append_assoc ok.held ok.tail piece);
      holds = subst (λ o. HeldIs o ok.held) (ap (λ (i : Inbox). i.held) (sym takes.3)) ok.holds;
      reads = λ e. record {
        lost = [];
        kept = ap (λ x. x ++ piece) (was.kept ∙ ap (λ x. old.reader.kept ++ x) none ∙ append-nil old.reader.kept) ∙ sym takes.0.stands ∙ sym (append-nil new.reader.kept);
        nothing = λ f. refl;
      };
      reads_on = ok.reads_on;
      over = λ e. absurd (let never : true ≡ false = sym (ok.over e).1 ∙ takes.1 in cc);
      held_over = λ refusal e s. absurd (let never : true ≡ false = sym (ok.held_over refusal (sym (ap (λ (i : Inbox). i.held) takes.3) ∙ e) s) ∙ takes.1 in cc);
      due = ok.due;
      heard = ok.heard;
      none_waits = ok.none_waits;
      answered = ok.answered;
    }
piece_ok history visit client piece old new ok (inr takes) = record {
  bytes = ok.bytes;
  held = ok.held;
  tail = ok.tail ++ piece;
  sent = ap (λ x. x ++ piece) ok.sent ∙ append_assoc ok.bytes (ok.held ++ ok.tail) piece ∙ ap (λ x. ok.bytes ++ x) (append_assoc ok.held ok.tail piece);
  holds = subst (λ o. HeldIs o ok.held) (ap (λ (i : Inbox). i.held) (sym takes.2)) ok.holds;
  reads = λ e. (
      let open_ : old.reader.closed ≡ false = sym takes.1.is_closed ∙ e in
      let was = ok.reads open_ in
      record {
        lost = was.lost ++ piece;
        kept = ap (λ x. x ++ piece) was.kept ∙ append_assoc old.reader.kept was.lost piece ∙ ap (λ x. x ++ (was.lost ++ piece)) (sym takes.1.stands);
        nothing = λ f. (
            let unended : old.reader.ended ≡ false = sym takes.1.is_ended ∙ f in
            elim takes.0 [
              | inl over ↦ absurd (or_false old.reader.closed old.reader.ended open_ unended over)
              | inr empty ↦ ap (λ x. x ++ piece) (was.nothing unended) ∙ empty
            ]);
      });
  reads_on = ok.reads_on;
  over = λ e. (let o = ok.over e in (ap (λ (i : Inbox). i.held) takes.2 ∙ o.0, takes.1.is_closed ∙ o.1));
  held_over = λ refusal e s. takes.1.is_closed ∙ ok.held_over refusal (sym (ap (λ (i : Inbox). i.held) takes.2) ∙ e) s;
  due = ok.due;
  heard = ok.heard;
  none_waits = ok.none_waits;
  answered = ok.answered;
}

-- a client sends no more
pub ends_ok : (history : List Entry) (visit : Visit) (client : Client) (old new : Inbox) → ClientOk history visit client old → EndsInput old new → ClientOk history visit client new
ends_ok history visit client old new ok h =
    ok_reader history visit client old new ok (ap (λ (i : Inbox). i.held) h.becomes)
    (λ e. (sym h.reader.is_closed ∙ e, h.reader.stands, λ f. absurd (let never : true ≡ false = sym h.reader.is_ended ∙ f in cc)))
