-- What becomes due to the client of a place by events of its loop.
use Rattle.std.proofs.Common.{◌≡◌, ℕ, ◌==◌, inl, inr, Bool, true, false, List, [], ◌∷◌, ◌++◌, length, map, slice_get, slice_set, get_or, position, Option, Some, None, if◌then◌else◌, refl, sym, ap, ◌∙◌, subst, append_assoc, eq-eqb, ne_eqb}
use Rattle.std.proofs.lemmas.List.{append-nil, map-append, map-set, length-set}
use Rattle.std.proofs.lemmas.List.Quantifiers.{position-Some}
use Rattle.std.proofs.lemmas.Option.{slice_get-get_or}
use Rattle.mr_text.specs.declared.reply.Reply.{Reply}
use Rattle.mr_history.proofs.TestLemmas.{same_op}
use Rattle.mr_history.specs.Places.{At}
use Rattle.mr_history.specs.declared.entry.Entry.{Entry}
use Rattle.mr_history.specs.declared.op_id.OpId.{OpId}
use Rattle.mr_proxy.specs.Answer.{AnswerView}
use Rattle.mr_proxy.specs.Issue.{next_op}
use Rattle.mr_proxy.specs.ProxyView.{ProxyView}
use Rattle.mr_proxy.specs.Replay.{answer_at}
use Rattle.mr_proxy.specs.declared.step.Step.TheVariants.{Issue, Take, GiveUp}
use Rattle.mr_loop.specs.Events.{FrontView, Event, after_event, after_all, changed, changed_in, with_turn, with_answer, answered}
use Rattle.mr_join.specs.declared.leg_reply.LegReply.{LegReply}
use Rattle.mr_proxy.specs.declared.sheet.LegSheet.{LegSheet}
use Rattle.mr_loop.specs.Links.{legs_of}
use Rattle.mr_loop.specs.Returning.{TakesAll, TakesBytes, HasTaken, Breaks, give_ups, takings, standing}
use Rattle.mr_loop.specs.Runs.{Due, due_of_turn, due_now, due}
use Rattle.mr_loop.specs.Ticking.{ticks, given_up_at, is_late}
use Rattle.mr_loop.specs.Turns.{noted, noted_in, is_turn_of}
use Rattle.mr_loop.specs.declared.client.Client.{Client}
use Rattle.mr_loop.specs.declared.link.Link.{Link}
use Rattle.mr_loop.specs.declared.link.LinkEnd.{LinkEnd}
use Rattle.mr_loop.specs.declared.link.LinkEnd.TheVariants.{Whole, Surplus, Mismatch, Complaint, Refused, Down}
use Rattle.mr_loop.specs.declared.sent_legs.SentLeg.{SentLeg}
use Rattle.mr_loop.specs.declared.turns.Turn.{Turn}
use Rattle.mr_loop.specs.declared.turns.Turn.TheVariants.{Waits, Answered, Says}
use Rattle.mr_streams.proofs.Lists.{at_set, at_mapped, written_back, same_or_not}
use Rattle.mr_streams.proofs.Origins.{HasOrigins, EventIsAsked, AreAsked, all_happen}

turn_due : (op : OpId) (turn : Turn) → is_turn_of op turn ≡ true → due_of_turn turn ≡ Due.Op op
turn_due op (Waits own) e = ap (λ o. Due.Op o) (same_op own op e)
turn_due op (Answered answer) e = absurd (let never : false ≡ true = e in cc)
turn_due op (Says reply) e = absurd (let never : false ≡ true = e in cc)

due_noted_in : (answer : AnswerView) (turns : List Turn) (place : Option ℕ) → position (is_turn_of answer.op) turns ≡ place → map due_of_turn (noted_in turns place answer) ≡ map due_of_turn turns
due_noted_in answer turns None e = refl
due_noted_in answer turns (Some at) e =
    let found = position-Some (is_turn_of answer.op) turns at (Answered answer) e in
    let turn : Turn = get_or turns at (Answered answer) in
    let there : At turns at turn = record { gets = slice_get-get_or turns at (Answered answer) found.0 } in
    let own : due_of_turn turn ≡ Due.Op answer.op = turn_due answer.op turn found.1 in
    map-set due_of_turn turns at (Answered answer) ∙ ap (λ d. slice_set (map due_of_turn turns) at d) (sym own) ∙ written_back (at_mapped due_of_turn there)

-- an answer that is noted changes nothing of what is due
pub due_noted : (answer : AnswerView) (turns : List Turn) → map due_of_turn (noted answer turns) ≡ map due_of_turn turns
due_noted answer turns = due_noted_in answer turns (position (is_turn_of answer.op) turns) refl

-- the client of a place has this more due than before, and is told the same so far
pub record GrewAt (old : List Client) (place : ℕ) (more : List Due) (new : Client) : Type 0 where
  pub was : Client
  pub there : At old place was
  pub same_out : new.out ≡ was.out
  pub dues : map due_of_turn new.turns ≡ map due_of_turn was.turns ++ more

pub record Grew (old : List Client) (more : ℕ → List Due) (new : List Client) : Type 0 where
  pub count : length new ≡ length old
  pub each : (place : ℕ) (client : Client) → At new place client → GrewAt old place (more place) client

pub grew_none : (clients : List Client) → Grew clients (λ place. []) clients
grew_none clients = record {
  count = refl;
  each = λ place client there. record { was = client; there = there; same_out = refl; dues = sym (append-nil (map due_of_turn client.turns)) };
}

pub grew_on : (a b c : List Client) (first later : ℕ → List Due) → Grew a first b → Grew b later c → Grew a (λ place. first place ++ later place) c
grew_on a b c first later h k = record {
  count = k.count ∙ h.count;
  each = λ place client there. (
      let last = k.each place client there in
      let was = h.each place last.was last.there in
      record {
        was = was.was;
        there = was.there;
        same_out = last.same_out ∙ was.same_out;
        dues = last.dues ∙ ap (λ x. x ++ later place) was.dues ∙ append_assoc (map due_of_turn was.was.turns) (first place) (later place);
      });
}

pub grew_to : (a c : List Client) (first more : ℕ → List Due) → ((place : ℕ) → more place ≡ first place) → Grew a first c → Grew a more c
grew_to a c first more e h = record {
  count = h.count;
  each = λ place client there. (
      let was = h.each place client there in
      record { was = was.was; there = was.there; same_out = was.same_out; dues = was.dues ∙ ap (λ x. map due_of_turn was.was.turns ++ x) (sym (e place)) });
}

-- what one more turn makes due, to the client of its place
abbrev due_at : ℕ → Due → ℕ → List Due
due_at client one place = if client == place then one ∷ [] else []

due_here : (b : Bool) (one : Due) → b ≡ true → (if b then one ∷ [] else []) ≡ one ∷ []
due_here true one e = refl
due_here false one e = absurd (let never : false ≡ true = e in cc)

due_elsewhere : (b : Bool) (one : Due) → b ≡ false → (if b then one ∷ [] else []) ≡ []
due_elsewhere true one e = absurd (let never : true ≡ false = e in cc)
due_elsewhere false one e = refl

turn_grew_in : (o : Option Client) (client : ℕ) (turn : Turn) (clients : List Client) → slice_get clients client ≡ o
    → Grew clients (due_at client (due_of_turn turn)) (changed_in o client (with_turn turn) clients)
turn_grew_in None client turn clients e = record {
  count = refl;
  each = λ place one there. elim (same_or_not client place) [
    | inl same ↦ absurd (let never : None ≡ Some one = sym e ∙ ap (λ k. slice_get clients k) same ∙ there.gets in cc)
    | inr other ↦ record {
      was = one;
      there = there;
      same_out = refl;
      dues = sym (append-nil (map due_of_turn one.turns)) ∙ ap (λ x. map due_of_turn one.turns ++ x) (sym (due_elsewhere (client == place) (due_of_turn turn) (ne_eqb client place other)));
    }
  ];
}
turn_grew_in (Some was) client turn clients e = record {
  count = length-set clients client (with_turn turn was);
  each = λ place one there. elim (at_set clients client (with_turn turn was) there) [
    | inl new ↦ record {
      was = was;
      there = record { gets = ap (λ k. slice_get clients k) new.0 ∙ e };
      same_out = ap (λ (c : Client). c.out) new.1;
      dues = ap (λ (c : Client). map due_of_turn c.turns) new.1 ∙ map-append due_of_turn was.turns (turn ∷ [])
          ∙ ap (λ x. map due_of_turn was.turns ++ x) (sym (due_here (client == place) (due_of_turn turn) (eq-eqb client place (sym new.0))));
    }
    | inr old ↦ record {
      was = one;
      there = old.1;
      same_out = refl;
      dues = sym (append-nil (map due_of_turn one.turns))
          ∙ ap (λ x. map due_of_turn one.turns ++ x) (sym (due_elsewhere (client == place) (due_of_turn turn) (ne_eqb client place (λ same. old.0 (sym same)))));
    }
  ];
}

turn_grew : (client : ℕ) (turn : Turn) (clients : List Client) → Grew clients (due_at client (due_of_turn turn)) (changed client (with_turn turn) clients)
turn_grew client turn clients = turn_grew_in (slice_get clients client) client turn clients refl

answer_grew_in : (o : Option Client) (client : ℕ) (answer : AnswerView) (clients : List Client) → slice_get clients client ≡ o
    → Grew clients (λ place. []) (changed_in o client (with_answer answer) clients)
answer_grew_in None client answer clients e = grew_none clients
answer_grew_in (Some was) client answer clients e = record {
  count = length-set clients client (with_answer answer was);
  each = λ place one there. elim (at_set clients client (with_answer answer was) there) [
    | inl new ↦ record {
      was = was;
      there = record { gets = ap (λ k. slice_get clients k) new.0 ∙ e };
      same_out = ap (λ (c : Client). c.out) new.1;
      dues = ap (λ (c : Client). map due_of_turn c.turns) new.1 ∙ due_noted answer was.turns ∙ sym (append-nil (map due_of_turn was.turns));
    }
    | inr old ↦ record { was = one; there = old.1; same_out = refl; dues = sym (append-nil (map due_of_turn one.turns)) }
  ];
}

answered_grew : (client : ℕ) (o : Option AnswerView) (clients : List Client) → Grew clients (λ place. []) (answered client o clients)
answered_grew client None clients = grew_none clients
answered_grew client (Some answer) clients = answer_grew_in (slice_get clients client) client answer clients refl

-- events but a flush
abbrev pub IsNoFlush : Event → Type 0
IsNoFlush (Event.Does client step) = Unit {0}
IsNoFlush (Event.Alone step) = Unit {0}
IsNoFlush (Event.Denies cause) = Unit {0}
IsNoFlush (Event.Tells client reply) = Unit {0}
IsNoFlush (Event.Flushes client) = ⊥

abbrev pub AreNoFlush : List Event → Type 0
AreNoFlush [] = Unit {0}
AreNoFlush (event ∷ events) = IsNoFlush event × AreNoFlush events

pub event_grew : (event : Event) (f : FrontView) → IsNoFlush event → Grew f.clients (λ place. due_now place event f.core) (after_event event f).clients
event_grew (Event.Does client (Issue reading request)) f h =
    let op : OpId = next_op f.core in
    let clients : List Client = changed client (with_turn (Waits op)) f.clients in
    grew_to f.clients (answered client (answer_at f.core (Issue reading request)) clients) (λ place. due_at client (Due.Op op) place ++ []) (due_at client (Due.Op op))
    (λ place. sym (append-nil (due_at client (Due.Op op) place)))
    (grew_on f.clients clients (answered client (answer_at f.core (Issue reading request)) clients) (due_at client (Due.Op op)) (λ place. []) (turn_grew client (Waits op) f.clients)
    (answered_grew client (answer_at f.core (Issue reading request)) clients))
event_grew (Event.Does client (Take back)) f h = answered_grew client (answer_at f.core (Take back)) f.clients
event_grew (Event.Does client (GiveUp op)) f h = answered_grew client (answer_at f.core (GiveUp op)) f.clients
event_grew (Event.Alone step) f h = grew_none f.clients
event_grew (Event.Denies cause) f h = grew_none f.clients
event_grew (Event.Tells client reply) f h = turn_grew client (Says reply) f.clients
event_grew (Event.Flushes client) f h = absurd h

pub all_grew : (events : List Event) (f : FrontView) → AreNoFlush events → Grew f.clients (λ place. due place events f) (after_all events f).clients
all_grew [] f h = grew_none f.clients
all_grew (event ∷ events) f h =
    grew_on f.clients (after_event event f).clients (after_all (event ∷ events) f).clients (λ place. due_now place event f.core) (λ place. due place events (after_event event f))
    (event_grew event f h.0) (all_grew events (after_event event f) h.1)

-- events by which nothing becomes due: replies that are taken, requests that are given up
abbrev pub IsQuiet : Event → Type 0
IsQuiet (Event.Does client (Issue reading request)) = ⊥
IsQuiet (Event.Does client (Take back)) = Unit {0}
IsQuiet (Event.Does client (GiveUp op)) = Unit {0}
IsQuiet (Event.Alone step) = ⊥
IsQuiet (Event.Denies cause) = ⊥
IsQuiet (Event.Tells client reply) = ⊥
IsQuiet (Event.Flushes client) = ⊥

quiet_one : (event : Event) (f : FrontView) → IsQuiet event → Grew f.clients (λ place. []) (after_event event f).clients
quiet_one (Event.Does client (Issue reading request)) f h = absurd h
quiet_one (Event.Does client (Take back)) f h = answered_grew client (answer_at f.core (Take back)) f.clients
quiet_one (Event.Does client (GiveUp op)) f h = answered_grew client (answer_at f.core (GiveUp op)) f.clients
quiet_one (Event.Alone step) f h = absurd h
quiet_one (Event.Denies cause) f h = absurd h
quiet_one (Event.Tells client reply) f h = absurd h
quiet_one (Event.Flushes client) f h = absurd h

abbrev pub AreQuiet : List Event → Type 0
AreQuiet [] = Unit {0}
AreQuiet (event ∷ events) = IsQuiet event × AreQuiet events

pub quiet_grew : (events : List Event) (f : FrontView) → AreQuiet events → Grew f.clients (λ place. []) (after_all events f).clients
quiet_grew [] f h = grew_none f.clients
quiet_grew (event ∷ events) f h =
    grew_on f.clients (after_event event f).clients (after_all (event ∷ events) f).clients (λ place. []) (λ place. []) (quiet_one event f h.0) (quiet_grew events (after_event event f) h.1)

quiet_ups : (legs : List SentLeg) → AreQuiet (give_ups legs)
quiet_ups [] = tt
quiet_ups (sent ∷ legs) = (tt, quiet_ups legs)

pub quiet_both : (es fs : List Event) → AreQuiet es → AreQuiet fs → AreQuiet (es ++ fs)
quiet_both [] fs h k = k
quiet_both (e ∷ es) fs h k = (h.0, quiet_both es fs h.1 k)

quiet_takings : (client : ℕ) (sheets : List LegSheet) (said : List LegReply) → AreQuiet (takings client sheets said)
quiet_takings client [] said = tt
quiet_takings client (sheet ∷ sheets) [] = tt
quiet_takings client (sheet ∷ sheets) (one ∷ said) = (tt, quiet_takings client sheets said)

quiet_takes : (legs : List SentLeg) (replies : List Reply) (events : List Event) (left : List SentLeg) → TakesAll legs replies events left → AreQuiet events
quiet_takes [] [] events left h = subst AreQuiet (sym h.0) tt
quiet_takes (sent ∷ legs) [] events left h = subst AreQuiet (sym h.0) tt
quiet_takes [] (reply ∷ replies) events left h = absurd h
quiet_takes (sent ∷ legs) (reply ∷ replies) events left h = subst AreQuiet (sym h.3)
    (quiet_both (takings sent.client (legs_of sent) h.0) h.1 (quiet_takings sent.client (legs_of sent) h.0) (quiet_takes legs replies h.1 left h.4))

-- nothing becomes due, and all is of requests that were issued
pub record StaysDue (old new : FrontView) : Type 0 where
  pub grew : Grew old.clients (λ place. []) new.clients
  pub origins : (history : List Entry) → HasOrigins history old → HasOrigins history new

pub stays_none : (front : FrontView) → StaysDue front front
stays_none front = record { grew = grew_none front.clients; origins = λ history h. h }

pub stays_to : (old between new : FrontView) → new ≡ between → StaysDue old between → StaysDue old new
stays_to old between new e h = subst (λ (f : FrontView). StaysDue old f) (sym e) h

pub stays_on : (a b c : FrontView) → StaysDue a b → StaysDue b c → StaysDue a c
stays_on a b c h k = record {
  grew = grew_on a.clients b.clients c.clients (λ place. []) (λ place. []) h.grew k.grew;
  origins = λ history is. k.origins history (h.origins history is);
}

quiet_asked : (history : List Entry) (event : Event) (core : ProxyView) → IsQuiet event → EventIsAsked history core event
quiet_asked history (Event.Does client (Issue reading request)) core h = absurd h
quiet_asked history (Event.Does client (Take back)) core h = tt
quiet_asked history (Event.Does client (GiveUp op)) core h = tt
quiet_asked history (Event.Alone step) core h = absurd h
quiet_asked history (Event.Denies cause) core h = absurd h
quiet_asked history (Event.Tells client reply) core h = absurd h
quiet_asked history (Event.Flushes client) core h = absurd h

all_quiet : (history : List Entry) (events : List Event) (front : FrontView) → AreQuiet events → AreAsked history events front
all_quiet history [] front h = tt
all_quiet history (event ∷ events) front h = (quiet_asked history event front.core h.0, all_quiet history events (after_event event front) h.1)

pub quiet_stays : (events : List Event) (front : FrontView) → AreQuiet events → StaysDue front (after_all events front)
quiet_stays events front h = record {
  grew = quiet_grew events front h;
  origins = λ history is. all_happen history events front (all_quiet history events front h) is;
}

pub stays_breaks : (now : ℕ) (link link' : Link) (front front' : FrontView) → Breaks now link front link' front' → StaysDue front front'
stays_breaks now link link' front front' b = stays_to front (after_all (give_ups link.legs) front) front' b.given_up (quiet_stays (give_ups link.legs) front (quiet_ups link.legs))

stays_taken : (bytes : List ℕ) (legs : List SentLeg) (front : FrontView) (rest : List ℕ) (left : List SentLeg) (front' : FrontView) → HasTaken bytes legs front rest left front' → StaysDue front front'
stays_taken bytes legs front rest left front' t = stays_to front (after_all t.events front) front' t.happens (quiet_stays t.events front (quiet_takes legs t.replies t.events left t.takes))

-- whatever bytes come over a link
pub stays_bytes : (now : ℕ) (piece : List ℕ) (old : Link) (front : FrontView) (end : LinkEnd) (new : Link) (front' : FrontView) → TakesBytes now piece old front end new front' → StaysDue front front'
stays_bytes now piece old front Whole new front' t = stays_taken _ old.legs front new.reader.kept new.legs front' t.taken
stays_bytes now piece old front Surplus new front' t =
    stays_on front t.between front' (stays_taken _ old.legs front t.rest t.left t.between t.taken) (stays_breaks now (standing t.left t.counts old) new t.between front' t.breaks)
stays_bytes now piece old front Mismatch new front' t =
    stays_on front t.between front' (stays_taken _ old.legs front t.rest t.left t.between t.taken) (stays_breaks now (standing t.left t.counts old) new t.between front' t.breaks)
stays_bytes now piece old front Complaint new front' t =
    let c = t.taken in
    let takes : List Event = takings c.sent.client (legs_of c.sent) c.said in
    let taken : StaysDue c.between t.between =
    stays_to c.between (after_all takes c.between) t.between c.happens (quiet_stays takes c.between (quiet_takings c.sent.client (legs_of c.sent) c.said)) in
    stays_on front c.between front' (stays_taken _ old.legs front c.rest c.before c.between c.taken)
    (stays_on c.between t.between front' taken (stays_breaks now (standing t.left t.counts old) new t.between front' t.breaks))
stays_bytes now piece old front (Refused refusal) new front' t =
    elim t [
      | inl some ↦ stays_on front some.between front' (stays_taken _ old.legs front some.rest some.left some.between some.taken)
          (stays_breaks now (standing some.left some.counts old) new some.between front' some.breaks)
      | inr once ↦ stays_breaks now old new front front' once.breaks
    ]
stays_bytes now piece old front Down new front' t = stays_to front front front' t.2 (stays_none front)

quiet_late : (late : Bool) (legs : List SentLeg) → AreQuiet (if late then give_ups legs else [])
quiet_late true legs = quiet_ups legs
quiet_late false legs = tt

pub quiet_ticks : (bound now : ℕ) (links : List Link) → AreQuiet (ticks bound now links)
quiet_ticks bound now [] = tt
quiet_ticks bound now (link ∷ links) = quiet_both (given_up_at bound now link) (ticks bound now links) (quiet_late (is_late bound now link) link.legs) (quiet_ticks bound now links)
