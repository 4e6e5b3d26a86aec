-- Each answer is to the request that was issued by its name.
use Rattle.std.proofs.Common.{◌≡◌, ℕ, zero, suc, inl, inr, Bool, true, false, List, [], ◌∷◌, ◌++◌, slice_get, slice_set, remove, Option, Some, None, if◌then◌else◌, refl, sym, subst}
use Rattle.std.specs.Prelude.{option_and_then}
use Rattle.mr_history.specs.History.{IsIssued}
use Rattle.mr_history.specs.Places.{At}
use Rattle.mr_history.specs.declared.entry.Entry.{Entry}
use Rattle.mr_history.specs.declared.op_id.OpId.{OpId}
use Rattle.mr_join.specs.declared.leg_reply.LegReply.{LegReply}
use Rattle.mr_proxy.specs.Answer.{AnswerView, answer_of}
use Rattle.mr_proxy.specs.Issue.{next_op, pending_of}
use Rattle.mr_proxy.specs.Pending.{PendingView, is_complete, with_reply, with_reply_in}
use Rattle.mr_proxy.specs.ProxyView.{ProxyView}
use Rattle.mr_proxy.specs.Replay.{after, answer_at, answered_in}
use Rattle.mr_proxy.specs.Slots.{is_awaiting}
use Rattle.mr_proxy.specs.Transitions.{left_by, given_up_in, settled, taken_by, place_of_op, pending_with}
use Rattle.mr_proxy.specs.declared.slot.Slot.{Slot}
use Rattle.mr_proxy.specs.declared.step.Step.{Step}
use Rattle.mr_proxy.specs.declared.step.Step.TheVariants.{Issue, Take, GiveUp}
use Rattle.mr_proxy.specs.declared.taken.Taken.TheVariants as taken
use Rattle.mr_text.specs.declared.request.Request.{Request}
use Rattle.mr_loop.specs.Events.{FrontView, Event, after_event, after_all, changed, queued, with_turn}
use Rattle.mr_loop.specs.declared.client.Client.{Client}
use Rattle.mr_loop.specs.declared.turns.Turn.{Turn}
use Rattle.mr_loop.specs.declared.turns.Turn.TheVariants.{Waits, Answered, Says}
use Rattle.mr_streams.proofs.Fronts.{ClientsAre, are_changed, are_more, are_answered}
use Rattle.mr_streams.proofs.Lists.{at_left, at_set, at_last}

-- the op was issued, with this request
pub record IsAsked (history : List Entry) (op : OpId) (request : Request) : Type 0 where
  pub issue : ℕ
  pub issued : IsIssued history op request issue

abbrev pub HasOrigin : List Entry → AnswerView → Type 0
HasOrigin history answer = IsAsked history answer.op answer.request

abbrev pub ArePending : List Entry → List PendingView → Type 0
ArePending history pendings = (place : ℕ) (pending : PendingView) → At pendings place pending → IsAsked history pending.op pending.request

-- the requests under way were issued, and those of the answers that wait in turn
pub record HasOrigins (history : List Entry) (front : FrontView) : Type 0 where
  pub pending : ArePending history front.core.outstanding
  pub turns : ClientsAre (HasOrigin history) front.clients

pub asked_still : (history gains : List Entry) (op : OpId) (request : Request) → IsAsked history op request → IsAsked (history ++ gains) op request
asked_still history gains op request h = record { issue = h.issue; issued = record { proxy = h.issued.proxy; there = at_left gains h.issued.there } }

pub origins_still : (history gains : List Entry) (front : FrontView) → HasOrigins history front → HasOrigins (history ++ gains) front
origins_still history gains front h = record {
  pending = λ place pending there. asked_still history gains pending.op pending.request (h.pending place pending there);
  turns = λ place client there turn answer at. asked_still history gains answer.op answer.request (h.turns place client there turn answer at);
}

got_removed : {X : Type 0} (xs : List X) (k i : ℕ) (x y : X) → slice_get xs k ≡ Some y → slice_get (remove xs k) i ≡ Some x → (j : ℕ) × (slice_get xs j ≡ Some x)
got_removed [] k i x y there e = cc
got_removed (z ∷ zs) zero i x y there e = (suc i, e)
got_removed (z ∷ zs) (suc k) zero x y there e = (0, e)
got_removed (z ∷ zs) (suc k) (suc i) x y there e = let h = got_removed zs k i x y there e in (suc h.0, h.1)

-- what a step makes of a core whose requests were issued
record StepsFrom (history : List Entry) (core : ProxyView) (o : Option AnswerView) : Type 0 where
  pending : ArePending history core.outstanding
  answers : (answer : AnswerView) → o ≡ Some answer → HasOrigin history answer

chosen : (history : List Entry) (b : Bool) (noted pending : PendingView) → IsAsked history noted.op noted.request → (if b then Some noted else None) ≡ Some pending → IsAsked history pending.op pending.request
chosen history true noted pending h e = let same : noted ≡ pending = (let both : Some noted ≡ Some pending = e in cc) in subst (λ (x : PendingView). IsAsked history x.op x.request) same h
chosen history false noted pending h e = absurd (let never : None ≡ Some pending = e in cc)

noted_of : (history : List Entry) (pending noted : PendingView) (place : ℕ) (reply : LegReply) (o : Option Slot) → IsAsked history pending.op pending.request → with_reply_in pending place reply o ≡ Some noted
    → IsAsked history noted.op noted.request
noted_of history pending noted place reply None h e = absurd (let never : None ≡ Some noted = e in cc)
noted_of history pending noted place reply (Some slot) h e =
    chosen history (is_awaiting slot reply) (record pending { slots = slice_set pending.slots place (record { sheet = slot.sheet; reply = Some reply }) }) noted h e

-- a request leaves, or stays with a reply noted
settled_if : (history : List Entry) (b : Bool) (p : ProxyView) (place : ℕ) (was noted : PendingView) → At p.outstanding place was → IsAsked history noted.op noted.request → ArePending history p.outstanding
    → ArePending history (if b then record p { outstanding = remove p.outstanding place } else record p { outstanding = slice_set p.outstanding place noted }).outstanding
settled_if history true p place was noted there asked h = λ n pending at. (let from = got_removed p.outstanding place n pending was there.gets at.gets in h from.0 pending (record { gets = from.1 }))
settled_if history false p place was noted there asked h = λ n pending at. elim (at_set p.outstanding place noted at) [
  | inl e ↦ subst (λ (x : PendingView). IsAsked history x.op x.request) (sym e.1) asked
  | inr e ↦ h n pending e.1
]

answered_if : (history : List Entry) (b : Bool) (noted : PendingView) (answer : AnswerView) → IsAsked history noted.op noted.request
    → answered_in (if b then taken.Answered (answer_of noted false) else taken.Waiting) ≡ Some answer → HasOrigin history answer
answered_if history true noted answer asked e =
    let same : answer_of noted false ≡ answer = (let both : Some (answer_of noted false) ≡ Some answer = e in cc) in
    subst (λ x. HasOrigin history x) same asked
answered_if history false noted answer asked e = absurd (let never : None ≡ Some answer = e in cc)

settles : (history : List Entry) (p : ProxyView) (place : ℕ) (was : PendingView) (reply : LegReply) (o : Option PendingView) → At p.outstanding place was
    → ((noted : PendingView) → o ≡ Some noted → IsAsked history noted.op noted.request) → ArePending history p.outstanding
    → StepsFrom history (settled p place o) (answered_in (taken_by reply o))
settles history p place was reply None there asked h = record { pending = h; answers = λ answer e. absurd (let never : None ≡ Some answer = e in cc) }
settles history p place was reply (Some noted) there asked h = record {
  pending = settled_if history (is_complete noted) p place was noted there (asked noted refl) h;
  answers = λ answer e. answered_if history (is_complete noted) noted answer (asked noted refl) e;
}

takes : (history : List Entry) (p : ProxyView) (place leg : ℕ) (reply : LegReply) (o : Option PendingView) → slice_get p.outstanding place ≡ o → ArePending history p.outstanding
    → StepsFrom history (settled p place (option_and_then (λ pending. with_reply pending leg reply) o)) (answered_in (taken_by reply (option_and_then (λ pending. with_reply pending leg reply) o)))
takes history p place leg reply None e h = record { pending = h; answers = λ answer e. absurd (let never : None ≡ Some answer = e in cc) }
takes history p place leg reply (Some pending) e h =
    settles history p place pending reply (with_reply pending leg reply) (record { gets = e })
    (λ noted is. noted_of history pending noted leg reply (slice_get pending.slots leg) (h place pending (record { gets = e })) is) h

gives_up : (history : List Entry) (p : ProxyView) (place : ℕ) (o : Option PendingView) → slice_get p.outstanding place ≡ o → ArePending history p.outstanding
    → StepsFrom history (left_by p place o) (given_up_in o)
gives_up history p place None e h = record { pending = h; answers = λ answer e. absurd (let never : None ≡ Some answer = e in cc) }
gives_up history p place (Some pending) e h = record {
  pending = λ n other at. (let from = got_removed p.outstanding place n other pending e at.gets in h from.0 other (record { gets = from.1 }));
  answers = λ answer is. (
      let same : answer_of pending true ≡ answer = (let both : Some (answer_of pending true) ≡ Some answer = is in cc) in
      subst (λ x. HasOrigin history x) same (h place pending (record { gets = e })));
}

-- a request that is issued now stands in the history
abbrev pub StepIsAsked : List Entry → ProxyView → Step → Type 0
StepIsAsked history core (Issue reading request) = IsAsked history (next_op core) request
StepIsAsked history core (Take back) = Unit {0}
StepIsAsked history core (GiveUp op) = Unit {0}

steps : (history : List Entry) (p : ProxyView) (step : Step) → StepIsAsked history p step → ArePending history p.outstanding → StepsFrom history (after p step) (answer_at p step)
steps history p (Issue reading request) asked h = record {
  pending = λ n pending at. elim (at_last p.outstanding (pending_of p reading request) at) [
    | inl old ↦ h n pending old
    | inr new ↦ subst (λ (x : PendingView). IsAsked history x.op x.request) (sym new.1) asked
  ];
  answers = λ answer e. absurd (let never : None ≡ Some answer = e in cc);
}
steps history p (Take back) asked h = takes history p (place_of_op p.outstanding back.sheet.id.op) back.sheet.id.place back.reply (pending_with p.outstanding back.sheet.id.op) refl h
steps history p (GiveUp op) asked h = gives_up history p (place_of_op p.outstanding op) (pending_with p.outstanding op) refl h

-- so it is with each request that events issue; no client is flushed
abbrev pub EventIsAsked : List Entry → ProxyView → Event → Type 0
EventIsAsked history core (Event.Does client step) = StepIsAsked history core step
EventIsAsked history core (Event.Alone step) = StepIsAsked history core step
EventIsAsked history core (Event.Denies cause) = Unit {0}
EventIsAsked history core (Event.Tells client reply) = Unit {0}
EventIsAsked history core (Event.Flushes client) = ⊥

abbrev pub AreAsked : List Entry → List Event → FrontView → Type 0
AreAsked history [] front = Unit {0}
AreAsked history (event ∷ events) front = EventIsAsked history front.core event × AreAsked history events (after_event event front)

waiting : (history : List Entry) (client : ℕ) (turn : Turn) (clients : List Client) → ((answer : AnswerView) → Answered answer ≡ turn → ⊥) → ClientsAre (HasOrigin history) clients
    → ClientsAre (HasOrigin history) (changed client (with_turn turn) clients)
waiting history client turn clients other h = are_changed (HasOrigin history) client (with_turn turn) clients h (λ one turns. are_more (HasOrigin history) one.turns turn other turns)

queued_from : (history : List Entry) (client : ℕ) (step : Step) (core : ProxyView) (clients : List Client) → ClientsAre (HasOrigin history) clients → ClientsAre (HasOrigin history) (queued client step core clients)
queued_from history client (Issue reading request) core clients h = waiting history client (Waits (next_op core)) clients (λ answer e. cc) h
queued_from history client (Take back) core clients h = h
queued_from history client (GiveUp op) core clients h = h

happens : (history : List Entry) (event : Event) (front : FrontView) → EventIsAsked history front.core event → HasOrigins history front → HasOrigins history (after_event event front)
happens history (Event.Does client step) front asked h =
    let s = steps history front.core step asked h.pending in
    record {
      pending = s.pending;
      turns = are_answered (HasOrigin history) client (answer_at front.core step) (queued client step front.core front.clients) s.answers
          (queued_from history client step front.core front.clients h.turns);
    }
happens history (Event.Alone step) front asked h = record { pending = (steps history front.core step asked h.pending).pending; turns = h.turns }
happens history (Event.Denies cause) front asked h = record { pending = h.pending; turns = h.turns }
happens history (Event.Tells client reply) front asked h = record { pending = h.pending; turns = waiting history client (Says reply) front.clients (λ answer e. cc) h.turns }
happens history (Event.Flushes client) front asked h = absurd asked

-- whatever happens
pub all_happen : (history : List Entry) (events : List Event) (front : FrontView) → AreAsked history events front → HasOrigins history front → HasOrigins history (after_all events front)
all_happen history [] front asked h = h
all_happen history (event ∷ events) front asked h = all_happen history events (after_event event front) asked.1 (happens history event front asked.0 h)
