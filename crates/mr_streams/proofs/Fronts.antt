-- Runs of a fleet in which the core of one proxy gives answers to its clients.
use Rattle.std.proofs.Common.{◌≡◌, ℕ, inl, inr, false, List, [], ◌∷◌, ◌++◌, slice_get, position, Option, Some, None, refl, sym, ap, subst}
use Rattle.mr_history.specs.Places.{At}
use Rattle.mr_history.specs.declared.entry.Entry.{Entry}
use Rattle.mr_history.specs.declared.entry.Entry.TheVariants as entry
use Rattle.mr_history.specs.declared.op_id.OpId.{OpId}
use Rattle.mr_text.specs.declared.reply.Reply.{Reply}
use Rattle.mr_node.specs.Output.{is_silent}
use Rattle.mr_proxy.specs.Answer.{AnswerView, reply_of}
use Rattle.mr_proxy.specs.Replay.{answer_at}
use Rattle.mr_proxy.specs.declared.step.Step.{Step}
use Rattle.mr_proxy.specs.declared.step.Step.TheVariants.{Issue, Take, GiveUp}
use Rattle.mr_loop.specs.Events.{FrontView, Event, after_event, answered, changed, changed_in, with_answer}
use Rattle.mr_loop.specs.Turns.{noted_in, is_turn_of}
use Rattle.mr_loop.specs.declared.client.Client.{Client}
use Rattle.mr_loop.specs.declared.turns.Turn.{Turn}
use Rattle.mr_loop.specs.declared.turns.Turn.TheVariants.{Waits, Answered, Says}
use Rattle.mr_world.specs.Lists.{Has}
use Rattle.mr_world.specs.WorldView.{WorldView}
use Rattle.mr_streams.specs.OneProxy.{GainsAnswers, StepsSo, KnowsTurns, AreKnown, FrontRuns}
use Rattle.mr_streams.proofs.Lists.{at_left, at_set, at_last}
use Rattle.mr_streams.proofs.Runs.{stays, runs_on, runs_to}

-- the answer stands in the history, if its client wants one
abbrev pub IsKnown : List Entry → AnswerView → Type 0
IsKnown history answer = is_silent answer.request ≡ false → Has history (entry.Answered answer.op (reply_of answer))

pub has_left : {X : Type 0} {xs : List X} (ys : List X) {x : X} → Has xs x → Has (xs ++ ys) x
has_left ys h = record { place = h.place; there = at_left ys h.there }

-- what stands in a history stays there
pub has_still : (old new : List Entry) (x : Entry) → GainsAnswers old new → Has old x → Has new x
has_still old new x GainsAnswers.same h = h
has_still old new x (GainsAnswers.more {new = between} op reply gains) h = has_left (entry.Answered op reply ∷ []) (has_still old between x gains h)

pub known_still : (old new : List Entry) (clients : List Client) → GainsAnswers old new → AreKnown old clients → AreKnown new clients
known_still old new clients gains known = λ place client there turn answer h wants. has_still old new (entry.Answered answer.op (reply_of answer)) gains (known place client there turn answer h wants)

-- each answer that stands at a turn is so
abbrev pub TurnsAre : (AnswerView → Type 0) → List Turn → Type 0
TurnsAre P turns = (place : ℕ) (answer : AnswerView) → At turns place (Answered answer) → P answer

-- and at a turn of any client
abbrev pub ClientsAre : (AnswerView → Type 0) → List Client → Type 0
ClientsAre P clients = (place : ℕ) (client : Client) → At clients place client → TurnsAre P client.turns

-- one client changes
are_changed_in : (P : AnswerView → Type 0) (o : Option Client) (place : ℕ) (change : Client → Client) (clients : List Client) → slice_get clients place ≡ o
    → ClientsAre P clients → ((client : Client) → TurnsAre P client.turns → TurnsAre P (change client).turns) → ClientsAre P (changed_in o place change clients)
are_changed_in P None place change clients e known keeps = known
are_changed_in P (Some was) place change clients e known keeps = λ n client there turn answer h.
    elim (at_set clients place (change was) there) [
      | inl new ↦ keeps was (known place was (record { gets = e })) turn answer (subst (λ (c : Client). At c.turns turn (Answered answer)) new.1 h)
      | inr old ↦ known n client old.1 turn answer h
    ]

pub are_changed : (P : AnswerView → Type 0) (place : ℕ) (change : Client → Client) (clients : List Client) → ClientsAre P clients
    → ((client : Client) → TurnsAre P client.turns → TurnsAre P (change client).turns) → ClientsAre P (changed place change clients)
are_changed P place change clients known keeps = are_changed_in P (slice_get clients place) place change clients refl known keeps

-- one more turn that is no answer
pub are_more : (P : AnswerView → Type 0) (turns : List Turn) (turn : Turn) → ((answer : AnswerView) → Answered answer ≡ turn → ⊥) → TurnsAre P turns → TurnsAre P (turns ++ turn ∷ [])
are_more P turns turn other known = λ place answer h.
    elim (at_last turns turn h) [
      | inl old ↦ known place answer old
      | inr new ↦ absurd (other answer new.1)
    ]

are_noted_in : (P : AnswerView → Type 0) (turns : List Turn) (o : Option ℕ) (answer : AnswerView) → P answer → TurnsAre P turns → TurnsAre P (noted_in turns o answer)
are_noted_in P turns None answer is known = known
are_noted_in P turns (Some at) answer is known = λ place other h.
    elim (at_set turns at (Answered answer) h) [
      | inl new ↦ (
          let same : other ≡ answer = (let both : Answered other ≡ Answered answer = new.1 in cc) in
          subst P (sym same) is)
      | inr old ↦ known place other old.1
    ]

-- the answer that is given stands at its turn
pub are_answered : (P : AnswerView → Type 0) (place : ℕ) (o : Option AnswerView) (clients : List Client) → ((answer : AnswerView) → o ≡ Some answer → P answer)
    → ClientsAre P clients → ClientsAre P (answered place o clients)
are_answered P place None clients is known = known
are_answered P place (Some answer) clients is known =
    are_changed P place (with_answer answer) clients known
    (λ client turns. are_noted_in P client.turns (position (is_turn_of answer.op) client.turns) answer (is answer refl) turns)

pub known_changed : (history : List Entry) (place : ℕ) (change : Client → Client) (clients : List Client) → AreKnown history clients
    → ((client : Client) → KnowsTurns history client.turns → KnowsTurns history (change client).turns) → AreKnown history (changed place change clients)
known_changed history place change clients known keeps = are_changed (IsKnown history) place change clients known keeps

pub known_waits : (history : List Entry) (turns : List Turn) (op : OpId) → KnowsTurns history turns → KnowsTurns history (turns ++ Waits op ∷ [])
known_waits history turns op known = are_more (IsKnown history) turns (Waits op) (λ answer e. cc) known

pub known_says : (history : List Entry) (turns : List Turn) (reply : Reply) → KnowsTurns history turns → KnowsTurns history (turns ++ Says reply ∷ [])
known_says history turns reply known = are_more (IsKnown history) turns (Says reply) (λ answer e. cc) known

known_answered : (history : List Entry) (place : ℕ) (o : Option AnswerView) (clients : List Client) → ((answer : AnswerView) → o ≡ Some answer → IsKnown history answer)
    → AreKnown history clients → AreKnown history (answered place o clients)
known_answered history place o clients is known = are_answered (IsKnown history) place o clients is known

-- nothing happens
abbrev pub front_stays : (w : WorldView) (number : ℕ) (front : FrontView) → At w.proxies number front.core → FrontRuns w number front front
front_stays w number front there = record { so = stays w number front.core there; known = λ known. known }

abbrev pub front_to : (w : WorldView) (number : ℕ) (front between last : FrontView) → between ≡ last → FrontRuns w number front between → FrontRuns w number front last
front_to w number front between last e h = record {
  so = runs_to w number between.core last.core (ap (λ (f : FrontView). f.core) e) h.so;
  known = λ known. subst (λ (f : FrontView). AreKnown h.so.world.history f.clients) e (h.known known);
}

abbrev pub front_on : (w : WorldView) (number : ℕ) (front between last : FrontView) (h : FrontRuns w number front between) → FrontRuns h.so.world number between last → FrontRuns w number front last
front_on w number front between last h k = record {
  so = runs_on w number between.core last.core h.so k.so;
  known = λ known. k.known (h.known known);
}

-- a step that issues nothing
abbrev pub IssuesNone : Step → Type 0
IssuesNone (Issue reading request) = ⊥
IssuesNone (Take back) = Unit {0}
IssuesNone (GiveUp op) = Unit {0}

pub front_does : (w : WorldView) (number : ℕ) (front : FrontView) (client : ℕ) (step : Step) → IssuesNone step → StepsSo w number front.core step
    → FrontRuns w number front (after_event (Event.Does client step) front)
front_does w number front client (Issue reading request) none h = absurd none
front_does w number front client (Take back) none h = record {
  so = h.run;
  known = λ known. known_answered h.run.world.history client (answer_at front.core (Take back)) front.clients (λ answer e wants. h.gives answer e wants)
      (known_still w.history h.run.world.history front.clients h.run.gains known);
}
front_does w number front client (GiveUp op) none h = record {
  so = h.run;
  known = λ known. known_answered h.run.world.history client (answer_at front.core (GiveUp op)) front.clients (λ answer e wants. h.gives answer e wants)
      (known_still w.history h.run.world.history front.clients h.run.gains known);
}

pub front_alone : (w : WorldView) (number : ℕ) (front : FrontView) (step : Step) → StepsSo w number front.core step → FrontRuns w number front (after_event (Event.Alone step) front)
front_alone w number front step h = record { so = h.run; known = λ known. known_still w.history h.run.world.history front.clients h.run.gains known }
