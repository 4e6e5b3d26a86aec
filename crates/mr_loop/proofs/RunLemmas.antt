-- Replies and their legs over a whole run of a link, and the core over a run of events.
use Rattle.std.proofs.Common.{◌≡◌, List, [], ◌∷◌, ◌++◌, refl, sym, ap, ◌∙◌, subst, append_assoc}
use Rattle.std.proofs.lemmas.List.{append-nil}
use Rattle.mr_text.specs.declared.reply.Reply.{Reply}
use Rattle.mr_proxy.specs.ProxyView.{ProxyView}
use Rattle.mr_proxy.specs.Replay.{after, replay}
use Rattle.mr_proxy.specs.declared.step.Step.{Step}
use Rattle.mr_loop.specs.declared.sent_legs.SentLeg.{SentLeg}
use Rattle.mr_loop.specs.Events.{FrontView, Event, after_event, after_all, step_of, steps_of}
use Rattle.mr_loop.specs.Links.{legs_of}
use Rattle.mr_loop.specs.Returning.{TakesAll, takings}
use Rattle.mr_loop.specs.Runs.{Crossing, sent_in, replies_in, Crosses}

takes_nothing : (legs left : List SentLeg) (events : List Event) → events ≡ [] → left ≡ legs → TakesAll legs [] events left
takes_nothing [] left events e l = (e, l)
takes_nothing (sent ∷ legs) left events e l = (e, l)

takes_both : (legs more : List SentLeg) (replies others : List Reply) (now later : List Event) (between left : List SentLeg)
    → TakesAll legs replies now between → TakesAll (between ++ more) others later left
    → TakesAll (legs ++ more) (replies ++ others) (now ++ later) left
takes_both [] more [] others now later between left h k =
    let P : List SentLeg → Type 0 = λ l. TakesAll (l ++ more) others later left in
    let Q : List Event → Type 0 = λ e. TakesAll more others (e ++ later) left in
    subst Q (sym h.0) (subst P h.1 k)
takes_both (sent ∷ legs) more [] others now later between left h k =
    let P : List SentLeg → Type 0 = λ l. TakesAll (l ++ more) others later left in
    let Q : List Event → Type 0 = λ e. TakesAll (sent ∷ (legs ++ more)) others (e ++ later) left in
    subst Q (sym h.0) (subst P h.1 k)
takes_both [] more (reply ∷ replies) others now later between left h k = absurd h
takes_both (sent ∷ legs) more (reply ∷ replies) others now later between left h k =
    let first : List Event = takings sent.client (legs_of sent) h.0 in
    (h.0, h.1 ++ later, h.2, ap (λ e. e ++ later) h.3 ∙ append_assoc first h.1 later, takes_both legs more replies others h.1 later between left h.4 k)

crosses_from : (crossings : List Crossing) (legs : List SentLeg) (events : List Event) (left : List SentLeg) → Crosses crossings legs events left
    → TakesAll (legs ++ sent_in crossings) (replies_in crossings) events left
crosses_from [] legs events left h = takes_nothing (legs ++ []) left events h.0 (h.1 ∙ sym (append-nil legs))
crosses_from (Crossing.Went sent ∷ crossings) legs events left h =
    let P : List SentLeg → Type 0 = λ l. TakesAll l (replies_in crossings) events left in
    subst P (append_assoc legs (sent ∷ []) (sent_in crossings)) (crosses_from crossings (legs ++ sent ∷ []) events left h)
crosses_from (Crossing.Came replies ∷ crossings) legs events left h =
    let Q : List Event → Type 0 = λ e. TakesAll (legs ++ sent_in crossings) (replies ++ replies_in crossings) e left in
    subst Q (sym h.4)
    (takes_both legs (sent_in crossings) replies (replies_in crossings) h.0 h.2 h.1 left h.3 (crosses_from crossings h.1 h.2 left h.5))

-- the k-th reply is that of the k-th leg
pub crosses : (crossings : List Crossing) (events : List Event) (left : List SentLeg) → Crosses crossings [] events left
    → TakesAll (sent_in crossings) (replies_in crossings) events left
crosses crossings events left h = crosses_from crossings [] events left h

core_by : (event : Event) (f : FrontView) → (after_event event f).core ≡ replay f.core (step_of event)
core_by (Event.Does client step) f = refl
core_by (Event.Alone step) f = refl
core_by (Event.Denies cause) f = refl
core_by (Event.Tells client reply) f = refl
core_by (Event.Flushes client) f = refl

replay_both : (p : ProxyView) (steps more : List Step) → replay p (steps ++ more) ≡ replay (replay p steps) more
replay_both p [] more = refl
replay_both p (step ∷ steps) more = replay_both (after p step) steps more

-- the steps make the core
pub core_after : (events : List Event) (f : FrontView) → (after_all events f).core ≡ replay f.core (steps_of events)
core_after [] f = refl
core_after (event ∷ events) f =
    core_after events (after_event event f) ∙ ap (λ p. replay p (steps_of events)) (core_by event f)
    ∙ sym (replay_both f.core (step_of event) (steps_of events))
