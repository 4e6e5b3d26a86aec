-- Whatever happens, there are as many clients as before.
use Rattle.std.proofs.Common.{◌≡◌, ℕ, inl, inr, List, [], ◌∷◌, ◌++◌, Option, Some, None, length, refl, ap, ◌∙◌}
use Rattle.std.proofs.lemmas.List.{length-set}
use Rattle.mr_text.specs.declared.cause.Cause.TheVariants as cause
use Rattle.mr_node.specs.Output.{reply_to_refusal}
use Rattle.mr_proxy.specs.Answer.{AnswerView}
use Rattle.mr_proxy.specs.Issue.{sheets_of}
use Rattle.mr_proxy.specs.ProxyView.{ProxyView}
use Rattle.mr_proxy.specs.Replay.{answer_at}
use Rattle.mr_proxy.specs.declared.step.Step.{Step}
use Rattle.mr_proxy.specs.declared.step.Step.TheVariants.{Issue, Take, GiveUp}
use Rattle.mr_loop.specs.declared.asker.Asker.{Asker}
use Rattle.mr_loop.specs.declared.asking.Pause.{Pause}
use Rattle.mr_loop.specs.declared.asking.Pause.TheVariants.{NeedsBytes, NeedsRoom, NeedsReader, NeedsQueue, NeedsMemory, IsDone}
use Rattle.mr_loop.specs.declared.client.Client.{Client}
use Rattle.mr_loop.specs.declared.inbox.Input.{Input}
use Rattle.mr_loop.specs.declared.inbox.Input.TheVariants as input
use Rattle.mr_loop.specs.declared.link.Link.{Link}
use Rattle.mr_loop.specs.declared.link.LinkEnd.{LinkEnd}
use Rattle.mr_loop.specs.declared.link.LinkEnd.TheVariants.{Whole, Surplus, Mismatch, Complaint, Refused, Down}
use Rattle.mr_loop.specs.declared.sent_legs.SentLeg.{SentLeg}
use Rattle.mr_loop.specs.Asking.{Asking, IsDoneFor, DoesOne, DoesAll, StopsFor, AsksOn, begins, denies, tells}
use Rattle.mr_loop.specs.Events.{FrontView, Event, after_event, after_all, changed_in, queued, answered}
use Rattle.mr_loop.specs.Links.{all_up, legs_of}
use Rattle.mr_loop.specs.Returning.{TakesBytes, Breaks, HasTaken, give_ups, takings}

-- how many clients there are
abbrev pub places : FrontView → ℕ
places f = length f.clients

kept_changed : (o : Option Client) (place : ℕ) (change : Client → Client) (clients : List Client)
    → length (changed_in o place change clients) ≡ length clients
kept_changed None place change clients = refl
kept_changed (Some client) place change clients = length-set clients place (change client)

kept_queued : (place : ℕ) (step : Step) (core : ProxyView) (clients : List Client) → length (queued place step core clients) ≡ length clients
kept_queued place (Issue reading request) core clients = kept_changed _ place _ clients
kept_queued place (Take back) core clients = refl
kept_queued place (GiveUp op) core clients = refl

kept_answered : (place : ℕ) (answer : Option AnswerView) (clients : List Client) → length (answered place answer clients) ≡ length clients
kept_answered place None clients = refl
kept_answered place (Some answer) clients = kept_changed _ place _ clients

pub kept_event : (event : Event) (f : FrontView) → places (after_event event f) ≡ places f
kept_event (Event.Does client step) f =
    kept_answered client (answer_at f.core step) (queued client step f.core f.clients) ∙ kept_queued client step f.core f.clients
kept_event (Event.Alone step) f = refl
kept_event (Event.Denies cause) f = refl
kept_event (Event.Tells client reply) f = kept_changed _ client _ f.clients
kept_event (Event.Flushes client) f = kept_changed _ client _ f.clients

pub kept_all : (events : List Event) (f : FrontView) → places (after_all events f) ≡ places f
kept_all [] f = refl
kept_all (event ∷ events) f = kept_all events (after_event event f) ∙ kept_event event f

-- what happens keeps the places
pub kept_by : (events : List Event) (f f' : FrontView) → f' ≡ after_all events f → places f' ≡ places f
kept_by events f f' e = ap (λ (x : FrontView). length x.clients) e ∙ kept_all events f

kept_same : (f f' : FrontView) → f' ≡ f → places f' ≡ places f
kept_same f f' e = ap (λ (x : FrontView). length x.clients) e

kept_done : (asker : Asker) (front : FrontView) (links : List Link) (it : Input) (front' : FrontView) (links' : List Link)
    → IsDoneFor asker front links it front' links' → places front' ≡ places front
kept_done asker front links (input.Asks request) front' links' (inl begun) =
    kept_by (begins asker request (all_up front.core.routing (sheets_of front.core asker.reading request) links) front.core) front front' begun.happens
kept_done asker front links (input.Asks request) front' links' (inr (inl quits)) = kept_same front front' quits.0.unchanged
kept_done asker front links (input.Asks request) front' links' (inr (inr (inl spent))) =
    kept_by (denies asker.client request cause.NumbersSpent) front front' spent.0.happens
kept_done asker front links (input.Asks request) front' links' (inr (inr (inr denied))) =
    kept_by (denied.0.before ++ denies asker.client request cause.OutOfMemory) front front' denied.0.happens
kept_done asker front links (input.Refused refusal) front' links' told =
    kept_by (tells asker.client (reply_to_refusal refusal)) front front' told.0

kept_one : (asker : Asker) (old new : Asking) → DoesOne asker old new → places new.front ≡ places old.front
kept_one asker old new one = kept_done asker old.front old.links one.input new.front new.links one.done

kept_each : (asker : Asker) (old new : Asking) → DoesAll asker old new → places new.front ≡ places old.front
kept_each asker old new DoesAll.starts = refl
kept_each asker old new (DoesAll.goes_on {between} before one) = kept_one asker between new one ∙ kept_each asker old between before

kept_asking : (old new : Asking) → new ≡ old → places new.front ≡ places old.front
kept_asking old new e = ap (λ (a : Asking). length a.front.clients) e

kept_stop : (asker : Asker) (pause : Pause) (old new : Asking) → StopsFor asker pause old new → places new.front ≡ places old.front
kept_stop asker NeedsRoom old new s = ap (λ (a : Asking). length a.front.clients) s.1.held
kept_stop asker NeedsReader old new s = kept_asking old new s.1
kept_stop asker NeedsBytes old new s = kept_same old.front new.front s.1.same_front
kept_stop asker IsDone old new s = kept_same old.front new.front s.1.same_front
kept_stop asker (NeedsQueue number) old new s = ap (λ (a : Asking). length a.front.clients) s.1.held
kept_stop asker NeedsMemory old new (inl s) = ap (λ (a : Asking). length a.front.clients) s.left
kept_stop asker NeedsMemory old new (inr s) = ap (λ (a : Asking). length a.front.clients) s.1.held

-- what a client sent keeps the places
pub kept_asks : (asker : Asker) (pause : Pause) (old new : Asking) → AsksOn asker pause old new → places new.front ≡ places old.front
kept_asks asker pause old new a = kept_stop asker pause a.between new a.stops ∙ kept_each asker old a.between a.did

-- what a link's end does keeps the places
pub kept_break : (now : ℕ) (link : Link) (front : FrontView) (new : Link) (front' : FrontView) → Breaks now link front new front' → places front' ≡ places front
kept_break now link front new front' b = kept_by (give_ups link.legs) front front' b.given_up

kept_taken : (bytes : List ℕ) (legs : List SentLeg) (front : FrontView) (rest : List ℕ) (left : List SentLeg) (front' : FrontView)
    → HasTaken bytes legs front rest left front' → places front' ≡ places front
kept_taken bytes legs front rest left front' t = kept_by t.events front front' t.happens

-- bytes of a link keep the places
pub kept_bytes : (now : ℕ) (piece : List ℕ) (old : Link) (front : FrontView) (end : LinkEnd) (new : Link) (front' : FrontView)
    → TakesBytes now piece old front end new front' → places front' ≡ places front
kept_bytes now piece old front Whole new front' t = kept_taken _ _ front _ _ front' t.taken
kept_bytes now piece old front Surplus new front' t =
    kept_break now _ t.between new front' t.breaks ∙ kept_taken _ _ front _ _ t.between t.taken
kept_bytes now piece old front Mismatch new front' t =
    kept_break now _ t.between new front' t.breaks ∙ kept_taken _ _ front _ _ t.between t.taken
kept_bytes now piece old front Complaint new front' t =
    kept_break now _ t.between new front' t.breaks ∙ kept_by (takings t.taken.sent.client (legs_of t.taken.sent) t.taken.said) t.taken.between t.between t.taken.happens
    ∙ kept_taken _ _ front _ _ t.taken.between t.taken.taken
kept_bytes now piece old front (Refused refusal) new front' (inl t) =
    kept_break now _ t.between new front' t.breaks ∙ kept_taken _ _ front _ _ t.between t.taken
kept_bytes now piece old front (Refused refusal) new front' (inr t) = kept_break now old front new front' t.breaks
kept_bytes now piece old front Down new front' t = kept_same front front' t.2
