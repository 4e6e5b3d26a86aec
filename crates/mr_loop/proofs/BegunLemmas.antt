-- How many requests of one client are begun that it wasn't told of.
use Rattle.std.proofs.Common.{◌≡◌, ℕ, ◌+◌, ◌≤◌, inl, inr, Bool, true, false, ◌||◌, nat_le, nat_lt, List, [], ◌∷◌, ◌++◌, Option, Some, None, length, position, refl, ap, ◌∙◌, arith, length-append}
use Rattle.std.specs.Option.{option_map}
use Rattle.std.specs.Prelude.{slice_get}
use Rattle.std.proofs.lemmas.Bool.{leb-false}
use Rattle.std.proofs.lemmas.List.{length-set}
use Rattle.mr_text.specs.declared.cause.Cause.{Cause}
use Rattle.mr_text.specs.declared.cause.Cause.TheVariants as cause
use Rattle.mr_text.specs.declared.reply.Reply.{Reply}
use Rattle.mr_text.specs.declared.request.Request.{Request}
use Rattle.mr_history.specs.declared.op_id.OpId.{OpId}
use Rattle.mr_node.specs.Output.{reply_to_refusal}
use Rattle.mr_proxy.specs.Answer.{AnswerView}
use Rattle.mr_proxy.specs.Issue.{next_op, sheets_of}
use Rattle.mr_proxy.specs.Replay.{answer_at}
use Rattle.mr_proxy.specs.declared.step.Step.TheVariants.{Issue, GiveUp}
use Rattle.mr_loop.specs.declared.asker.Asker.{Asker}
use Rattle.mr_loop.specs.declared.asker.Limits.{Limits}
use Rattle.mr_loop.specs.declared.asking.Pause.{Pause}
use Rattle.mr_loop.specs.declared.asking.Pause.TheVariants.{NeedsBytes, NeedsRoom, NeedsReader, NeedsQueue, NeedsMemory, IsDone}
use Rattle.mr_loop.specs.declared.client.Client.{Client}
use Rattle.mr_loop.specs.declared.inbox.Input.{Input}
use Rattle.mr_loop.specs.declared.inbox.Input.TheVariants as input
use Rattle.mr_loop.specs.declared.link.Link.{Link}
use Rattle.mr_loop.specs.declared.turns.Turn.{Turn}
use Rattle.mr_loop.specs.declared.turns.Turn.TheVariants.{Waits, Answered, Says}
use Rattle.mr_loop.specs.Asking.{Asking, IsDoneFor, DoesOne, DoesAll, StopsFor, AsksOn, begins, denial, denies, fails, given_up_unless, is_behind_in, tells}
use Rattle.mr_loop.specs.Bounds.{begun_in, begun_at}
use Rattle.mr_loop.specs.Events.{FrontView, Event, after_event, after_all, changed, changed_in, with_turn, with_answer, answered}
use Rattle.mr_loop.specs.Links.{all_up}
use Rattle.mr_loop.specs.Turns.{noted_in, is_turn_of}
use Rattle.mr_loop.specs.Unread.{unread}
use Rattle.mr_loop.proofs.PlaceLemmas.{set_there}

-- one where there is a client
abbrev there_in : Option Client → ℕ
there_in None = 0
there_in (Some client) = 1

abbrev there_at : ℕ → FrontView → ℕ
there_at place f = there_in (slice_get f.clients place)

get_changed : (o : Option Client) (place : ℕ) (change : Client → Client) (clients : List Client) → slice_get clients place ≡ o
    → slice_get (changed_in o place change clients) place ≡ option_map change o
get_changed None place change clients e = e
get_changed (Some client) place change clients e = set_there clients place (change client) client e

turn_more : (turn : Turn) (o : Option Client) → begun_in (option_map (with_turn turn) o) ≤ begun_in o + there_in o
turn_more turn None = omega arith
turn_more turn (Some client) = omega (arith, length-append client.turns (turn ∷ []))

-- one more turn
changed_more : (place : ℕ) (turn : Turn) (clients : List Client)
    → begun_in (slice_get (changed place (with_turn turn) clients) place) ≤ begun_in (slice_get clients place) + there_in (slice_get clients place)
changed_more place turn clients =
    omega (arith, ap begun_in (get_changed (slice_get clients place) place (with_turn turn) clients refl), turn_more turn (slice_get clients place))

same_noted : (turns : List Turn) (o : Option ℕ) (answer : AnswerView) → length (noted_in turns o answer) ≡ length turns
same_noted turns None answer = refl
same_noted turns (Some at) answer = length-set turns at (Answered answer)

answer_same : (answer : AnswerView) (o : Option Client) → begun_in (option_map (with_answer answer) o) ≡ begun_in o
answer_same answer None = refl
answer_same answer (Some client) = same_noted client.turns (position (is_turn_of answer.op) client.turns) answer

-- an answer adds no turn
answered_same : (place : ℕ) (answer : Option AnswerView) (clients : List Client)
    → begun_in (slice_get (answered place answer clients) place) ≡ begun_in (slice_get clients place)
answered_same place None clients = refl
answered_same place (Some answer) clients =
    ap begun_in (get_changed (slice_get clients place) place (with_answer answer) clients refl) ∙ answer_same answer (slice_get clients place)

give_up_same : (place : ℕ) (op : OpId) (f : FrontView) → begun_at place (after_event (Event.Does place (GiveUp op)) f) ≡ begun_at place f
give_up_same place op f = answered_same place (answer_at f.core (GiveUp op)) f.clients

issue_more : (place reading : ℕ) (request : Request) (f : FrontView)
    → begun_at place (after_event (Event.Does place (Issue reading request)) f) ≤ begun_at place f + there_at place f
issue_more place reading request f = changed_more place (Waits (next_op f.core)) f.clients

given_up_same : (all : Bool) (place : ℕ) (op : OpId) (f : FrontView) → begun_at place (after_all (given_up_unless all place op) f) ≡ begun_at place f
given_up_same true place op f = refl
given_up_same false place op f = give_up_same place op f

tells_more : (place : ℕ) (reply : Option Reply) (f : FrontView) → begun_at place (after_all (tells place reply) f) ≤ begun_at place f + there_at place f
tells_more place None f = omega arith
tells_more place (Some reply) f = changed_more place (Says reply) f.clients

denies_more : (place : ℕ) (request : Request) (why : Cause) (f : FrontView)
    → begun_at place (after_all (denies place request why) f) ≤ begun_at place f + there_at place f
denies_more place request why f = tells_more place (denial request why) (after_event (Event.Denies why) f)

begins_more : (asker : Asker) (request : Request) (all : Bool) (f : FrontView)
    → begun_at asker.client (after_all (begins asker request all f.core) f) ≤ begun_at asker.client f + there_at asker.client f
begins_more asker request all f =
    omega (
      arith,
      given_up_same all asker.client (next_op f.core) (after_event (Event.Does asker.client (Issue asker.reading request)) f),
      issue_more asker.client asker.reading request f,
    )

of_same : (place : ℕ) (f f' new : FrontView) → new ≡ f' → begun_at place f' ≤ begun_at place f + there_at place f
    → begun_at place new ≤ begun_at place f + there_at place f
of_same place f f' new e h = omega (arith, ap (λ (x : FrontView). begun_at place x) e)

before_none : (asker : Asker) (request : Request) (why : Cause) (before : List Event) (f : FrontView) → before ≡ []
    → begun_at asker.client (after_all (before ++ denies asker.client request why) f) ≤ begun_at asker.client f + there_at asker.client f
before_none asker request why before f e =
    of_same asker.client f (after_all (denies asker.client request why) f) (after_all (before ++ denies asker.client request why) f)
    (ap (λ (b : List Event). after_all (b ++ denies asker.client request why) f) e) (denies_more asker.client request why f)

before_failed : (asker : Asker) (request : Request) (why : Cause) (before : List Event) (f : FrontView) → before ≡ fails asker request f.core
    → begun_at asker.client (after_all (before ++ denies asker.client request why) f) ≤ begun_at asker.client f + there_at asker.client f
before_failed asker request why before f e =
    of_same asker.client f (after_all (fails asker request f.core ++ denies asker.client request why) f) (after_all (before ++ denies asker.client request why) f)
    (ap (λ (b : List Event). after_all (b ++ denies asker.client request why) f) e)
    (denies_more asker.client request why (after_all (fails asker request f.core) f))

-- what is done for one thing that a client sent
done_more : (asker : Asker) (front : FrontView) (links : List Link) (it : Input) (front' : FrontView) (links' : List Link)
    → IsDoneFor asker front links it front' links' → begun_at asker.client front' ≤ begun_at asker.client front + there_at asker.client front
done_more asker front links (input.Asks request) front' links' (inl begun) =
    of_same asker.client front _ front' begun.happens
    (begins_more asker request (all_up front.core.routing (sheets_of front.core asker.reading request) links) front)
done_more asker front links (input.Asks request) front' links' (inr (inl quits)) =
    omega (arith, ap (λ (x : FrontView). begun_at asker.client x) quits.0.unchanged)
done_more asker front links (input.Asks request) front' links' (inr (inr (inl spent))) =
    of_same asker.client front _ front' spent.0.happens (denies_more asker.client request cause.NumbersSpent front)
done_more asker front links (input.Asks request) front' links' (inr (inr (inr denied))) =
    of_same asker.client front _ front' denied.0.happens
    (elim denied.0.either [
      | inl e ↦ before_none asker request cause.OutOfMemory denied.0.before front e
      | inr e ↦ before_failed asker request cause.OutOfMemory denied.0.before front e
    ])
done_more asker front links (input.Refused refusal) front' links' told =
    of_same asker.client front _ front' told.0 (tells_more asker.client (reply_to_refusal refusal) front)

or_right_false : (a b : Bool) → (a || b) ≡ false → b ≡ false
or_right_false true b e = absurd (let no : true ≡ false = e in cc)
or_right_false false b e = e

-- who isn't behind may have one more
may_in : (limits : Limits) (o : Option Client) → is_behind_in limits o ≡ false → begun_in o + there_in o ≤ limits.most_begun
may_in limits None e = omega arith
may_in limits (Some client) e =
    let within = leb-false limits.most_begun (length client.turns)
    (or_right_false (nat_lt limits.most_unread (unread client)) (nat_le limits.most_begun (length client.turns)) e) in
    omega (arith, within)

one_few : (asker : Asker) (old new : Asking) → DoesOne asker old new → begun_at asker.client new.front ≤ asker.limits.most_begun
one_few asker old new one =
    omega (
      arith,
      may_in asker.limits (slice_get old.front.clients asker.client) one.may,
      done_more asker old.front old.links one.input new.front new.links one.done,
    )

all_few : (asker : Asker) (old new : Asking) → DoesAll asker old new → begun_at asker.client old.front ≤ asker.limits.most_begun
    → begun_at asker.client new.front ≤ asker.limits.most_begun
all_few asker old new DoesAll.starts few = few
all_few asker old new (DoesAll.goes_on {between} before one) few = one_few asker between new one

stop_same : (asker : Asker) (pause : Pause) (old new : Asking) → StopsFor asker pause old new → new.front ≡ old.front
stop_same asker NeedsReader old new s = ap (λ (a : Asking). a.front) s.1
stop_same asker NeedsBytes old new s = s.1.same_front
stop_same asker IsDone old new s = s.1.same_front
stop_same asker NeedsRoom old new s = ap (λ (a : Asking). a.front) s.1.held
stop_same asker (NeedsQueue number) old new s = ap (λ (a : Asking). a.front) s.1.held
stop_same asker NeedsMemory old new (inl s) = ap (λ (a : Asking). a.front) s.left
stop_same asker NeedsMemory old new (inr s) = ap (λ (a : Asking). a.front) s.1.held

pub begun_few : (asker : Asker) (pause : Pause) (old new : Asking) → AsksOn asker pause old new
    → begun_at asker.client old.front ≤ asker.limits.most_begun → begun_at asker.client new.front ≤ asker.limits.most_begun
begun_few asker pause old new did few =
    omega (
      arith,
      all_few asker old did.between did.did few,
      ap (λ (x : FrontView). begun_at asker.client x) (stop_same asker pause did.between new did.stops),
    )
