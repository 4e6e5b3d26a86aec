-- Runs of a fleet in which one proxy takes replies and gives requests up: nothing changes but that proxy and the answers.
use Rattle.std.proofs.Common.{◌≡◌, ℕ, Bool, true, false, List, [], ◌∷◌, ◌++◌, length, slice_set, remove, Option, Some, None, if◌then◌else◌, refl, sym, ap, ◌∙◌, subst, append_assoc}
use Rattle.std.proofs.lemmas.List.{append-nil, set-set}
use Rattle.mr_history.specs.Places.{At}
use Rattle.mr_history.specs.declared.entry.Entry.{Entry}
use Rattle.mr_history.specs.declared.entry.Entry.TheVariants as entry
use Rattle.mr_history.specs.declared.op_id.OpId.{OpId}
use Rattle.mr_node.specs.Output.{is_silent}
use Rattle.mr_proxy.specs.Answer.{AnswerView, answer_of, reply_of}
use Rattle.mr_join.specs.declared.leg_reply.LegReply.{LegReply}
use Rattle.mr_proxy.specs.Pending.{PendingView, is_complete}
use Rattle.mr_proxy.specs.declared.sheet.LegId.{LegId}
use Rattle.mr_proxy.specs.ProxyView.{ProxyView}
use Rattle.mr_proxy.specs.Transitions.{place_of_op, pending_with, noted_by, settled, left_by, after_give_up, after_take, given_up_in, given_up_of}
use Rattle.mr_proxy.specs.declared.taken.Taken.{Taken}
use Rattle.mr_proxy.specs.declared.taken.Taken.TheVariants as taken
use Rattle.mr_world.specs.Steps.{answered, answered_by}
use Rattle.mr_world.specs.WorldView.{WorldView}
use Rattle.mr_proxy.specs.Replay.{answered_in}
use Rattle.mr_proxy.specs.declared.step.Step.TheVariants.{GiveUp}
use Rattle.mr_world.specs.Lists.{Has}
use Rattle.mr_world.specs.declared.event.Event.TheVariants as event
use Rattle.mr_world.specs.declared.note.Note.TheVariants as note
use Rattle.mr_streams.specs.Fleet.{FleetEvent, FleetStep, FleetRun, ticks_in, ticks_of}
use Rattle.mr_streams.specs.OneProxy.{GainsAnswers, IsKin, RunsSo, StepsSo}
use Rattle.mr_streams.specs.Refines.{Tells}
use Rattle.mr_streams.proofs.Lists.{at_new, at_one, at_written, written_back}

-- it tells all that the old one told
pub still_tells : (old new heard : List Entry) → GainsAnswers old new → Tells old heard → Tells new heard
still_tells old new heard GainsAnswers.same tells = tells
still_tells old new heard (GainsAnswers.more {new = between} op reply gains) tells = Tells.knows op reply (still_tells old between heard gains tells)

pub gains_both : (a b c : List Entry) → GainsAnswers a b → GainsAnswers b c → GainsAnswers a c
gains_both a b c one GainsAnswers.same = one
gains_both a b c one (GainsAnswers.more {new = between} op reply other) = GainsAnswers.more op reply (gains_both a b between one other)

gains_nothing : (old : List Entry) → GainsAnswers old (old ++ [])
gains_nothing old = subst (λ h. GainsAnswers old h) (sym (append-nil old)) GainsAnswers.same

gains_unless : (old : List Entry) (answer : AnswerView) (silent : Bool) → GainsAnswers old (old ++ (if silent then [] else entry.Answered answer.op (reply_of answer) ∷ []))
gains_unless old answer true = gains_nothing old
gains_unless old answer false = GainsAnswers.more answer.op (reply_of answer) GainsAnswers.same

pub gains_answer : (old : List Entry) (answer : AnswerView) → GainsAnswers old (old ++ answered answer)
gains_answer old answer = gains_unless old answer (is_silent answer.request)

pub gains_taken : (old : List Entry) (t : Taken) → GainsAnswers old (old ++ answered_by t)
gains_taken old taken.Waiting = gains_nothing old
gains_taken old (taken.Answered answer) = gains_answer old answer
gains_taken old (taken.Stranger reply) = gains_nothing old

pub kin_same : (old : ProxyView) → IsKin old old
kin_same old = record { number = refl; routing = refl; schedule = refl }

pub kin_on : (a b c : ProxyView) → IsKin a b → IsKin b c → IsKin a c
kin_on a b c h k = record { number = k.number ∙ h.number; routing = k.routing ∙ h.routing; schedule = k.schedule ∙ h.schedule }

-- what keeps one proxy of a number keeps each that stands there
pub kin_there : (w : WorldView) (number : ℕ) (there core : ProxyView) → At w.proxies number there → IsKin there core → (old : ProxyView) → At w.proxies number old → IsKin old core
kin_there w number there core at is = λ old h. subst (λ c. IsKin c core) (at_one at h) is

kin_left : (p : ProxyView) (place : ℕ) (o : Option PendingView) → IsKin p (left_by p place o)
kin_left p place None = kin_same p
kin_left p place (Some pending) = record { number = refl; routing = refl; schedule = refl }

pub kin_given_up : (p : ProxyView) (op : OpId) → IsKin p (after_give_up p op)
kin_given_up p op = kin_left p (place_of_op p.outstanding op) (pending_with p.outstanding op)

kin_settled_if : (p : ProxyView) (place : ℕ) (pending : PendingView) (b : Bool)
    → IsKin p (if b then record p { outstanding = remove p.outstanding place } else record p { outstanding = slice_set p.outstanding place pending })
kin_settled_if p place pending true = record { number = refl; routing = refl; schedule = refl }
kin_settled_if p place pending false = record { number = refl; routing = refl; schedule = refl }

kin_settled : (p : ProxyView) (place : ℕ) (o : Option PendingView) → IsKin p (settled p place o)
kin_settled p place None = kin_same p
kin_settled p place (Some pending) = kin_settled_if p place pending (is_complete pending)

pub kin_taken : (p : ProxyView) (id : LegId) (reply : LegReply) → IsKin p (after_take p id reply)
kin_taken p id reply = kin_settled p (place_of_op p.outstanding id.op) (noted_by p id reply)

-- nothing happens
abbrev pub stays : (w : WorldView) (number : ℕ) (core : ProxyView) → At w.proxies number core → RunsSo w number core
stays w number core there = record {
  world = w;
  events = [];
  run = refl;
  proxies = sym (written_back there);
  sent = refl;
  replies = refl;
  nodes = refl;
  readings = refl;
  gains = GainsAnswers.same;
  ticks = refl;
  kin = kin_there w number core core there (kin_same core);
}

pub run_append : (es fs : List FleetEvent) (a b c : WorldView) → FleetRun a es b → FleetRun b fs c → FleetRun a (es ++ fs) c
run_append [] fs a b c h k = subst (λ x. FleetRun x fs c) h k
run_append (e ∷ es) fs a b c h k = (h.0, h.1, run_append es fs h.0 b c h.2 k)

pub ticks_append : (es fs : List FleetEvent) → ticks_of (es ++ fs) ≡ ticks_of es ++ ticks_of fs
ticks_append [] fs = refl
ticks_append (e ∷ es) fs = ap (λ t. ticks_in e ++ t) (ticks_append es fs) ∙ sym (append_assoc (ticks_in e) (ticks_of es) (ticks_of fs))

-- where the proxy stands in the end
pub stands : (w : WorldView) (number : ℕ) (old core : ProxyView) (h : RunsSo w number core) → At w.proxies number old → At h.world.proxies number core
stands w number old core h there = subst (λ p. At p number core) (sym h.proxies) (at_written core there)

-- one run behind the other
abbrev pub runs_on : (w : WorldView) (number : ℕ) (core last : ProxyView) (h : RunsSo w number core) → RunsSo h.world number last → RunsSo w number last
runs_on w number core last h k = record {
  world = k.world;
  events = h.events ++ k.events;
  run = run_append h.events k.events w h.world k.world h.run k.run;
  proxies = k.proxies ∙ ap (λ p. slice_set p number last) h.proxies ∙ set-set w.proxies number core last;
  sent = k.sent ∙ h.sent;
  replies = k.replies ∙ h.replies;
  nodes = k.nodes ∙ h.nodes;
  readings = k.readings ∙ h.readings;
  gains = gains_both w.history h.world.history k.world.history h.gains k.gains;
  ticks = ticks_append h.events k.events ∙ ap (λ t. t ++ ticks_of k.events) h.ticks ∙ k.ticks;
  kin = λ old there. kin_on old core last (h.kin old there) (k.kin core (stands w number old core h there));
}

-- the core is so by another word
abbrev pub runs_to : (w : WorldView) (number : ℕ) (core other : ProxyView) → core ≡ other → RunsSo w number core → RunsSo w number other
runs_to w number core other e h = record {
  world = h.world;
  events = h.events;
  run = h.run;
  proxies = h.proxies ∙ ap (λ c. slice_set w.proxies number c) e;
  sent = h.sent;
  replies = h.replies;
  nodes = h.nodes;
  readings = h.readings;
  gains = h.gains;
  ticks = h.ticks;
  kin = λ old there. subst (λ c. IsKin old c) e (h.kin old there);
}

-- the fleet after an event that changes one proxy and brings these entries
abbrev pub with_proxy : WorldView → ℕ → ProxyView → List Entry → WorldView
with_proxy w number core gains = record w { proxies = slice_set w.proxies number core; history = w.history ++ gains }

-- one event
abbrev pub one_event : (w : WorldView) (number : ℕ) (core : ProxyView) (gains : List Entry) (event : FleetEvent)
    → FleetStep w event (with_proxy w number core gains) → ticks_in event ≡ [] → GainsAnswers w.history (w.history ++ gains)
    → ((old : ProxyView) → At w.proxies number old → IsKin old core) → RunsSo w number core
one_event w number core gains event step quiet only kin = record {
  world = with_proxy w number core gains;
  events = event ∷ [];
  run = (with_proxy w number core gains, step, refl);
  proxies = refl;
  sent = refl;
  replies = refl;
  nodes = refl;
  readings = refl;
  gains = only;
  ticks = append-nil (ticks_in event) ∙ quiet;
  kin = kin;
}

silent_or_told : (old : List Entry) (answer : AnswerView) (silent : Bool) → silent ≡ false
    → Has (old ++ (if silent then [] else entry.Answered answer.op (reply_of answer) ∷ [])) (entry.Answered answer.op (reply_of answer))
silent_or_told old answer true e = absurd (let no : true ≡ false = e in cc)
silent_or_told old answer false e = record { place = length old; there = at_new old (entry.Answered answer.op (reply_of answer)) }

-- an answer that is given stands behind the others
pub told_last : (old : List Entry) (answer : AnswerView) → is_silent answer.request ≡ false → Has (old ++ answered answer) (entry.Answered answer.op (reply_of answer))
told_last old answer e = silent_or_told old answer (is_silent answer.request) e

pub told_taken : (old : List Entry) (t : Taken) (answer : AnswerView) → answered_in t ≡ Some answer → is_silent answer.request ≡ false
    → Has (old ++ answered_by t) (entry.Answered answer.op (reply_of answer))
told_taken old taken.Waiting answer e wants = absurd (let no : None ≡ Some answer = e in cc)
told_taken old (taken.Answered given) answer e wants =
    let same : answer ≡ given = cc in
    subst (λ a. Has (old ++ answered given) (entry.Answered a.op (reply_of a))) (sym same) (told_last old given (ap (λ a. is_silent a.request) (sym same) ∙ wants))
told_taken old (taken.Stranger reply) answer e wants = absurd (let no : None ≡ Some answer = e in cc)

give_up_by : (w : WorldView) (number : ℕ) (core : ProxyView) (op : OpId) (o : Option PendingView)
    → At w.proxies number core → op.proxy ≡ number → pending_with core.outstanding op ≡ o → StepsSo w number core (GiveUp op)
give_up_by w number core op None there own e =
    let none : given_up_of core op ≡ None = ap given_up_in e in
    record {
      run = runs_to w number core (after_give_up core op) (sym (ap (λ o. left_by core (place_of_op core.outstanding op) o) e)) (stays w number core there);
      gives = λ answer given wants. absurd (let no : None ≡ Some answer = sym none ∙ given in cc);
    }
give_up_by w number core op (Some pending) there own e =
    let answer : AnswerView = answer_of pending true in
    let home = subst (λ n. At w.proxies n core) (sym own) there in
    let gives : given_up_of core op ≡ Some answer = ap given_up_in e in
    let same : slice_set w.proxies number (after_give_up core op) ≡ slice_set w.proxies op.proxy (after_give_up core op) =
    ap (λ n. slice_set w.proxies n (after_give_up core op)) (sym own) in
    record {
      run = one_event w number (after_give_up core op) (answered answer) (FleetEvent.Happens (event.GiveUp op)) (
        note.Answered op,
        record {
          proxy = core;
          answer = answer;
          home = home;
          gives = gives;
          tells = refl;
          becomes = ap (λ p. record w { proxies = p; history = w.history ++ answered answer }) same;
        },
      )
          refl (gains_answer w.history answer) (kin_there w number core (after_give_up core op) there (kin_given_up core op));
      gives = λ other given wants. (
          let is : other ≡ answer = (let both : Some answer ≡ Some other = sym gives ∙ given in cc) in
          subst (λ a. Has (w.history ++ answered answer) (entry.Answered a.op (reply_of a))) (sym is)
          (told_last w.history answer (ap (λ a. is_silent a.request) (sym is) ∙ wants)));
    }

-- a request is given up, or wasn't under way
pub gives_up : (w : WorldView) (number : ℕ) (core : ProxyView) (op : OpId) → At w.proxies number core → op.proxy ≡ number → StepsSo w number core (GiveUp op)
gives_up w number core op there own = give_up_by w number core op (pending_with core.outstanding op) there own refl
