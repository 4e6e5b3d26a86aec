-- Each call leaves a network ready for the next.
use Rattle.std.proofs.Common.{◌≡◌, ℕ, ◌+◌, List, [], ◌∷◌, ◌++◌, length, map, take, slice_get, slice_set, Some, Result, Ok, Err, IfOk, refl, sym, ap, subst, ◌∙◌, arith}
use Rattle.std.proofs.lemmas.List.{append-nil}
use Rattle.mr_text.specs.declared.request.Request.{Request}
use Rattle.mr_text.specs.declared.request.Request.TheVariants as request
use Rattle.mr_history.specs.Places.{At}
use Rattle.mr_pools.specs.Routing.{RoutingView}
use Rattle.mr_proxy.specs.Issue.{after_issue}
use Rattle.mr_proxy.specs.ProxyView.{ProxyView}
use Rattle.mr_proxy.specs.Sound.ProxyStep.{takes, gives_up}
use Rattle.mr_proxy.specs.Transitions.{after_take, after_give_up, after_restart}
use Rattle.mr_proxy.specs.declared.world_error.WorldError.{WorldError}
use Rattle.mr_world.specs.declared.event.Event.{Event}
use Rattle.mr_world.specs.declared.event.Event.TheVariants.{Clock, Client, Deliver, Return, GiveUp, NodeRestart, ProxyRestart}
use Rattle.mr_world.specs.declared.node.Node.{Node}
use Rattle.mr_world.specs.declared.note.Note.{Note}
use Rattle.mr_world.specs.Facts.{Facts, IsFaithfulWorld}
use Rattle.mr_world.specs.Grounded.{StaysSecured}
use Rattle.mr_world.specs.Network.{NetworkView, IsReady, DoesEvent}
use Rattle.mr_world.specs.Premises.{premises_of, PremisesAfter}
use Rattle.mr_world.specs.Refusals.{IsStopped, refusal_of_event, IsEventRefusal}
use Rattle.mr_world.specs.Steps.{Issues, ClientAsks, WorldStep, WorldRun}
use Rattle.mr_world.specs.Positions.{node_number}
use Rattle.mr_world.specs.Tracked.{IsTracked, numbers_in, numbers_of}
use Rattle.mr_world.specs.WorldView.{WorldView}
use Rattle.mr_world.proofs.Lists.{map_set}
use Rattle.mr_world.proofs.FactLemmas.{facts_of}
use Rattle.mr_world.proofs.ProxyLemmas.{step_keeps}
use Rattle.mr_world.proofs.TrackedLemmas.{number_written}

same_map : {X Y : Type 0} (f g : X → Y) → ((x : X) → f x ≡ g x) → (xs : List X) → map f xs ≡ map g xs
same_map f g same [] = refl
same_map f g same (x ∷ xs) = ap (λ y. y ∷ map f xs) (same x) ∙ ap (λ ys. g x ∷ ys) (same_map f g same xs)

numbers_proxy : (nodes : List Node) (P : List ProxyView) (n : ℕ) (p q : ProxyView) → At P n p → q.routing ≡ p.routing
    → numbers_of nodes (slice_set P n q) ≡ numbers_of nodes P
numbers_proxy nodes P n p q at same =
    map_set (numbers_in nodes) P n p q at.gets (ap (λ (r : RoutingView). map (λ pool. map (node_number nodes) pool) r.pools) same)

numbers_nodes : (nodes : List Node) (k : ℕ) (old new : Node) (P : List ProxyView) → At nodes k old → new.name ≡ old.name
    → numbers_of (slice_set nodes k new) P ≡ numbers_of nodes P
numbers_nodes nodes k old new P at same =
    let written = slice_set nodes k new in
    same_map (numbers_in written) (numbers_in nodes)
    (λ p. same_map (λ pool. map (node_number written) pool) (λ pool. map (node_number nodes) pool)
    (λ pool. same_map (node_number written) (node_number nodes) (λ name. number_written nodes k old new name at.gets same) pool) p.routing.pools) P

abbrev pub SameNumbers : WorldView → WorldView → Type 0
SameNumbers old new = numbers_of new.nodes new.proxies ≡ numbers_of old.nodes old.proxies

issue_numbers : (old : WorldView) (n : ℕ) (q : Request) (note : Note) (new : WorldView) → Issues old n q note new → SameNumbers old new
issue_numbers old n q note new s =
    subst (SameNumbers old) (sym s.becomes) (numbers_proxy old.nodes old.proxies n s.proxy (after_issue s.proxy s.reading q) s.home refl)

ask_numbers : (old : WorldView) (n : ℕ) (q : Request) (note : Note) (new : WorldView) → ClientAsks old n q note new → SameNumbers old new
ask_numbers old n (request.Get keys) note new s = issue_numbers old n (request.Get keys) note new s
ask_numbers old n (request.Set key flags exptime block noreply) note new s = issue_numbers old n (request.Set key flags exptime block noreply) note new s
ask_numbers old n (request.Delete key noreply) note new s = issue_numbers old n (request.Delete key noreply) note new s
ask_numbers old n request.Quit note new s = subst (SameNumbers old) (sym s.becomes) refl

step_numbers : (old : WorldView) (event : Event) (note : Note) (new : WorldView) → WorldStep old event note new → SameNumbers old new
step_numbers old (Clock proxy reading) note new s = subst (SameNumbers old) (sym s.becomes) refl
step_numbers old (Client proxy request) note new s = ask_numbers old proxy request note new s
step_numbers old (Deliver message now) note new s =
    subst (SameNumbers old) (sym s.becomes)
    (numbers_nodes old.nodes s.message.node s.node (record { name = s.node.name; cache = s.left }) old.proxies s.there refl)
step_numbers old (Return reply) note new s =
    let after = after_take s.proxy s.message.sheet.id s.reply in
    subst (SameNumbers old) (sym s.becomes)
    (numbers_proxy old.nodes old.proxies s.sender s.proxy after s.home (step_keeps s.proxy after (takes s.message.sheet.id s.reply)).routing)
step_numbers old (GiveUp op) note new s =
    let after = after_give_up s.proxy op in
    subst (SameNumbers old) (sym s.becomes)
    (numbers_proxy old.nodes old.proxies op.proxy s.proxy after s.home (step_keeps s.proxy after (gives_up op)).routing)
step_numbers old (NodeRestart name) note new s =
    subst (SameNumbers old) (sym s.becomes)
    (numbers_nodes old.nodes (node_number old.nodes name) s.node (record { name = s.node.name; cache = record s.node.cache { items = [] } }) old.proxies s.there refl)
step_numbers old (ProxyRestart proxy) note new s =
    subst (SameNumbers old) (sym s.becomes) (numbers_proxy old.nodes old.proxies proxy s.proxy (after_restart s.proxy) s.home refl)

abbrev pub KeepsTracked : Type 0
KeepsTracked = (old new : WorldView) (event : Event) (note : Note) → IsTracked old → WorldStep old event note new → IsTracked new

abbrev pub KeepsFaithful : Type 0
KeepsFaithful = (old new : WorldView) (event : Event) (note : Note) → IsTracked old → IsTracked new → IsFaithfulWorld old → WorldStep old event note new → IsFaithfulWorld new

abbrev pub KeepsSecured : Type 0
KeepsSecured =
    (old new : WorldView) (event : Event) (note : Note) → IsTracked old → IsTracked new → IsFaithfulWorld old → IsFaithfulWorld new → StaysSecured old
    → WorldStep old event note new → StaysSecured new

pub does_ready : KeepsTracked → KeepsFaithful → KeepsSecured → (old : NetworkView) (event : Event) (r : Result Note WorldError) (new : NetworkView) → IsReady old
    → DoesEvent old event r new → IsReady new
does_ready keep stay secure old event (Ok note) new ready does =
    let tracked = keep old.world new.world event note ready.tracked (does.1) in
    let faithful = stay old.world new.world event note ready.tracked tracked ready.faithful (does.1) in
    record {
      tracked = tracked;
      faithful = faithful;
      secured = secure old.world new.world event note ready.tracked tracked ready.faithful faithful ready.secured (does.1);
      numbers = does.2 ∙ ready.numbers ∙ sym (step_numbers old.world event note new.world (does.1));
    }
does_ready keep stay secure old event (Err e) new ready does = subst IsReady (sym (does.1)) ready

abbrev pub TellsPremises : Type 0
TellsPremises = (old new : WorldView) (events : List Event) → IsTracked old → WorldRun old events new → PremisesAfter old events (premises_of new)

pub does_premises : TellsPremises → (old : NetworkView) (event : Event) (r : Result Note WorldError) (new : NetworkView) → IsReady old → DoesEvent old event r new
    → IfOk r (λ _. PremisesAfter old.world (event ∷ []) (premises_of new.world))
does_premises tell old event (Ok note) new ready does = tell old.world new.world (event ∷ []) ready.tracked (new.world, note, does.1, refl)
does_premises tell old event (Err e) new ready does = tt

-- a run so far

pub record HasRun (old : WorldView) (events : List Event) (index : ℕ) (rest : List Event) (new : WorldView) : Type 0 where
  pub done : List Event
  pub all : events ≡ done ++ rest
  pub count : index ≡ length done
  pub run : WorldRun old done new

run_more : (old : WorldView) (events : List Event) (event : Event) (note : Note) (middle new : WorldView) → WorldRun old events middle → WorldStep middle event note new
    → WorldRun old (events ++ event ∷ []) new
run_more old [] event note middle new run step = (new, note, subst (λ w. WorldStep w event note new) run step, refl)
run_more old (e ∷ events) event note middle new (first, n, s, rest) step = (first, n, s, run_more first events event note middle new rest step)

append_one : {X : Type 0} (xs : List X) (y : X) (ys : List X) → xs ++ y ∷ ys ≡ (xs ++ y ∷ []) ++ ys
append_one [] y ys = refl
append_one (x ∷ xs) y ys = ap (λ l. x ∷ l) (append_one xs y ys)

length_one : {X : Type 0} (xs : List X) (y : X) → length (xs ++ y ∷ []) ≡ length xs + 1
length_one [] y = refl
length_one (x ∷ xs) y = let later = length_one xs y in omega arith

pub has_run_more : (old : WorldView) (events : List Event) (index : ℕ) (event : Event) (rest : List Event) (middle new : WorldView) (note : Note)
    → HasRun old events index (event ∷ rest) middle → WorldStep middle event note new → HasRun old events (index + 1) rest new
has_run_more old events index event rest middle new note h step = record {
  done = h.done ++ event ∷ [];
  all = h.all ∙ append_one h.done event rest;
  count = (let count = h.count in let longer = length_one h.done event in omega arith);
  run = run_more old h.done event note middle new h.run step;
}

empty : {X : Type 0} (xs : List X) → length xs ≡ 0 → xs ≡ []
empty [] e = refl
empty (x ∷ xs) e = absurd (omega arith)

pub has_run_all : (old : WorldView) (events : List Event) (index : ℕ) (rest : List Event) (new : WorldView) → HasRun old events index rest new → length rest ≡ 0
    → WorldRun old events new
has_run_all old events index rest new h over =
    let none = empty rest over in
    let all : events ≡ h.done = h.all ∙ ap (λ l. h.done ++ l) none ∙ append-nil h.done in
    subst (λ l. WorldRun old l new) (sym all) h.run

take_done : {X : Type 0} (xs ys : List X) → take (length xs) (xs ++ ys) ≡ xs
take_done [] ys = refl
take_done (x ∷ xs) ys = ap (λ l. x ∷ l) (take_done xs ys)

get_done : {X : Type 0} (xs : List X) (y : X) (ys : List X) → slice_get (xs ++ y ∷ ys) (length xs) ≡ Some y
get_done [] y ys = refl
get_done (x ∷ xs) y ys = get_done xs y ys

pub has_run_until : (old : WorldView) (events : List Event) (index : ℕ) (event : Event) (rest : List Event) (new : WorldView) → HasRun old events index (event ∷ rest) new
    → WorldRun old (take index events) new
has_run_until old events index event rest new h =
    let done : take index events ≡ h.done = ap (λ n. take n events) h.count ∙ ap (take (length h.done)) h.all ∙ take_done h.done (event ∷ rest) in
    subst (λ l. WorldRun old l new) (sym done) h.run

pub has_stopped : (old : WorldView) (events : List Event) (index : ℕ) (event : Event) (rest : List Event) (new : WorldView) (e : WorldError)
    → HasRun old events index (event ∷ rest) new → IsEventRefusal (refusal_of_event new event) event e → IsStopped old events index e new
has_stopped old events index event rest new e h refused = record {
  event = event;
  there = record { gets = ap (λ l. slice_get l index) h.all ∙ ap (slice_get (h.done ++ event ∷ rest)) h.count ∙ get_done h.done event rest };
  played = has_run_until old events index event rest new h;
  refused = refused;
}

-- what a run shows

pub run_facts : KeepsTracked → KeepsFaithful → (old : WorldView) (events : List Event) (new : WorldView) → IsTracked old → IsFaithfulWorld old → WorldRun old events new → Facts new
run_facts keep stay old [] new tracked faithful run = subst Facts (sym run) (facts_of old tracked faithful)
run_facts keep stay old (event ∷ events) new tracked faithful (middle, note, step, rest) =
    let tracked' = keep old middle event note tracked step in
    run_facts keep stay middle events new tracked' (stay old middle event note tracked tracked' faithful step) rest

pub run_secured : KeepsTracked → KeepsFaithful → KeepsSecured → (old : WorldView) (events : List Event) (new : WorldView) → IsTracked old → IsFaithfulWorld old
    → StaysSecured old → WorldRun old events new → StaysSecured new
run_secured keep stay secure old [] new tracked faithful secured run = subst StaysSecured (sym run) secured
run_secured keep stay secure old (event ∷ events) new tracked faithful secured (middle, note, step, rest) =
    let tracked' = keep old middle event note tracked step in
    let faithful' = stay old middle event note tracked tracked' faithful step in
    run_secured keep stay secure middle events new tracked' faithful' (secure old middle event note tracked tracked' faithful faithful' secured step) rest
