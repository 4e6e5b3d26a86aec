-- What a client is told over a whole run.
use Rattle.std.proofs.Common.{◌≡◌, ◌≢◌, ℕ, suc, zero, true, false, cond, List, [], ◌∷◌, ◌++◌, Option, Some, None, length, map, slice_set, position, refl, sym, ap, ◌∙◌, subst, append_assoc, ◌⊎◌, inl, inr, eqb, eq-eqb, arith}
use Rattle.std.specs.List.{flat_map, AllByRecursion}
use Rattle.std.specs.Prelude.{slice_get, option_to_list}
use Rattle.std.specs.Option.{option_map}
use Rattle.std.proofs.lemmas.Bool.Decides.{eqb_tells}
use Rattle.std.proofs.lemmas.Grind.{flat_map-append}
use Rattle.std.proofs.lemmas.List.{append-nil, map-append, map-set}
use Rattle.std.proofs.lemmas.List.Quantifiers.{position-Some}
use Rattle.std.proofs.lemmas.Option.{slice_get-get_or, slice_get-map}
use Rattle.mr_history.specs.declared.op_id.OpId.{OpId}
use Rattle.mr_history.proofs.TestLemmas.{same_op}
use Rattle.mr_proxy.specs.Answer.{AnswerView}
use Rattle.mr_proxy.specs.Issue.{next_op}
use Rattle.mr_proxy.specs.ProxyView.{ProxyView}
use Rattle.mr_proxy.specs.Replay.{answer_at}
use Rattle.mr_proxy.specs.declared.step.Step.{Step}
use Rattle.mr_proxy.specs.declared.step.Step.TheVariants.{Issue, Take, GiveUp}
use Rattle.mr_loop.specs.declared.client.Client.{Client}
use Rattle.mr_loop.specs.declared.turns.Turn.{Turn}
use Rattle.mr_loop.specs.declared.turns.Turn.TheVariants.{Waits, Answered, Says}
use Rattle.mr_loop.specs.Events.{FrontView, Event, after_event, after_all, changed, changed_in, with_turn, with_answer, queued, answered}
use Rattle.mr_loop.specs.Runs.{Due, due_of_turn, due_now, given_now, due, given, Has, WasGiven, told_text, IsTold}
use Rattle.mr_loop.specs.Turns.{is_turn_of, noted_in, front_text, behind_front, flushed, fresh_client}
use Rattle.mr_loop.proofs.PlaceLemmas.{set_same, set_there}

get_append : {X : Type 0} (xs ys : List X) (n : ℕ) (x : X) → slice_get xs n ≡ Some x → slice_get (xs ++ ys) n ≡ Some x
get_append [] ys n x h = absurd (let no : None ≡ Some x = h in cc)
get_append (y ∷ xs) ys zero x h = h
get_append (y ∷ xs) ys (suc n) x h = get_append xs ys n x h

get_last : {X : Type 0} (xs : List X) (x : X) → slice_get (xs ++ x ∷ []) (length xs) ≡ Some x
get_last [] x = refl
get_last (y ∷ xs) x = get_last xs x

same_or_not : (n i : ℕ) → (n ≡ i) ⊎ (n ≢ i)
same_or_not zero zero = inl refl
same_or_not zero (suc i) = inr (λ e. omega arith)
same_or_not (suc n) zero = inr (λ e. omega arith)
same_or_not (suc n) (suc i) = elim (same_or_not n i) [ inl e ↦ inl (ap (λ k. suc k) e) | inr ne ↦ inr (λ e. ne (omega arith)) ]

get_other : {X : Type 0} (xs : List X) (i n : ℕ) (new x : X) → slice_get xs n ≡ Some x → n ≢ i → slice_get (slice_set xs i new) n ≡ Some x
get_other [] i n new x h ne = absurd (let no : None ≡ Some x = h in cc)
get_other (y ∷ xs) zero zero new x h ne = absurd (ne refl)
get_other (y ∷ xs) zero (suc n) new x h ne = h
get_other (y ∷ xs) (suc i) zero new x h ne = h
get_other (y ∷ xs) (suc i) (suc n) new x h ne = get_other xs i n new x h (λ e. ne (ap (λ k. suc k) e))

-- an answer that stands at a turn was given
abbrev pub Fits : List AnswerView → Turn → Type 0
Fits answers (Waits op) = Unit {0}
Fits answers (Answered answer) = Has answers answer
Fits answers (Says reply) = Unit {0}

-- what a client was told, and what waits, in order
pub record Keeps (dues : List Due) (answers : List AnswerView) (client : Client) : Type 0 where
  pub told : List Turn
  pub text : client.out ≡ flat_map told_text told
  pub in_order : dues ≡ map due_of_turn told ++ map due_of_turn client.turns
  pub by_core : AllByRecursion (WasGiven answers) told
  pub own : AllByRecursion (Fits answers) client.turns

has_grows : (list more : List AnswerView) (answer : AnswerView) → Has list answer → Has (list ++ more) answer
has_grows list more answer h = record { place = h.place; there = get_append list more h.place answer h.there }

given_grows : (list more : List AnswerView) (turn : Turn) → WasGiven list turn → WasGiven (list ++ more) turn
given_grows list more (Waits op) h = h
given_grows list more (Answered answer) h = has_grows list more answer h
given_grows list more (Says reply) h = h

fits_grows : (list more : List AnswerView) (turn : Turn) → Fits list turn → Fits (list ++ more) turn
fits_grows list more (Waits op) h = h
fits_grows list more (Answered answer) h = has_grows list more answer h
fits_grows list more (Says reply) h = h

all_grow : (list more : List AnswerView) (turns : List Turn) → AllByRecursion (WasGiven list) turns → AllByRecursion (WasGiven (list ++ more)) turns
all_grow list more [] h = h
all_grow list more (turn ∷ turns) h = (given_grows list more turn h.0, all_grow list more turns h.1)

own_grow : (list more : List AnswerView) (turns : List Turn) → AllByRecursion (Fits list) turns → AllByRecursion (Fits (list ++ more)) turns
own_grow list more [] h = h
own_grow list more (turn ∷ turns) h = (fits_grows list more turn h.0, own_grow list more turns h.1)

keeps_grow : (dues : List Due) (list more : List AnswerView) (client : Client) → Keeps dues list client → Keeps dues (list ++ more) client
keeps_grow dues list more client k = record {
  told = k.told;
  text = k.text;
  in_order = k.in_order;
  by_core = all_grow list more k.told k.by_core;
  own = own_grow list more client.turns k.own;
}

own_more : (list : List AnswerView) (turns : List Turn) (turn : Turn) → AllByRecursion (Fits list) turns → Fits list turn → AllByRecursion (Fits list) (turns ++ turn ∷ [])
own_more list [] turn h one = (one, h)
own_more list (first ∷ turns) turn h one = (h.0, own_more list turns turn h.1 one)

-- one more turn waits
keeps_more : (dues : List Due) (list : List AnswerView) (client : Client) (turn : Turn) → Fits list turn → Keeps dues list client
    → Keeps (dues ++ due_of_turn turn ∷ []) list (with_turn turn client)
keeps_more dues list client turn fits k = record {
  told = k.told;
  text = k.text;
  in_order = ap (λ x. x ++ due_of_turn turn ∷ []) k.in_order
      ∙ append_assoc (map due_of_turn k.told) (map due_of_turn client.turns) (due_of_turn turn ∷ [])
      ∙ ap (λ x. map due_of_turn k.told ++ x) (sym (map-append due_of_turn client.turns (turn ∷ [])));
  by_core = k.by_core;
  own = own_more list client.turns turn k.own fits;
}

own_set : (list : List AnswerView) (turns : List Turn) (at : ℕ) (turn : Turn) → AllByRecursion (Fits list) turns → Fits list turn → AllByRecursion (Fits list) (slice_set turns at turn)
own_set list [] at turn h one = h
own_set list (first ∷ turns) zero turn h one = (one, h.1)
own_set list (first ∷ turns) (suc at) turn h one = (h.0, own_set list turns at turn h.1 one)

turn_due : (op : OpId) (turn : Turn) → is_turn_of op turn ≡ true → due_of_turn turn ≡ Due.Op op
turn_due op (Waits own) h = ap (λ o. Due.Op o) (same_op own op h)
turn_due op (Answered answer) h = absurd (let no : false ≡ true = h in cc)
turn_due op (Says reply) h = absurd (let no : false ≡ true = h in cc)

-- an answer that is noted leaves what is due
noted_dues : (answer : AnswerView) (turns : List Turn) (place : Option ℕ) → position (is_turn_of answer.op) turns ≡ place
    → map due_of_turn (noted_in turns place answer) ≡ map due_of_turn turns
noted_dues answer turns None e = refl
noted_dues answer turns (Some at) e =
    let found = position-Some (is_turn_of answer.op) turns at (Answered answer) e in
    let there : slice_get (map due_of_turn turns) at ≡ Some (Due.Op answer.op) =
    slice_get-map due_of_turn turns at ∙ ap (λ o. option_map due_of_turn o) (slice_get-get_or turns at (Answered answer) found.0)
    ∙ ap (λ d. Some d) (turn_due answer.op _ found.1) in
    map-set due_of_turn turns at (Answered answer) ∙ set_same (map due_of_turn turns) at (Due.Op answer.op) there

noted_own : (list : List AnswerView) (answer : AnswerView) (turns : List Turn) (place : Option ℕ) → Has list answer → AllByRecursion (Fits list) turns
    → AllByRecursion (Fits list) (noted_in turns place answer)
noted_own list answer turns None has h = h
noted_own list answer turns (Some at) has h = own_set list turns at (Answered answer) h has

keeps_noted : (dues : List Due) (list : List AnswerView) (client : Client) (answer : AnswerView) → Has list answer → Keeps dues list client
    → Keeps dues list (with_answer answer client)
keeps_noted dues list client answer has k = record {
  told = k.told;
  text = k.text;
  in_order = k.in_order ∙ ap (λ x. map due_of_turn k.told ++ x)
      (sym (noted_dues answer client.turns (position (is_turn_of answer.op) client.turns) refl));
  by_core = k.by_core;
  own = noted_own list answer client.turns (position (is_turn_of answer.op) client.turns) has k.own;
}

-- what is there for the first turns, and the turns behind them
pub record Fronts (list : List AnswerView) (turns : List Turn) : Type 0 where
  pub told : List Turn
  pub text : front_text turns ≡ flat_map told_text told
  pub dues : map due_of_turn turns ≡ map due_of_turn told ++ map due_of_turn (behind_front turns)
  pub by_core : AllByRecursion (WasGiven list) told
  pub own : AllByRecursion (Fits list) (behind_front turns)

fronts : (list : List AnswerView) (turns : List Turn) → AllByRecursion (Fits list) turns → Fronts list turns
fronts list [] h = record { told = []; text = refl; dues = refl; by_core = tt; own = h }
fronts list (Waits op ∷ turns) h = record { told = []; text = refl; dues = refl; by_core = tt; own = h }
fronts list (Answered answer ∷ turns) h =
    let later = fronts list turns h.1 in
    record {
      told = Answered answer ∷ later.told;
      text = ap (λ x. told_text (Answered answer) ++ x) later.text;
      dues = ap (λ x. Due.Op answer.op ∷ x) later.dues;
      by_core = (h.0, later.by_core);
      own = later.own;
    }
fronts list (Says reply ∷ turns) h =
    let later = fronts list turns h.1 in
    record {
      told = Says reply ∷ later.told;
      text = ap (λ x. told_text (Says reply) ++ x) later.text;
      dues = ap (λ x. Due.Line reply ∷ x) later.dues;
      by_core = (tt, later.by_core);
      own = later.own;
    }

all_append : (list : List AnswerView) (xs ys : List Turn) → AllByRecursion (WasGiven list) xs → AllByRecursion (WasGiven list) ys → AllByRecursion (WasGiven list) (xs ++ ys)
all_append list [] ys h k = k
all_append list (x ∷ xs) ys h k = (h.0, all_append list xs ys h.1 k)

keeps_flushed : (dues : List Due) (list : List AnswerView) (client : Client) → Keeps dues list client → Keeps dues list (flushed client)
keeps_flushed dues list client k =
    let f = fronts list client.turns k.own in
    record {
      told = k.told ++ f.told;
      text = ap (λ x. x ++ front_text client.turns) k.text ∙ ap (λ x. flat_map told_text k.told ++ x) f.text
          ∙ sym (flat_map-append told_text k.told f.told);
      in_order = k.in_order ∙ ap (λ x. map due_of_turn k.told ++ x) f.dues
          ∙ sym (append_assoc (map due_of_turn k.told) (map due_of_turn f.told) (map due_of_turn (behind_front client.turns)))
          ∙ ap (λ x. x ++ map due_of_turn (behind_front client.turns)) (sym (map-append due_of_turn k.told f.told));
      by_core = all_append list k.told f.told k.by_core f.by_core;
      own = f.own;
    }

changed_other : (change : Client → Client) (clients : List Client) (at place : ℕ) (client : Client) (o : Option Client)
    → slice_get clients place ≡ Some client → place ≢ at → slice_get (changed_in o at change clients) place ≡ Some client
changed_other change clients at place client None h ne = h
changed_other change clients at place client (Some c) h ne = get_other clients at place (change c) client h ne

changed_get : (change : Client → Client) (clients : List Client) (at place : ℕ) (client : Client) → slice_get clients place ≡ Some client
    → ((at ≡ place) × (slice_get (changed at change clients) place ≡ Some (change client)))
    ⊎ ((at ≢ place) × (slice_get (changed at change clients) place ≡ Some client))
changed_get change clients at place client h =
    elim (same_or_not at place) [
      | inl e ↦ (
          let G : ℕ → Type 0 = λ n. slice_get clients n ≡ Some client in
          let here : slice_get clients at ≡ Some client = subst G (sym e) h in
          let P : ℕ → Type 0 = λ n. slice_get (slice_set clients n (change client)) place ≡ Some (change client) in
          inl (e, ap (λ o. slice_get (changed_in o at change clients) place) here ∙ subst P (sym e) (set_there clients place (change client) client h)))
      | inr ne ↦ inr (ne, changed_other change clients at place client (slice_get clients at) h (λ e. ne (sym e)))
    ]

-- the client at a place keeps what it was told and what waits
pub record Stands (dues : List Due) (list : List AnswerView) (place : ℕ) (clients : List Client) : Type 0 where
  pub client : Client
  pub there : slice_get clients place ≡ Some client
  pub keeps : Keeps dues list client

not_eqb : (a b : ℕ) → a ≢ b → eqb a b ≡ false
not_eqb a b ne = elim (eqb_tells a b) [ inl same ↦ absurd (ne same.1) | inr other ↦ other.0 ]

same_dues : (a b : List Due) (list : List AnswerView) (place : ℕ) (clients : List Client) → a ≡ b → Stands a list place clients → Stands b list place clients
same_dues a b list place clients e s = let P : List Due → Type 0 = λ x. Stands x list place clients in subst P e s

same_list : (dues : List Due) (a b : List AnswerView) (place : ℕ) (clients : List Client) → a ≡ b → Stands dues a place clients → Stands dues b place clients
same_list dues a b place clients e s = let P : List AnswerView → Type 0 = λ x. Stands dues x place clients in subst P e s

-- one more turn of the client at some place
stands_more : (at : ℕ) (turn : Turn) (clients : List Client) (place : ℕ) (dues : List Due) (list : List AnswerView)
    → ((answers : List AnswerView) → Fits answers turn) → Stands dues list place clients
    → Stands (dues ++ cond (eqb at place) (due_of_turn turn ∷ []) []) list place (changed at (with_turn turn) clients)
stands_more at turn clients place dues list fits s =
    elim (changed_get (with_turn turn) clients at place s.client s.there) [
      | inl here ↦ same_dues (dues ++ due_of_turn turn ∷ []) _ list place _
          (ap (λ b. dues ++ cond b (due_of_turn turn ∷ []) []) (sym (eq-eqb at place here.0)))
          (record { client = with_turn turn s.client; there = here.1; keeps = keeps_more dues list s.client turn (fits list) s.keeps })
      | inr other ↦ same_dues dues _ list place _
          (sym (ap (λ b. dues ++ cond b (due_of_turn turn ∷ []) []) (not_eqb at place other.0) ∙ append-nil dues))
          (record { client = s.client; there = other.1; keeps = s.keeps })
    ]

stands_queued : (at : ℕ) (step : Step) (core : ProxyView) (clients : List Client) (place : ℕ) (dues : List Due) (list : List AnswerView)
    → Stands dues list place clients
    → Stands (dues ++ due_now place (Event.Does at step) core) list place (queued at step core clients)
stands_queued at (Issue reading request) core clients place dues list s = stands_more at (Waits (next_op core)) clients place dues list (λ answers. tt) s
stands_queued at (Take back) core clients place dues list s = same_dues dues _ list place clients (sym (append-nil dues)) s
stands_queued at (GiveUp op) core clients place dues list s = same_dues dues _ list place clients (sym (append-nil dues)) s

stands_answered : (at : ℕ) (answer : Option AnswerView) (clients : List Client) (place : ℕ) (dues : List Due) (list : List AnswerView)
    → Stands dues list place clients → Stands dues (list ++ option_to_list answer) place (answered at answer clients)
stands_answered at None clients place dues list s = same_list dues list _ place _ (sym (append-nil list)) s
stands_answered at (Some answer) clients place dues list s =
    let grown = keeps_grow dues list (answer ∷ []) s.client s.keeps in
    let has : Has (list ++ answer ∷ []) answer = record { place = length list; there = get_last list answer } in
    elim (changed_get (with_answer answer) clients at place s.client s.there) [
      | inl here ↦ record { client = with_answer answer s.client; there = here.1; keeps = keeps_noted dues (list ++ answer ∷ []) s.client answer has grown }
      | inr other ↦ record { client = s.client; there = other.1; keeps = grown }
    ]

stands_now : (event : Event) (f : FrontView) (place : ℕ) (dues : List Due) (list : List AnswerView)
    → Stands dues list place f.clients
    → Stands (dues ++ due_now place event f.core) (list ++ given_now event f.core) place (after_event event f).clients
stands_now (Event.Does at step) f place dues list s =
    stands_answered at (answer_at f.core step) (queued at step f.core f.clients) place _ list (stands_queued at step f.core f.clients place dues list s)
stands_now (Event.Alone step) f place dues list s =
    same_list _ list _ place _ (sym (append-nil list)) (same_dues dues _ list place _ (sym (append-nil dues)) s)
stands_now (Event.Denies cause) f place dues list s =
    same_list _ list _ place _ (sym (append-nil list)) (same_dues dues _ list place _ (sym (append-nil dues)) s)
stands_now (Event.Tells at reply) f place dues list s =
    same_list _ list _ place _ (sym (append-nil list)) (stands_more at (Says reply) f.clients place dues list (λ answers. tt) s)
stands_now (Event.Flushes at) f place dues list s =
    same_list _ list _ place _ (sym (append-nil list)) (same_dues dues _ list place _ (sym (append-nil dues))
    (elim (changed_get flushed f.clients at place s.client s.there) [
      | inl here ↦ record { client = flushed s.client; there = here.1; keeps = keeps_flushed dues list s.client s.keeps }
      | inr other ↦ record { client = s.client; there = other.1; keeps = s.keeps }
    ]))

stands_then : (events : List Event) (f : FrontView) (place : ℕ) (dues : List Due) (list : List AnswerView)
    → Stands dues list place f.clients
    → Stands (dues ++ due place events f) (list ++ given events f) place (after_all events f).clients
stands_then [] f place dues list s =
    same_list _ list _ place _ (sym (append-nil list)) (same_dues dues _ list place _ (sym (append-nil dues)) s)
stands_then (event ∷ events) f place dues list s =
    same_list _ _ _ place _ (append_assoc list (given_now event f.core) (given events (after_event event f)))
    (same_dues _ _ _ place _ (append_assoc dues (due_now place event f.core) (due place events (after_event event f)))
    (stands_then events (after_event event f) place _ _ (stands_now event f place dues list s)))

pub told_in_order : (events : List Event) (f : FrontView) (place : ℕ) (client : Client)
    → slice_get f.clients place ≡ Some fresh_client → slice_get (after_all events f).clients place ≡ Some client
    → IsTold (due place events f) (given events f) client
told_in_order events f place client fresh there =
    let begins : Stands [] [] place f.clients = record {
      client = fresh_client;
      there = fresh;
      keeps = record { told = []; text = refl; in_order = refl; by_core = tt; own = tt };
    } in
    let s = stands_then events f place [] [] begins in
    let same : s.client ≡ client = (let e : Some s.client ≡ Some client = sym s.there ∙ there in cc) in
    let P : Client → Type 0 = λ c. IsTold (due place events f) (given events f) c in
    subst P same (record { told = s.keeps.told; text = s.keeps.text; in_order = s.keeps.in_order; by_core = s.keeps.by_core })
