-- What is there for a first request is told.
use Rattle.std.proofs.Common.{◌≡◌, ℕ, List, [], ◌∷◌, ◌++◌, Some, None, slice_set, refl, sym, ap, ◌∙◌}
use Rattle.std.specs.Prelude.{slice_get, Result, Ok, Err, OnOk, OnErr}
use Rattle.std.proofs.lemmas.List.{append-nil, set-set}
use Rattle.mr_proxy.specs.ProxyView.{ProxyView}
use Rattle.mr_loop.specs.Events.{FrontView, Event, after_event, changed}
use Rattle.mr_loop.proofs.PlaceLemmas.{changes, set_there}
use Rattle.mr_loop.specs.declared.client.Client.{Client}
use Rattle.mr_loop.specs.declared.counts.LoopCounts.{LoopCounts}
use Rattle.mr_loop.specs.declared.turns.Turn.{Turn}
use Rattle.mr_loop.specs.Turns.{text_of_turn, front_text, behind_front, text_before, left_behind, flushed}

abbrev client_of : List Turn → List ℕ → Client
client_of turns out = record { turns = turns; out = out }

same_client : (a b : List Turn) (s t : List ℕ) → a ≡ b → s ≡ t → client_of a s ≡ client_of b t
same_client a b s t p q = ap (λ x. client_of x s) p ∙ ap (λ x. client_of b x) q

behind_waits : (turns : List Turn) (turn : Turn) → slice_get turns 0 ≡ Some turn → text_of_turn turn ≡ None → behind_front turns ≡ turns
behind_waits [] turn h e = refl
behind_waits (first ∷ turns) turn h e =
    let same : first ≡ turn = cc in
    ap (λ o. left_behind o (first ∷ turns) (behind_front turns)) (ap text_of_turn same ∙ e)

text_waits : (turns : List Turn) (turn : Turn) → slice_get turns 0 ≡ Some turn → text_of_turn turn ≡ None → front_text turns ≡ []
text_waits [] turn h e = refl
text_waits (first ∷ turns) turn h e =
    let same : first ≡ turn = cc in
    ap (λ o. text_before o (front_text turns)) (ap text_of_turn same ∙ e)

-- the first turn waits: nothing is to be told
pub waits : (c : Client) (turn : Turn) → slice_get c.turns 0 ≡ Some turn → text_of_turn turn ≡ None → c ≡ flushed c
waits c turn h e =
    same_client _ _ _ _ (sym (behind_waits c.turns turn h e)) (sym (ap (λ t. c.out ++ t) (text_waits c.turns turn h e) ∙ append-nil c.out))

empty_behind : (turns : List Turn) → slice_get turns 0 ≡ None → (behind_front turns ≡ turns) × (front_text turns ≡ [])
empty_behind [] h = (refl, refl)
empty_behind (turn ∷ turns) h = absurd (let no : Some turn ≡ None = h in cc)

-- there is no turn: nothing is to be told
pub nothing : (c : Client) → slice_get c.turns 0 ≡ None → c ≡ flushed c
nothing c h =
    let e = empty_behind c.turns h in
    same_client _ _ _ _ (sym e.0) (sym (ap (λ t. c.out ++ t) e.1 ∙ append-nil c.out))

-- a client that was told a part is told the rest
pub flushed_part : (clients : List Client) (place : ℕ) (old new : Client) → slice_get clients place ≡ Some old → flushed new ≡ flushed old
    → changed place flushed (slice_set clients place new) ≡ changed place flushed clients
flushed_part clients place old new there same =
    changes (slice_set clients place new) place new flushed (set_there clients place new old there)
    ∙ set-set clients place new (flushed new)
    ∙ ap (λ c. slice_set clients place c) same
    ∙ sym (changes clients place old flushed there)

abbrev pub front_of : ProxyView → List Client → List ℕ → LoopCounts → FrontView
front_of core clients touched counts = record { core = core; clients = clients; touched = touched; counts = counts }

-- the same with the core
pub front_part : (core : ProxyView) (clients : List Client) (touched : List ℕ) (counts : LoopCounts) (place : ℕ) (old new : Client)
    → slice_get clients place ≡ Some old → flushed new ≡ flushed old
    → after_event (Event.Flushes place) (front_of core (slice_set clients place new) touched counts)
    ≡ after_event (Event.Flushes place) (front_of core clients touched counts)
front_part core clients touched counts place old new there same =
    ap (λ c. front_of core c touched counts) (flushed_part clients place old new there same)

-- a client is told all that is there
pub front_flushed : (core : ProxyView) (clients : List Client) (touched : List ℕ) (counts : LoopCounts) (place : ℕ) (old new : Client)
    → slice_get clients place ≡ Some old → new ≡ flushed old
    → front_of core (slice_set clients place new) touched counts ≡ after_event (Event.Flushes place) (front_of core clients touched counts)
front_flushed core clients touched counts place old new there is =
    ap (λ c. front_of core c touched counts) (ap (λ c. slice_set clients place c) is ∙ sym (changes clients place old flushed there))

pub on_ok : {T E P Q : Type 0} (r : Result T E) → OnOk r P → (P → Q) → OnOk r Q
on_ok (Ok x) h f = f h
on_ok (Err e) h f = h

pub on_err : {T E P Q : Type 0} (r : Result T E) → OnErr r P → (P → Q) → OnErr r Q
on_err (Ok x) h f = h
on_err (Err e) h f = f h
