-- A request that isn't begun after all: its turn says so, or leaves.
use Rattle.std.proofs.Common.{◌≡◌, ℕ, List, [], ◌∷◌, ◌++◌, Option, Some, None, slice_set, refl, sym, ap, ◌∙◌}
use Rattle.std.specs.Prelude.{slice_get}
use Rattle.std.proofs.lemmas.List.{append-nil, set-set}
use Rattle.mr_text.specs.declared.cause.Cause.{Cause}
use Rattle.mr_text.specs.declared.reply.Reply.{Reply}
use Rattle.mr_proxy.specs.ProxyView.{ProxyView}
use Rattle.mr_loop.specs.declared.client.Client.{Client}
use Rattle.mr_loop.specs.declared.counts.LoopCounts.{LoopCounts}
use Rattle.mr_loop.specs.declared.turns.Turn.{Turn}
use Rattle.mr_loop.specs.declared.turns.Turn.TheVariants.{Says}
use Rattle.mr_loop.specs.Asking.{tells}
use Rattle.mr_loop.specs.Counts.{with_denied}
use Rattle.mr_loop.specs.Events.{Event, after_all, changed, with_turn}
use Rattle.mr_loop.specs.steps.Denying.{denied}
use Rattle.mr_loop.proofs.FlushLemmas.{front_of}
use Rattle.mr_loop.proofs.PlaceLemmas.{changes, set_same}
use Rattle.mr_loop.proofs.TurnLemmas.{says, denied_last}

abbrev pub told_in : Option Reply → ℕ → List Client → List Client
told_in None client clients = clients
told_in (Some reply) client clients = changed client (with_turn (Says reply)) clients

abbrev pub client_of : List Turn → List ℕ → Client
client_of turns out = record { turns = turns; out = out }

told_client : (clients : List Client) (client : ℕ) (old : Client) (denial : Option Reply) → slice_get clients client ≡ Some old
    → slice_set clients client (client_of (old.turns ++ says denial) old.out) ≡ told_in denial client clients
told_client clients client old None there =
    ap (λ t. slice_set clients client (client_of t old.out)) (append-nil old.turns) ∙ set_same clients client old there
told_client clients client old (Some reply) there = sym (changes clients client old (with_turn (Says reply)) there)

-- the client whose last turn was denied, by what stood there before that turn
pub denied_client : (clients : List Client) (client : ℕ) (old now : Client) (turn : Turn) (turns : List Turn) (denial : Option Reply)
    → slice_get clients client ≡ Some old → now ≡ with_turn turn old → turns ≡ denied denial now.turns
    → slice_set (slice_set clients client (with_turn turn old)) client (record { turns = turns; out = now.out }) ≡ told_in denial client clients
denied_client clients client old now turn turns denial there is e =
    let more : now.turns ≡ old.turns ++ turn ∷ [] = ap (λ (c : Client). c.turns) is in
    let left : turns ≡ old.turns ++ says denial = e ∙ ap (λ t. denied denial t) more ∙ denied_last old.turns turn denial in
    set-set clients client (with_turn turn old) (client_of turns now.out)
    ∙ ap (λ o. slice_set clients client (client_of turns o)) (ap (λ (c : Client). c.out) is)
    ∙ ap (λ t. slice_set clients client (client_of t old.out)) left
    ∙ told_client clients client old denial there

-- the front of which a client is told this, or nothing, since its request isn't begun
pub told_front : (core : ProxyView) (clients : List Client) (touched : List ℕ) (counts : LoopCounts) (client : ℕ) (cause : Cause) (denial : Option Reply)
    → after_all (Event.Denies cause ∷ tells client denial) (front_of core clients touched counts)
    ≡ front_of core (told_in denial client clients) touched (with_denied cause counts)
told_front core clients touched counts client cause None = refl
told_front core clients touched counts client cause (Some reply) = refl

-- the same of clients of which one had a turn more
pub denied_front : (core core' : ProxyView) (clients items : List Client) (touched touched' : List ℕ) (counts counts' : LoopCounts) (client : ℕ) (old now : Client)
    (turn : Turn) (turns : List Turn) (cause : Cause) (denial : Option Reply) → slice_get clients client ≡ Some old → now ≡ with_turn turn old
    → turns ≡ denied denial now.turns → items ≡ slice_set clients client (with_turn turn old) → core' ≡ core → touched' ≡ touched
    → counts' ≡ with_denied cause counts
    → front_of core' (slice_set items client (record { turns = turns; out = now.out })) touched' counts'
    ≡ after_all (Event.Denies cause ∷ tells client denial) (front_of core clients touched counts)
denied_front core core' clients items touched touched' counts counts' client old now turn turns cause denial there is e written p q k =
    ap (λ x. front_of x (slice_set items client (client_of turns now.out)) touched' counts') p
    ∙ ap (λ t. front_of core (slice_set items client (client_of turns now.out)) t counts') q
    ∙ ap (λ x. front_of core (slice_set items client (client_of turns now.out)) touched x) k
    ∙ ap (λ i. front_of core (slice_set i client (client_of turns now.out)) touched (with_denied cause counts)) written
    ∙ ap (λ c. front_of core c touched (with_denied cause counts)) (denied_client clients client old now turn turns denial there is e)
    ∙ sym (told_front core clients touched counts client cause denial)
