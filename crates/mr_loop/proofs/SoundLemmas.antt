-- What holds of the inbox of each client of a node's loop stays so.
use Rattle.std.proofs.Common.{◌≡◌, ◌∙◌, ℕ, suc, zero, List, [], ◌∷◌, ◌++◌, Some, None, inl, inr, refl, sym, ap, subst, slice_set}
use Rattle.std.specs.Prelude.{slice_get}
use Rattle.mr_loop.specs.declared.inbox.Inbox.{Inbox}
use Rattle.mr_loop.specs.declared.node.client.NodeClient.{NodeClient}
use Rattle.mr_loop.specs.Inboxes.{fresh_inbox}
use Rattle.mr_loop.specs.LoopView.{TakesPiece, EndsInput}
use Rattle.mr_loop.specs.node.NodeView.{fresh_node_client}
use Rattle.mr_loop.specs.node.Serving.{IsSound, AllSound}

-- an inbox to which nothing came
pub sound_fresh : IsSound fresh_inbox
sound_fresh = record { none_held = refl; is_open = λ e. refl; one_end = refl }

-- bytes came
pub sound_fed : (piece : List ℕ) (old new : Inbox) → IsSound old → TakesPiece piece old new → IsSound new
sound_fed piece old new sound (inl takes) =
    let same = takes.3 in
    let none : new.held ≡ None = ap (λ (i : Inbox). i.held) same ∙ sound.none_held in
    let ended : new.has_ended ≡ old.has_ended = ap (λ (i : Inbox). i.has_ended) same in
    record {
      none_held = none;
      is_open = λ e. takes.0.is_closed;
      one_end = takes.0.is_ended ∙ sym takes.2 ∙ sound.one_end ∙ sym ended;
    }
sound_fed piece old new sound (inr takes) =
    let same = takes.2 in
    let none : new.held ≡ None = ap (λ (i : Inbox). i.held) same ∙ sound.none_held in
    let done : new.is_done ≡ old.is_done = ap (λ (i : Inbox). i.is_done) same in
    let ended : new.has_ended ≡ old.has_ended = ap (λ (i : Inbox). i.has_ended) same in
    record {
      none_held = none;
      is_open = λ e. takes.1.is_closed ∙ sound.is_open (sym done ∙ e);
      one_end = takes.1.is_ended ∙ sound.one_end ∙ sym ended;
    }

-- the input ended
pub sound_ended : (old new : Inbox) → IsSound old → EndsInput old new → IsSound new
sound_ended old new sound ends =
    let none : new.held ≡ None = ap (λ (i : Inbox). i.held) ends.becomes ∙ sound.none_held in
    let done : new.is_done ≡ old.is_done = ap (λ (i : Inbox). i.is_done) ends.becomes in
    record {
      none_held = none;
      is_open = λ e. ends.reader.is_closed ∙ sound.is_open (sym done ∙ e);
      one_end = ends.reader.is_ended ∙ sym (ap (λ (i : Inbox). i.has_ended) ends.becomes);
    }

-- the client of a place
pub sound_at : (clients : List NodeClient) (place : ℕ) (client : NodeClient) → AllSound clients → slice_get clients place ≡ Some client
    → IsSound client.inbox
sound_at [] place client all there = cc
sound_at (first ∷ later) zero client all there =
    let is : first ≡ client = cc in subst (λ (c : NodeClient). IsSound c.inbox) is all.0
sound_at (first ∷ later) (suc place) client all there = sound_at later place client all.1 there

-- a client changed at its place
pub all_sound_set : (clients : List NodeClient) (place : ℕ) (client : NodeClient) → AllSound clients → IsSound client.inbox
    → AllSound (slice_set clients place client)
all_sound_set [] place client all sound = tt
all_sound_set (first ∷ later) zero client all sound = (sound, all.1)
all_sound_set (first ∷ later) (suc place) client all sound = (all.0, all_sound_set later place client all.1 sound)

-- a place is as new
pub all_sound_fresh : (clients : List NodeClient) (place : ℕ) (client : NodeClient) → AllSound clients → client ≡ fresh_node_client
    → AllSound (slice_set clients place client)
all_sound_fresh clients place client all fresh =
    all_sound_set clients place client all (subst (λ (c : NodeClient). IsSound c.inbox) (sym fresh) sound_fresh)

all_sound_more : (clients : List NodeClient) (client : NodeClient) → AllSound clients → IsSound client.inbox → AllSound (clients ++ client ∷ [])
all_sound_more [] client all sound = (sound, tt)
all_sound_more (first ∷ later) client all sound = (all.0, all_sound_more later client all.1 sound)

-- one more place
pub all_sound_grown : (clients grown : List NodeClient) (client : NodeClient) → AllSound clients → client ≡ fresh_node_client
    → grown ≡ clients ++ client ∷ [] → AllSound grown
all_sound_grown clients grown client all fresh grows =
    subst AllSound (sym grows) (all_sound_more clients client all (subst (λ (c : NodeClient). IsSound c.inbox) (sym fresh) sound_fresh))
