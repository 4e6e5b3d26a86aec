-- What the pieces of a word between its commas say of the names that are made of them.
use Rattle.std.proofs.Common.{◌≡◌, ℕ, ◌+◌, ◌<◌, ◌∙◌, ap, refl, subst, List, [], ◌∷◌, ◌++◌, All, length, take, map, slice_index_or, inl, inr, ◌⊎◌, sym, IfOk, IfErr, IsErrAnd, Result, Ok, Err}
use Rattle.std.proofs.lemmas.List.{take_more}
use Rattle.std.proofs.lemmas.List.Elements.{All-push}
use Rattle.std.specs.Borrow.{Bor}
use Rattle.std.specs.Prelude.{Vec}
use Rattle.mr_pools.specs.NodeName.{IsNodeName}
use Rattle.mr_pools.specs.Routing.{IsRoutingOf, RoutingView}
use Rattle.mr_pools.specs.declared.error.PoolError.{PoolError}
use Rattle.mr_pools.specs.declared.error.PoolError.TheVariants.{BadName, OutOfMemory}
use Rattle.mr_tool.specs.PlannedConfig.{RefusesRouting, SaysNames, SaysPool, SaysRouting}
use Rattle.mr_tool.specs.PlannedSteps.{MakesNames}
use Rattle.mr_words.proofs.ListLemmas.{IsPieceAt, piece_at}
use Rattle.mr_words.specs.declared.plan_words.MigrationWords.{MigrationWords}

-- the names so far are the pieces so far, and each of these can name a node
abbrev pub AreMade : List (List ℕ) → ℕ → List (List ℕ) → Type 0
AreMade words i made = (made ≡ take i words) × All IsNodeName (take i words)

names_more : (words made more : List (List ℕ)) (i : ℕ) (piece name : List ℕ) → IsPieceAt words i piece → IsNodeName piece → name ≡ piece
    → more ≡ made ++ name ∷ [] → AreMade words i made → AreMade words (i + 1) more
names_more words made more i piece name at is same pushed so_far =
    let next : take (i + 1) words ≡ take i words ++ piece ∷ [] =
    take_more words i [] at.inside ∙ ap (λ (w : List ℕ). take i words ++ w ∷ []) (at.reads []) in
    (rw (pushed, next, same, so_far.0) refl, rw next (All-push IsNodeName (take i words) piece so_far.1 is))

-- one more name
pub name_made : (pieces lent : List (Bor (List ℕ))) (words : List (List ℕ)) (i : ℕ) (p : Bor (List ℕ)) (bytes name : List ℕ) (made more : List (List ℕ))
    → map (λ (q : Bor (List ℕ)). q.now) pieces ≡ words → lent ≡ pieces → i < length lent → bytes ≡ (slice_index_or lent i p).now
    → IsNodeName bytes × (name ≡ bytes) → more ≡ made ++ name ∷ [] → AreMade words i made → AreMade words (i + 1) more
name_made pieces lent words i p bytes name made more is same lt piece_is named pushed so_far =
    names_more words made more i bytes name (piece_at pieces lent words i p bytes is same lt piece_is) named.0 named.1 pushed so_far

-- a piece that can name no node
pub name_refused : (pieces lent : List (Bor (List ℕ))) (words : List (List ℕ)) (i : ℕ) (p : Bor (List ℕ)) (bytes : List ℕ)
    → map (λ (q : Bor (List ℕ)). q.now) pieces ≡ words → lent ≡ pieces → i < length lent → bytes ≡ (slice_index_or lent i p).now → ¬ IsNodeName bytes
    → ¬ All IsNodeName words
name_refused pieces lent words i p bytes is same lt piece_is none all =
    let at = piece_at pieces lent words i p bytes is same lt piece_is in
    none (subst IsNodeName (at.reads []) (all i [] at.inside))

-- why a word says no names
pub names_refused : {Z : Type 0} (word bytes : List ℕ) (result : Result (Vec (List ℕ) Z) PoolError) (refusal : PoolError)
    → IsErrAnd result (λ other. other ≡ refusal)
    → ((refusal ≡ BadName) × ¬ IsNodeName bytes) ⊎ ((refusal ≡ OutOfMemory) × IsNodeName bytes)
    → (¬ IsNodeName bytes → ¬ SaysNames word) → MakesNames word result
names_refused word bytes (Ok names) refusal is why bad = absurd is
names_refused {Z = Z} word bytes (Err other) refusal is (inl none) bad =
    subst (λ (e : PoolError). MakesNames {Z = Z} word (Err e)) (sym (is ∙ none.0)) (bad none.1)
names_refused {Z = Z} word bytes (Err other) refusal is (inr memory) bad =
    subst (λ (e : PoolError). MakesNames {Z = Z} word (Err e)) (sym (is ∙ memory.0)) tt

-- the routing of two pools that words say, or why there is none
pub routing_is_said : (words : MigrationWords) (old new : List (List ℕ)) (result : Result RoutingView PoolError) → SaysPool words.old.now (Ok old)
    → SaysPool words.new.now (Ok new) → IsRoutingOf old new words.hash result → IfOk result (λ routing. SaysRouting words (Ok routing))
routing_is_said words old new (Ok routing) old_is new_is is = record { old = old; new = new; old_is = old_is; new_is = new_is; is_routing = is }
routing_is_said words old new (Err refusal) old_is new_is is = tt

pub routing_is_refused : (words : MigrationWords) (old new : List (List ℕ)) (result : Result RoutingView PoolError) → SaysPool words.old.now (Ok old)
    → SaysPool words.new.now (Ok new) → IsRoutingOf old new words.hash result → IfErr result (RefusesRouting words)
routing_is_refused words old new (Ok routing) old_is new_is is = tt
routing_is_refused words old new (Err refusal) old_is new_is is =
    inr (inr (record { old = old; new = new; old_is = old_is; new_is = new_is; is_routing = is }))
