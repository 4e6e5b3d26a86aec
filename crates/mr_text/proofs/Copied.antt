-- A list that is copied item by item.
use Rattle.std.proofs.Common.{◌≡◌, ℕ, ◌+◌, ◌<◌, List, [], ◌∷◌, ◌++◌, length, take, get_or, sym, ap, ◌∙◌}
use Rattle.std.proofs.lemmas.List.{take_more}

-- where the items so far are copied, and the next one is put behind them
pub copied_more : {A : Type 0} (done : List A) (new : A) (xs : List A) (i : ℕ) (one : A) (done' : List A) → i < length xs → done ≡ take i xs
    → one ≡ get_or xs i one → new ≡ one → done' ≡ done ++ new ∷ [] → done' ≡ take (i + 1) xs
copied_more done new xs i one done' within so at same pushed =
    pushed ∙ ap (λ l. l ++ new ∷ []) so ∙ ap (λ x. take i xs ++ x ∷ []) (same ∙ at) ∙ sym (take_more xs i one within)
