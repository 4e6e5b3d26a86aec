-- What one more address comes to.
use Rattle.std.proofs.Common.{◌≡◌, ◌∙◌, ◌+◌, ℕ, List, [], ◌∷◌, ◌++◌, map, arith, ap, sym}
use Rattle.std.proofs.lemmas.List.{map_push}
use Rattle.std.proofs.lemmas.List.FromFn.{map-range_with_len_more}
use Rattle.std.specs.List.{range_with_len}

-- one more behind those of the numbers so far
pub named_more : {A : Type 0} (text : A → List ℕ) (name : ℕ → List ℕ) (old new : List A) (one : A) (count : ℕ)
    → map text old ≡ map name (range_with_len 0 count) → new ≡ old ++ one ∷ [] → text one ≡ name count
    → map text new ≡ map name (range_with_len 0 (count + 1))
named_more text name old new one count so_far pushed is =
    let z : 0 + count ≡ count = omega arith in
    ap (map text) pushed ∙ map_push text old one ∙ ap (λ (l : List (List ℕ)). l ++ text one ∷ []) so_far
    ∙ ap (λ (t : List ℕ). map name (range_with_len 0 count) ++ t ∷ []) is ∙ sym (map-range_with_len_more name 0 count count z)
