-- Items that are taken from the last one on.
use Rattle.std.proofs.Common.{◌≡◌, List, [], ◌∷◌, ◌++◌, reverse, Option, Some, None, MatchOption, refl, sym, ap, ◌∙◌}
use Rattle.std.specs.Option.{option_to_list}
use Rattle.std.proofs.lemmas.List.{reverse-append, reverse-reverse}

-- the last one of a list that was reversed is its first
pub first_of_reversed : {X : Type 0} (items last rest : List X) (first : Option X) → last ≡ reverse items → last ≡ rest ++ option_to_list first
    → (first ≡ None → last ≡ []) → MatchOption first (items ≡ []) (λ x. items ≡ x ∷ reverse rest)
first_of_reversed items last rest None is e none = sym (reverse-reverse items) ∙ ap (λ l. reverse l) (sym is ∙ none refl)
first_of_reversed items last rest (Some x) is e none =
    sym (reverse-reverse items) ∙ ap (λ l. reverse l) (sym is ∙ e) ∙ reverse-append rest (x ∷ [])
