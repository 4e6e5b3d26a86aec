-- What pieces that are added to a text make of it.
use Rattle.std.proofs.Common.{◌≡◌, ◌∙◌, ℕ, List, ◌++◌, ap}
use Rattle.std.proofs.lemmas.List.{append_assoc}

-- two pieces, added one after the other
pub added_two : (before between after one other : List ℕ) → between ≡ before ++ one → after ≡ between ++ other → after ≡ before ++ (one ++ other)
added_two before between after one other first second = second ∙ ap (λ text. text ++ other) first ∙ append_assoc before one other
