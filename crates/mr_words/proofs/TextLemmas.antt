-- What pieces that are added to a text make of it.
use Rattle.std.proofs.Common.{◌≡◌, ◌∙◌, ℕ, List, ◌++◌, ap}
use Rattle.std.proofs.lemmas.List.{append_assoc}

-- five pieces, added one after the other
pub added_five : (t0 t1 t2 t3 t4 t5 a b c d e : List ℕ) → t1 ≡ t0 ++ a → t2 ≡ t1 ++ b → t3 ≡ t2 ++ c → t4 ≡ t3 ++ d → t5 ≡ t4 ++ e
    → t5 ≡ t0 ++ (a ++ (b ++ (c ++ (d ++ e))))
added_five t0 t1 t2 t3 t4 t5 a b c d e e1 e2 e3 e4 e5 =
    let chain : t5 ≡ ((((t0 ++ a) ++ b) ++ c) ++ d) ++ e =
    e5 ∙ ap (λ s. s ++ e) (e4 ∙ ap (λ s. s ++ d) (e3 ∙ ap (λ s. s ++ c) (e2 ∙ ap (λ s. s ++ b) e1))) in
    chain
    ∙ (append_assoc (((t0 ++ a) ++ b) ++ c) d e
    ∙ (append_assoc ((t0 ++ a) ++ b) c (d ++ e) ∙ (append_assoc (t0 ++ a) b (c ++ (d ++ e)) ∙ append_assoc t0 a (b ++ (c ++ (d ++ e))))))

-- three pieces
pub added_three : (t0 t1 t2 t3 a b c : List ℕ) → t1 ≡ t0 ++ a → t2 ≡ t1 ++ b → t3 ≡ t2 ++ c → t3 ≡ t0 ++ (a ++ (b ++ c))
added_three t0 t1 t2 t3 a b c e1 e2 e3 =
    let chain : t3 ≡ ((t0 ++ a) ++ b) ++ c = e3 ∙ ap (λ s. s ++ c) (e2 ∙ ap (λ s. s ++ b) e1) in
    chain ∙ (append_assoc (t0 ++ a) b c ∙ append_assoc t0 a (b ++ c))

-- four pieces
pub added_four : (t0 t1 t2 t3 t4 a b c d : List ℕ) → t1 ≡ t0 ++ a → t2 ≡ t1 ++ b → t3 ≡ t2 ++ c → t4 ≡ t3 ++ d → t4 ≡ t0 ++ (a ++ (b ++ (c ++ d)))
added_four t0 t1 t2 t3 t4 a b c d e1 e2 e3 e4 =
    e4 ∙ ap (λ s. s ++ d) (added_three t0 t1 t2 t3 a b c e1 e2 e3) ∙ append_assoc t0 (a ++ (b ++ c)) d
    ∙ ap (λ s. t0 ++ s) (append_assoc a (b ++ c) d ∙ ap (λ s. a ++ s) (append_assoc b c d))
