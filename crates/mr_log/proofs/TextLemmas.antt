-- Texts to which pieces are added one behind the other.
use Rattle.std.proofs.Common.{◌≡◌, ℕ, List, ◌++◌, ap, ◌∙◌, append_assoc}

-- two pieces
pub after_two : (start first second one two : List ℕ) → first ≡ start ++ one → second ≡ first ++ two → second ≡ start ++ (one ++ two)
after_two start first second one two a b = b ∙ ap (λ (text : List ℕ). text ++ two) a ∙ append_assoc start one two

-- three pieces
pub after_three : (start first second third one two three : List ℕ) → first ≡ start ++ one → second ≡ first ++ two → third ≡ second ++ three
    → third ≡ start ++ (one ++ (two ++ three))
after_three start first second third one two three a b c = after_two start first third one (two ++ three) a (after_two first second third two three b c)

-- four pieces
pub after_four : (start first second third fourth one two three four : List ℕ) → first ≡ start ++ one → second ≡ first ++ two → third ≡ second ++ three
    → fourth ≡ third ++ four → fourth ≡ start ++ (one ++ (two ++ (three ++ four)))
after_four start first second third fourth one two three four a b c d =
    after_two start first fourth one (two ++ (three ++ four)) a (after_three first second third fourth two three four b c d)
