use Rattle.std.proofs.Common.{ℕ, List, drop, map}
use Rattle.mr_tool.specs.WatchedWords.{AreAddresses, IsFirstOther}
use Rattle.mr_tool.proofs.watched_words.first_other.Given as goal

-- those so far are addresses
abbrev pub invariant-loop-word : goal.invariant-loop-word
invariant-loop-word l =
    (AreAddresses (map (λ word. word.now) (drop l.word-index l.words)) → AreAddresses (map (λ word. word.now) l.words))
    × ((other : List ℕ) → IsFirstOther (map (λ word. word.now) (drop l.word-index l.words)) other → IsFirstOther (map (λ word. word.now) l.words) other)
