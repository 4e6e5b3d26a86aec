use Rattle.std.proofs.Common.{◌≡◌, ◌≤◌, length}
use Rattle.mr_lines.specs.Words.{drop_spaces, words_of}
use Rattle.mr_lines.proofs.words.without_spaces.Given as goal

-- the words stay
abbrev pub invariant-loop-bytes : goal.invariant-loop-bytes
invariant-loop-bytes l =
    (words_of l.bytes ≡ words_of l.initial.bytes) × (length l.bytes ≤ length l.initial.bytes) × (drop_spaces l.bytes ≡ drop_spaces l.initial.bytes)

abbrev pub decreases-loop-bytes : goal.decreases-loop-bytes
decreases-loop-bytes l = length l.bytes
