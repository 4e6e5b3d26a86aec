use Rattle.std.proofs.Common.{take}
use Rattle.mr_words.specs.Words.{members_of, AreNumberWords}
use Rattle.mr_words.proofs.readings.numbers_in.Given as goal

abbrev pub invariant-loop-piece : goal.invariant-loop-piece
invariant-loop-piece l = AreNumberWords (take l.piece-index (members_of l.text)) l.numbers.items
