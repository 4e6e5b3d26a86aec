use Rattle.mr_words.specs.Words.{members_of}
use Rattle.mr_tool.proofs.PlannedLemmas.{AreMade}
use Rattle.mr_tool.proofs.planned.names_said.Given as goal

abbrev pub invariant-loop-piece : goal.invariant-loop-piece
invariant-loop-piece l = AreMade (members_of l.word) l.piece-index l.names.items
