-- The turn of a request that isn't begun.
use Rattle.std.proofs.Common.{◌≡◌, List, [], ◌∷◌, ◌++◌, Option, Some, None, sym, ◌∙◌}
use Rattle.std.proofs.lemmas.List.{append-nil}
use Rattle.mr_text.specs.declared.reply.Reply.{Reply}
use Rattle.mr_loop.specs.declared.turns.Turn.{Turn}
use Rattle.mr_loop.specs.declared.turns.Turn.TheVariants.{Says}
use Rattle.mr_loop.specs.steps.Denying.{denied}
use Rattle.mr_loop.proofs.PlaceLemmas.{last_taken, last_set}

abbrev pub says : Option Reply → List Turn
says None = []
says (Some reply) = Says reply ∷ []

pub denied_last : (turns : List Turn) (turn : Turn) (denial : Option Reply) → denied denial (turns ++ turn ∷ []) ≡ turns ++ says denial
denied_last turns turn None = last_taken turns turn ∙ sym (append-nil turns)
denied_last turns turn (Some reply) = last_set turns turn (Says reply)
