-- What becomes of the turn of a request that isn't begun.
use Rattle.std.specs.Prelude.{◌-◌, List, length, take, Option, Some, None, slice_set}
use Rattle.mr_text.specs.declared.reply.Reply.{Reply}
use Rattle.mr_loop.specs.declared.turns.Turn.{Turn}
use Rattle.mr_loop.specs.declared.turns.Turn.TheVariants.{Says}

-- the last turn says this, or leaves where there is nothing to say
abbrev pub denied : Option Reply → List Turn → List Turn
denied None turns = take (length turns - 1) turns
denied (Some reply) turns = slice_set turns (length turns - 1) (Says reply)
