-- How many bytes of answers wait in turn.
use Rattle.std.proofs.Common.{◌+◌, ◌-◌, ◌*◌, ◌^◌, ◌<◌, ◌≤◌, List, [], ◌∷◌, length, sum_by, arith}
use Rattle.std.proofs.lemmas.List.Sums.{sum_by-cons}
use Rattle.mr_loop.specs.declared.turns.Turn.{Turn}
use Rattle.mr_loop.specs.declared.turns.Turn.TheVariants.{Waits, Answered, Says}
use Rattle.mr_loop.specs.Held.{held_by_turn}

small_one : (turn : Turn) → held_by_turn turn ≤ 2 ^ 64 - 1
small_one (Waits op) = omega arith
small_one (Answered answer) = omega arith
small_one (Says reply) = omega arith

-- each turn holds what 64 bits count
pub held_small : (turns : List Turn) → sum_by held_by_turn turns ≤ length turns * (2 ^ 64 - 1)
held_small [] = omega arith
held_small (turn ∷ turns) = omega (arith, sum_by-cons held_by_turn turn turns, small_one turn, held_small turns)

-- one more fits
pub held_fits : (turns : List Turn) (turn : Turn) → length turns < 2 ^ 64 → sum_by held_by_turn turns + held_by_turn turn < 2 ^ 128
held_fits turns turn short = omega (arith, held_small turns, small_one turn)
