use Rattle.std.proofs.Common.{ℕ, ◌<◌, List, get_or}
use Rattle.mr_text.specs.Key.{IsKey}
use Rattle.mr_text.proofs.laws.each_is_key.Given as goal

abbrev pub invariant-loop-key : goal.invariant-loop-key
invariant-loop-key l = (k : ℕ) → k < l.key-index → (d : List ℕ) → IsKey (get_or l.keys k d)
