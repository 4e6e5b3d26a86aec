use Rattle.std.proofs.Common.{◌≡◌, ◌++◌, drop}
use Rattle.mr_drawing.specs.Labels.{keys_of}
use Rattle.mr_drawing.proofs.labels.push_keys.Given as goal

-- the keys so far and those that are left are all
abbrev pub invariant-loop-key : goal.invariant-loop-key
invariant-loop-key l = l.words.items ++ keys_of (drop l.key-index l.keys) ≡ l.initial.words.items ++ keys_of l.keys
