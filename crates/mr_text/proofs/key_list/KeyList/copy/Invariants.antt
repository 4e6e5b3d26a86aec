use Rattle.std.proofs.Common.{◌≡◌, take}
use Rattle.mr_text.proofs.key_list.KeyList.copy.Given as goal

-- the keys so far are copied
abbrev pub invariant-loop-key : goal.invariant-loop-key
invariant-loop-key l = l.keys.items ≡ take l.key-index l.key-items
