use Rattle.std.proofs.Common.{◌≡◌, take}
use Rattle.mr_text.proofs.item_list.copied.Given as goal

-- the items so far are copied
abbrev pub invariant-loop-item : goal.invariant-loop-item
invariant-loop-item l = l.copies.items ≡ take l.item-index l.item-items
