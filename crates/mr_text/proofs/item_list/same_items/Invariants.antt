use Rattle.std.proofs.Common.{◌≡◌, take}
use Rattle.mr_text.proofs.item_list.same_items.Given as goal

-- those before are equal
abbrev pub invariant-loop-place : goal.invariant-loop-place
invariant-loop-place l = take l.place l.items ≡ take l.place l.others
