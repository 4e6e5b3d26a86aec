use Rattle.std.proofs.Common.{ℕ, ◌<◌, get_or}
use Rattle.mr_text.specs.Valid.{IsValidItem}
use Rattle.mr_text.specs.declared.item.Item.{Item}
use Rattle.mr_text.proofs.laws.each_is_item.Given as goal

abbrev pub invariant-loop-item : goal.invariant-loop-item
invariant-loop-item l = (k : ℕ) → k < l.item-index → (d : Item) → IsValidItem (get_or l.items k d)
