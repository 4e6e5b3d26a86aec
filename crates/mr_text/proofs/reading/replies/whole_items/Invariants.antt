use Rattle.std.proofs.Common.{◌-◌, ◌<◌, ◌∷◌, [], ◌++◌, length}
use Rattle.mr_text.specs.Limits.{MAX_ITEMS}
use Rattle.mr_text.proofs.Reached.{Reached}
use Rattle.mr_text.proofs.reading.replies.whole_items.Given as goal

abbrev pub invariant-whole : goal.invariant-whole
invariant-whole l = record {
  few : length l.items.items < MAX_ITEMS;
  reached : Reached MAX_ITEMS l.bytes (l.items.items ++ l.last ∷ []) l.read (MAX_ITEMS - 1 - length l.items.items);
}

abbrev pub decreases-whole : goal.decreases-whole
decreases-whole l = MAX_ITEMS - length l.items.items
