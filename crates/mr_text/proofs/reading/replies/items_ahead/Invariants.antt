use Rattle.std.proofs.Common.{◌≡◌, ◌<◌, length, drop, IfSome}
use Rattle.mr_lines.specs.Lines.{byte_place}
use Rattle.mr_text.proofs.Reached.{ReachedSo}
use Rattle.mr_text.proofs.reading.replies.items_ahead.Given as goal

abbrev pub invariant-items : goal.invariant-items
invariant-items l = record {
  reached : ReachedSo l.fn.room l.bytes l.read l.left;
  end : l.end ≡ byte_place 10 (drop l.read l.bytes);
  within : IfSome l.end (λ place. place < length (drop l.read l.bytes));
}

abbrev pub decreases-items : goal.decreases-items
decreases-items l = l.left
