use Rattle.std.proofs.Common.{◌≡◌, ◌+◌, ◌*◌, ◌≤◌, take, length, sum_by}
use Rattle.mr_text.specs.Limits.{MAX_LINE}
use Rattle.mr_text.proofs.key_list.fit_line.Given as goal

-- the room left and the keys so far fill the line, and each key takes two bytes or more
abbrev pub invariant-loop-key : goal.invariant-loop-key
invariant-loop-key l = record {
  fills : l.room + (3 + sum_by (λ key. length key + 1) (take l.key-index l.keys)) ≡ MAX_LINE;
  few : 2 * l.key-index ≤ sum_by (λ key. length key + 1) (take l.key-index l.keys);
}
