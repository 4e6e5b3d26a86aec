use Rattle.std.proofs.Common.{◌≡◌, ◌+◌, ◌≤◌, length}
use Rattle.std.specs.List.{list_all}
use Rattle.mr_lines.specs.Words.{words_of}
use Rattle.mr_text.specs.Key.{key_test}
use Rattle.mr_text.proofs.reading.commands.get.Given as goal

-- the keys so far are counted, and whether all are keys is whether those left are
abbrev pub invariant-loop-key : goal.invariant-loop-key
invariant-loop-key l = record {
  counted : l.count + length (words_of l.rest) ≡ length (words_of l.arguments);
  keys : list_all key_test (words_of l.rest) ≡ list_all key_test (words_of l.arguments);
  short : l.count + length l.rest ≤ length l.arguments;
}

abbrev pub decreases-loop-key : goal.decreases-loop-key
decreases-loop-key l = length l.rest
