use Rattle.std.proofs.Common.{◌≡◌, ◌≤◌, take, true}
use Rattle.std.specs.List.{list_all}
use Rattle.std.specs.Char.{is_ascii_digit}
use Rattle.mr_lines.specs.Numbers.{number_of_digits}
use Rattle.mr_lines.proofs.numbers.number_up_to.Given as goal

-- the bytes so far are digits, of this number
abbrev pub invariant-loop-byte : goal.invariant-loop-byte
invariant-loop-byte l = record {
  digits : list_all is_ascii_digit (take l.byte-index l.word) ≡ true;
  value : l.number ≡ number_of_digits (take l.byte-index l.word);
  within : l.number ≤ l.greatest;
}
