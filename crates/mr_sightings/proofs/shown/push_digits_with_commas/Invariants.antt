use Rattle.std.proofs.Common.{◌≡◌, ◌++◌, drop, length}
use Rattle.mr_sightings.specs.Shown.{digits_with_commas}
use Rattle.mr_sightings.proofs.shown.push_digits_with_commas.Given as goal

abbrev pub invariant-loop-digit : goal.invariant-loop-digit
invariant-loop-digit l = record {
  follow : l.follow ≡ length (drop l.digit-index l.digits);
  text : l.text.items ++ digits_with_commas (drop l.digit-index l.digits) ≡ l.initial.text.items ++ digits_with_commas l.digits;
}
