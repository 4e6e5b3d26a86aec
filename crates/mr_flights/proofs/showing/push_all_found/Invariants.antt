use Rattle.std.proofs.Common.{◌≡◌, ◌++◌, drop}
use Rattle.mr_flights.specs.Showing.{found_texts}
use Rattle.mr_flights.proofs.showing.push_all_found.Given as goal

abbrev pub invariant-loop-one : goal.invariant-loop-one
invariant-loop-one l = l.text.items ++ found_texts l.manner (drop l.one-index l.found) ≡ l.initial.text.items ++ found_texts l.manner l.found
