use Rattle.std.proofs.Common.{◌≡◌}
use Rattle.mr_flights.proofs.SeeingLemmas.{AreSplit}
use Rattle.mr_flights.specs.Seeing.{AreConvicted}
use Rattle.mr_flights.proofs.seeing.take_found.Given as goal

-- those that were taken stood before those that weren't, and came back by the notes, and nothing else changed
abbrev pub invariant-loop-number : goal.invariant-loop-number
invariant-loop-number l = record {
  split : AreSplit l.initial.canary.notebook.found l.all.items l.canary.notebook.found l.number;
  convicted : AreConvicted l.initial.canary l.all.items;
  same : l.canary ≡ record l.initial.canary { notebook = record l.initial.canary.notebook { found = l.canary.notebook.found } };
}
