use Rattle.std.proofs.Common.{◌≡◌, ◌≤◌, fold, take, max, min}
use Rattle.mr_clock.proofs.readings.spread_of.Given as goal

-- the least and the greatest so far
abbrev pub invariant-loop-reading : goal.invariant-loop-reading
invariant-loop-reading l = record {
  least : l.least ≡ fold min l.initial.least (take l.reading-index l.rest);
  greatest : l.greatest ≡ fold max l.initial.least (take l.reading-index l.rest);
  ordered : l.least ≤ l.greatest;
}
