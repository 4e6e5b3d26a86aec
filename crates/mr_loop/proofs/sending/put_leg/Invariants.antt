use Rattle.std.proofs.Common.{◌≡◌, ◌++◌, take, drop}
use Rattle.mr_loop.specs.Links.{with_traveller}
use Rattle.mr_loop.proofs.sending.put_leg.Given as goal

-- it may not travel with those so far
abbrev pub invariant-loop-place : goal.invariant-loop-place
invariant-loop-place l = record {
  same : l.sents.items ≡ l.fn.sents.items;
  passed : with_traveller l.asker l.leg l.sents.items ≡ take l.place l.sents.items ++ with_traveller l.asker l.leg (drop l.place l.sents.items);
}
