use Rattle.std.proofs.Common.{◌∙◌}
use Rattle.mr_fleet.proofs.FleetEndLemmas.{closed_beside}
use Rattle.mr_fleet.proofs.fleet_end.FleetEnd.of.Goals as goal

pub invariant_of-result : goal.invariant_of-result
invariant_of-result g c = record {
  closed = closed_beside c.close-book.result c.args.desk c.of-opening.result.value c.deref.result.now c.args.ending.shares.items c.deref-2.result.now
      c.args.ending.answers.items (c.of-opening.ensures ∙ c.opening.ensures.opening) c.deref.ensures.value c.deref-2.ensures.value c.close-book.ensures.closed;
  as_many_shares = c.args.ending.as_many_shares;
  as_many_answers = c.args.ending.as_many_answers;
  issued = c.args.ending.issued;
  took = c.args.ending.took;
}
