use Rattle.std.proofs.Common.{◌∙◌, sym}
use Rattle.mr_history.proofs.Lists.{at_read}
use Rattle.mr_history.proofs.IndexLemmas.{none_here, no_delete}
use Rattle.mr_history.proofs.convict.find_convict.Goals as goal
use Rattle.mr_history.proofs.convict.find_convict.Goals.{in-Some+else-contains, in_default}

pub returns-then-contains : goal.returns-then-contains
returns-then-contains c = record {
  place = c.loop-entry.entry-index;
  entry = c.entry-item.result;
  there = at_read _ _ _ c.loop-entry-test.true c.entry-item.is;
  issued = sym c.delete_of.ensures ∙ c.in-Some.is;
  acknowledged = sym (c.in_ok-acknowledged.ensures c.in-Some.delete) ∙ sym c.contains.ensures ∙ c.if-contains.true;
  first = c.loop-entry.invariant;
}

pub loop-entry-preserved : goal.loop-entry-preserved
loop-entry-preserved c =
    let there = at_read _ _ _ c.loop-entry-test.true c.entry-item.is in
    elim c.match-delete_of.branch [
      | in-Some+else-contains w ↦ none_here _ _ _ _ there w.in-Some.delete (sym c.delete_of.ensures ∙ w.in-Some.is)
          (sym (c.in_ok-acknowledged.ensures w.in-Some.delete) ∙ sym w.contains.ensures ∙ w.if-contains.false) c.loop-entry.invariant
      | in_default w ↦ no_delete _ _ _ _ there (sym c.delete_of.ensures ∙ w.in_default.is) c.loop-entry.invariant
    ]
