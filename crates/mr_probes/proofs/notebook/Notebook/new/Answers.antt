use Rattle.std.proofs.Common.{rules, arith}
use Rattle.std.proofs.lemmas.Grind.{common_steps}
use Rattle.mr_probes.proofs.NotebookLemmas.{told_none}
use Rattle.mr_probes.proofs.notebook.Notebook.new.Goals as goal

pub invariant_of-result : goal.invariant_of-result
invariant_of-result c = record {
  room = first_of (search rules, grind (arith, common_steps));
  many = first_of (search rules, grind (arith, common_steps));
  all = first_of (search rules, grind (arith, common_steps));
  counted = first_of (search rules, grind (arith, common_steps));
  kept = first_of (search rules, grind (arith, common_steps));
  told = first_of (search rules, grind (arith, common_steps));
  tells = told_none c.in-Ok.judge.notes c.in_ok-with_capacity.field-0.items c.in_ok-with_capacity.ensures.items;
}
