use Rattle.mr_words.proofs.TableLemmas.{told_first, told_second}
use Rattle.mr_words.specs.Explain.{is_of, lower_table, table, told_by, upper_table}
use Rattle.mr_words.proofs.explain.find_explanation.Goals as goal

pub returns-in-Some-clause-found : goal.returns-in-Some-clause-found
unfolding table
returns-in-Some-clause-found c =
    told_first (is_of c.args.layer.now c.args.number) lower_table upper_table _ (told_by c.in-Some.found) (rw c.in-Some.is at c.told_among.ensures) c.lower_rows.ensures

pub returns-in-None-clause-found : goal.returns-in-None-clause-found
unfolding table
returns-in-None-clause-found c =
    told_second (is_of c.args.layer.now c.args.number) lower_table upper_table _ _ _ (rw c.in-None.is at c.told_among.ensures) c.lower_rows.ensures
    c.told_among-in-None.ensures c.upper_rows.ensures
