use Rattle.std.proofs.Common.{None, Some}
use Rattle.mr_words.proofs.TableLemmas.{row_told}
use Rattle.mr_words.specs.Explain.{is_of, told_in}
use Rattle.mr_words.proofs.explain.told_among.Goals as goal

pub returns-in-Some : goal.returns-in-Some
returns-in-Some c = row_told told_in (is_of c.args.layer.now c.args.number) c.args.rows.now (Some c.in-Some.row.now) (rw c.in-Some.is at c.find_row.ensures)

pub returns-in-None : goal.returns-in-None
returns-in-None c = row_told told_in (is_of c.args.layer.now c.args.number) c.args.rows.now None (rw c.in-None.is at c.find_row.ensures)
