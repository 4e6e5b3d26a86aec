use Rattle.mr_sightings.proofs.TableLemmas.{row_written}
use Rattle.mr_sightings.proofs.table.add_at.Goals as goal

pub returns : goal.returns
returns c = rw c.plus.ensures (row_written c.args.place c.args.tally.now _ _ c.args.rows.now c.requires)
