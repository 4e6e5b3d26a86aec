use Rattle.std.proofs.Common.{◌≡◌, ◌++◌, drop}
use Rattle.mr_sightings.specs.Table.{rows_text}
use Rattle.mr_sightings.proofs.table.push_rows.Given as goal

abbrev pub invariant-loop-row : goal.invariant-loop-row
invariant-loop-row l = l.text.items ++ rows_text (drop l.row-index l.rows) ≡ l.initial.text.items ++ rows_text l.rows
