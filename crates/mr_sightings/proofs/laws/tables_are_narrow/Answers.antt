use Rattle.mr_sightings.proofs.WidthLemmas.{row_width, head_width}
use Rattle.mr_sightings.proofs.laws.tables_are_narrow.Goals as goal

pub returns : goal.returns
returns c = record { head = head_width; row = row_width }
