use Rattle.mr_drawing.proofs.EscapeLemmas.{shown_read_back}
use Rattle.mr_drawing.proofs.laws.shown_bytes_are_read_back.Goals as goal

pub returns : goal.returns
returns c = shown_read_back
