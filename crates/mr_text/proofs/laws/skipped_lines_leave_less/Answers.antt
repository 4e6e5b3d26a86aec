use Rattle.mr_text.proofs.Leaving.{skipped_leaves_less}
use Rattle.mr_text.proofs.laws.skipped_lines_leave_less.Goals as goal

pub returns : goal.returns
returns c = skipped_leaves_less
