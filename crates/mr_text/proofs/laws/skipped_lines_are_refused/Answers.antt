use Rattle.mr_text.proofs.Leaving.{skips_or_refuses}
use Rattle.mr_text.proofs.laws.skipped_lines_are_refused.Goals as goal

pub returns : goal.returns
returns c = skips_or_refuses
