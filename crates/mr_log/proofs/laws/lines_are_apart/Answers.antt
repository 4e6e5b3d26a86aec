use Rattle.std.proofs.Common.{refl}
use Rattle.mr_log.specs.Log.{new_log}
use Rattle.mr_log.proofs.ApartLemmas.{are_apart}
use Rattle.mr_log.proofs.laws.lines_are_apart.Goals as goal

pub returns : goal.returns
returns c steps log run = are_apart steps new_log log refl run
