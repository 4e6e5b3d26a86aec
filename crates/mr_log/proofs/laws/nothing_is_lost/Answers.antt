use Rattle.std.proofs.Common.{arith}
use Rattle.mr_log.specs.Log.{new_log}
use Rattle.mr_log.proofs.RunLemmas.{kept_count}
use Rattle.mr_log.proofs.laws.nothing_is_lost.Goals as goal

pub returns : goal.returns
returns c kind steps log run small = omega (arith, kept_count kind steps new_log log run (omega arith))
