use Rattle.std.proofs.Common.{arith}
use Rattle.std.proofs.lemmas.Grind.{common_steps}
use Rattle.mr_pools.proofs.pools.Pools.copy.Goals as goal

pub returns-in_ok-copy-in-Four-4 : goal.returns-in_ok-copy-in-Four-4
returns-in_ok-copy-in-Four-4 c = grind (arith, common_steps)

pub returns-in_ok-copy-in-Five-5 : goal.returns-in_ok-copy-in-Five-5
returns-in_ok-copy-in-Five-5 c = grind (arith, common_steps)
