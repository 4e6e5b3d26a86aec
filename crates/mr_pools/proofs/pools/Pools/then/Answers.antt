use Rattle.std.proofs.Common.{arith}
use Rattle.std.proofs.lemmas.Grind.{common_steps}
use Rattle.mr_pools.proofs.pools.Pools.then.Goals as goal

pub returns-in-Four : goal.returns-in-Four
returns-in-Four c = grind (arith, common_steps)
