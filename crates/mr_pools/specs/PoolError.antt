-- The numbers of the refusals.
use Rattle.std.specs.Prelude.{ℕ}
use Rattle.mr_pools.specs.declared.error.PoolError.{PoolError}
use Rattle.mr_pools.specs.declared.error.PoolError.TheVariants.{EmptyPool, TooManyNodes, BadName, RepeatedName, SharedName, OutOfMemory, TooManyPools}

-- the number of each refusal
abbrev pub number_of_refusal : PoolError → ℕ
number_of_refusal EmptyPool = 1
number_of_refusal TooManyNodes = 2
number_of_refusal BadName = 3
number_of_refusal RepeatedName = 4
number_of_refusal SharedName = 5
number_of_refusal OutOfMemory = 6
number_of_refusal TooManyPools = 7
