-- The numbers of the refusals.
use Rattle.std.specs.Prelude.{ℕ}
use Rattle.mr_proxy.specs.declared.error.ProxyError.{ProxyError}
use Rattle.mr_proxy.specs.declared.error.ProxyError.TheVariants.{NoRoom, OutOfMemory, NumbersSpent, NoSuchOp}

-- the number of each refusal
abbrev pub number_of_refusal : ProxyError → ℕ
number_of_refusal NoRoom = 1
number_of_refusal OutOfMemory = 2
number_of_refusal NumbersSpent = 3
number_of_refusal NoSuchOp = 4
