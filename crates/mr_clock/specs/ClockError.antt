-- The numbers of the refusals.
use Rattle.std.specs.Prelude.{ℕ}
use Rattle.mr_clock.specs.declared.error.ClockError.{ClockError}
use Rattle.mr_clock.specs.declared.error.ClockError.TheVariants.{ClockFault, NoSuchProxy, OutOfMemory}

-- the number of each refusal
abbrev pub number_of_refusal : ClockError → ℕ
number_of_refusal ClockFault = 1
number_of_refusal NoSuchProxy = 2
number_of_refusal OutOfMemory = 3
