-- The numbers of the refusals.
use Rattle.std.specs.Prelude.{ℕ}
use Rattle.mr_phases.specs.declared.error.ScheduleError.{ScheduleError}
use Rattle.mr_phases.specs.declared.error.ScheduleError.TheVariants.{ZeroInterval, TooLate, TooSoon, TooManyHops}

-- the number of each refusal
abbrev pub number_of_refusal : ScheduleError → ℕ
number_of_refusal ZeroInterval = 1
number_of_refusal TooLate = 2
number_of_refusal TooSoon = 3
number_of_refusal TooManyHops = 4
