-- The numbers of the refusals.
use Rattle.std.specs.Prelude.{ℕ}
use Rattle.mr_configs.specs.declared.error.PlanError.{PlanError}
use Rattle.mr_configs.specs.declared.error.PlanError.TheVariants.{NotJson, WrongKind, MissingKey, UnknownKey, BadPool, BadRoute, BadSchedule, BadHash, BadSetup, BadEvent, TooLarge, EventRefused, OutOfMemory}

-- the number of each refusal
abbrev pub number_of_refusal : PlanError → ℕ
number_of_refusal NotJson = 1
number_of_refusal WrongKind = 2
number_of_refusal MissingKey = 3
number_of_refusal UnknownKey = 4
number_of_refusal (BadPool refusal) = 5
number_of_refusal BadRoute = 6
number_of_refusal (BadSchedule refusal) = 7
number_of_refusal BadHash = 8
number_of_refusal (BadSetup refusal) = 9
number_of_refusal (BadEvent index) = 10
number_of_refusal TooLarge = 11
number_of_refusal (EventRefused index refusal) = 12
number_of_refusal OutOfMemory = 13
