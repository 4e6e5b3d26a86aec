-- The numbers of the refusals.
use Rattle.std.specs.Prelude.{ℕ}
use Rattle.mr_text.specs.declared.error.TextError.{TextError}
use Rattle.mr_text.specs.declared.error.TextError.TheVariants.{LineTooLong, BadKey, BadNumber, WrongWords, DataTooLong, BadDataEnd, UnknownCommand, Truncated, Closed, OutOfMemory}

-- the number of each refusal
abbrev pub number_of_refusal : TextError → ℕ
number_of_refusal LineTooLong = 1
number_of_refusal BadKey = 2
number_of_refusal BadNumber = 3
number_of_refusal WrongWords = 4
number_of_refusal DataTooLong = 5
number_of_refusal BadDataEnd = 6
number_of_refusal (UnknownCommand closes) = 7
number_of_refusal Truncated = 8
number_of_refusal Closed = 9
number_of_refusal OutOfMemory = 10
