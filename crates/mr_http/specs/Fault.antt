-- Why what was asked for isn't there, as numbers.
use Rattle.std.specs.Prelude.{ℕ}
use Rattle.mr_http.specs.declared.error.FetchFault.{FetchFault}
use Rattle.mr_http.specs.declared.error.FetchFault.TheVariants.{WriteFault, ReadFault, TooLarge, NoResponse, OutOfMemory}

-- numbers are never used again
abbrev pub number_of_fault : FetchFault → ℕ
number_of_fault WriteFault = 1
number_of_fault ReadFault = 2
number_of_fault TooLarge = 3
number_of_fault NoResponse = 4
number_of_fault OutOfMemory = 5
