-- Numbers and truth values that JSON values hold.
use Rattle.std.specs.Prelude.{ℕ, ◌^◌, ℤ, Bool, false, nat_lt, if◌then◌else◌, Option, Some, None, Result, Ok, Err, ok_or, option_and_then}
use Rattle.serde_json.specs.Data.{Data}
use Rattle.serde_json.specs.Find.{as_bool, as_number, as_i64}
use Rattle.mr_configs.specs.Checking.{◌>>=◌}
use Rattle.mr_configs.specs.Fields.{whole_number}
use Rattle.mr_configs.specs.declared.error.PlanError.{PlanError}
use Rattle.mr_configs.specs.declared.error.PlanError.TheVariants.{WrongKind}

-- the number, if it is below 2^32, else WrongKind
abbrev pub if_small : ℕ → Result ℕ PlanError
if_small number = if nat_lt number (2 ^ 32) then Ok number else Err WrongKind

-- a whole number of 32 bits
abbrev pub small_number : Data → Result ℕ PlanError
small_number value = whole_number value >>= if_small

-- a whole number of 64 bits that may be negative
abbrev pub signed_whole_number : Data → Result ℤ PlanError
signed_whole_number value = ok_or (option_and_then as_i64 (as_number value)) WrongKind

-- a truth value that may be absent, and is then false
abbrev pub flag_of : Option Data → Result Bool PlanError
flag_of None = Ok false
flag_of (Some value) = ok_or (as_bool value) WrongKind
