-- The formats of scripts and transcripts.
use Rattle.std.specs.Prelude.{ℕ, ◌==◌, if◌then◌else◌, Option, Some, None}
use Rattle.mr_text.specs.Limits.{MAX_BLOCK}
use Rattle.mr_shown.specs.declared.format.Format.{Format}
use Rattle.mr_shown.specs.declared.format.Format.TheVariants.{One, Two}

-- the number by which a text names its format
abbrev pub format_number : Format → ℕ
format_number One = 1
format_number Two = 2

-- the format of a number, if it has one
abbrev pub format_of : ℕ → Option Format
format_of number = if number == 1 then Some One else if number == 2 then Some Two else None

-- the most data of format 1
abbrev pub MAX_DATA_ONE : ℕ
MAX_DATA_ONE = 8192

-- the most data, in bytes
abbrev pub most_data : Format → ℕ
most_data One = MAX_DATA_ONE
most_data Two = MAX_BLOCK
