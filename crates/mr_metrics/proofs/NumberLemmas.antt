-- the digits of a number
use Rattle.std.proofs.Common.{ℕ, ◌<◌, ◌^◌, ◌≤◌, length, decimal}
use Rattle.std.proofs.lemmas.Fmt.{decimal_nonempty}

-- there is at least one
pub has_digit : (n : ℕ) → n < 2 ^ 64 → 1 ≤ length (decimal n)
has_digit n small = decimal_nonempty n small
