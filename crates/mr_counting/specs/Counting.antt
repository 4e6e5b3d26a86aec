-- Counts that go on as far as 64 bits do.
use Rattle.std.specs.Prelude.{ℕ, ◌+◌, ◌-◌, ◌^◌, min}

-- one more, as far as 64 bits count
abbrev pub one_more : ℕ → ℕ
one_more count = min (count + 1) (2 ^ 64 - 1)

-- both counts together, as far as 64 bits count
abbrev pub sum_of : ℕ → ℕ → ℕ
sum_of count more = min (count + more) (2 ^ 64 - 1)
