-- What one read gives.
use Rattle.std.specs.Prelude.{ℕ, ◌≤◌, ⊤}
use Rattle.mr_driver.specs.declared.reading.Got.{Got}

-- no more bytes than there is room for, and all that were there where fewer came
abbrev pub IsGot : ℕ → Got → Type 0
IsGot room (Got.All count) = count ≤ room
IsGot room (Got.Some count) = count ≤ room
IsGot room Got.End = ⊤
IsGot room Got.Broken = ⊤
