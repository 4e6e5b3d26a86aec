-- What one write takes.
use Rattle.std.specs.Prelude.{ℕ, ◌≡◌, ◌<◌, ⊤}
use Rattle.mr_driver.specs.declared.writing.Put.{Put}

-- how many bytes were taken
abbrev pub count_in : Put → ℕ
count_in (Put.All count) = count
count_in (Put.Some count) = count
count_in Put.Broken = 0

-- all bytes, or fewer
abbrev pub IsPut : ℕ → Put → Type 0
IsPut length (Put.All count) = count ≡ length
IsPut length (Put.Some count) = count < length
IsPut length Put.Broken = ⊤
