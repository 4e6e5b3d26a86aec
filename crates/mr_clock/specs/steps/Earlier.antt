-- How often a clock of a list had failed when it was made.
use Rattle.std.specs.Prelude.{ℕ, ◌+◌}
use Rattle.mr_clock.specs.declared.list_clock.Earlier.{Earlier, Never, Copied'}

-- as often as the clock had that it is a copy of
abbrev pub failures_before : Earlier → ℕ
failures_before Never = 0
failures_before (Copied' marker earlier since) = failures_before earlier + since.value
