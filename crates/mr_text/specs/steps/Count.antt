-- What a count that only contracts see stands for.
use Rattle.std.specs.Prelude.{ℕ, ◌+◌}
use Rattle.mr_text.specs.declared.devices.counting.count.Count.{Count, Zero, More'}

-- how often something was counted
abbrev pub number_of : Count → ℕ
number_of Zero = 0
number_of (More' marker before) = number_of before + 1
