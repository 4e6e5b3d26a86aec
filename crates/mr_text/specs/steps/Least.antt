-- What the least of some numbers, which only contracts see, stands for.
use Rattle.std.specs.Prelude.{ℕ, Option, None}
use Rattle.mr_text.specs.Source.{least_with}
use Rattle.mr_text.specs.declared.devices.counting.least.Least.{Least, Unmet, Met'}

-- the least number that was met, if one was
abbrev pub least_of : Least → Option ℕ
least_of Unmet = None
least_of (Met' marker before number) = least_with (least_of before) number.value
