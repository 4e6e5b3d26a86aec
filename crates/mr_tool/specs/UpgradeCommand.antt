-- What the command `upgrade` does.
use Rattle.std.specs.Prelude.{◌≡◌, ℕ, List, ◌++◌, Option, Result, codes}
use Rattle.mr_scripts.specs.Upgrade.{IsUpgrade, RefusesUpgrade}
use Rattle.mr_tool.specs.Devices.{Devices}
use Rattle.mr_tool.specs.GivenText.{PrintsOf}
use Rattle.mr_tool.specs.declared.ended.Ended.{Ended}
use Rattle.mr_tool.specs.declared.ended.Ended.TheVariants.{Done}
use Rattle.mr_tool.specs.declared.fault.Fault.{Fault}

-- the bytes are a script, and the text is that script in format 2, with a line end
pub record IsUpgraded (bytes text : List ℕ) : Type 0 where
  pub upgraded : List ℕ
  pub is_upgrade : IsUpgrade bytes upgraded
  pub text_is : text ≡ upgraded ++ codes "\n"

-- what an upgrade prints of bytes; what was wanted is done then
abbrev pub MakesUpgrade : List ℕ → List ℕ → Ended → Type 0
MakesUpgrade bytes text ended = IsUpgraded bytes text × (ended ≡ Done)

-- What the command does: it prints in format 2 the script in the file, or the one on the input.
abbrev pub UpgradeGives : Option (List ℕ) → Devices → Devices → Result Ended Fault → Type 0
UpgradeGives file before after result = PrintsOf MakesUpgrade RefusesUpgrade file before after result
