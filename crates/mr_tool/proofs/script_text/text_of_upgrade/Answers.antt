use Rattle.std.proofs.Common.{◌++◌, codes, IfErr, refl}
use Rattle.mr_tool.proofs.FaultLemmas.{faulted}
use Rattle.mr_tool.specs.GivenText.{IsTextFault}
use Rattle.mr_scripts.specs.Upgrade.{RefusesUpgrade}
use Rattle.mr_tool.specs.UpgradeCommand.{MakesUpgrade}
use Rattle.mr_tool.specs.declared.ended.Ended.TheVariants.{Done}
use Rattle.mr_tool.specs.declared.fault.Fault.TheVariants.{Memory}
use Rattle.mr_tool.proofs.script_text.text_of_upgrade.Goals as goal

pub returns-in_err-extend_from_slice-clause-refused : goal.returns-in_err-extend_from_slice-clause-refused
returns-in_err-extend_from_slice-clause-refused c =
    faulted (λ other. IfErr other (IsTextFault MakesUpgrade RefusesUpgrade c.args.bytes.now)) c.from_residual-in_err-extend_from_slice.result Memory
    c.from_residual-in_err-extend_from_slice.ensures.1 (
      c.in_ok-upgraded.upgraded.items ++ codes "\n",
      Done,
      (record { upgraded = c.in_ok-upgraded.upgraded.items; is_upgrade = c.in_ok-upgraded.ensures.upgraded; text_is = refl }, refl),
    )
