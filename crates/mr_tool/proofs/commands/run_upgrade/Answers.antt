use Rattle.std.proofs.Common.{refl}
use Rattle.mr_tool.proofs.GivenLemmas.{ends_not_given, ends_not_made, ends_not_printed}
use Rattle.mr_tool.specs.Devices.{devices}
use Rattle.mr_words.specs.Words.{path_in}
use Rattle.mr_scripts.specs.Upgrade.{RefusesUpgrade}
use Rattle.mr_tool.specs.UpgradeCommand.{MakesUpgrade}
use Rattle.mr_tool.specs.declared.ended.Ended.TheVariants.{Done}
use Rattle.mr_tool.proofs.commands.run_upgrade.Goals as goal

pub returns-in_err-bytes : goal.returns-in_err-bytes
returns-in_err-bytes g c = λ faults.
    ends_not_given MakesUpgrade RefusesUpgrade (path_in c.args.file) c.from_residual.result c.in_err-bytes.field-0.0
    (devices (g.S.Sources.told c.args.sources.now) (g.I.Source.told c.args.input.now) (g.O.Sink.told c.args.output.now) faults)
    (devices (g.S.Sources.told c.given_bytes.new.sources) (g.I.Source.told c.given_bytes.new.input) (g.O.Sink.told c.args.output.now) faults)
    c.from_residual.ensures.1 (c.in_err-bytes.ensures.lacks (g.O.Sink.told c.args.output.now) (g.O.Sink.told c.args.output.now) faults) refl

pub returns-in_err-upgraded : goal.returns-in_err-upgraded
returns-in_err-upgraded g c = λ faults.
    ends_not_made MakesUpgrade RefusesUpgrade (path_in c.args.file) c.in_ok-bytes.bytes.items c.as_slice.result.now c.from_residual-in_err-upgraded.result c.in_err-upgraded.field-0.0
    (devices (g.S.Sources.told c.args.sources.now) (g.I.Source.told c.args.input.now) (g.O.Sink.told c.args.output.now) faults)
    (devices (g.S.Sources.told c.given_bytes.new.sources) (g.I.Source.told c.given_bytes.new.input) (g.O.Sink.told c.args.output.now) faults)
    c.from_residual-in_err-upgraded.ensures.1 (c.in_ok-bytes.ensures.given (g.O.Sink.told c.args.output.now) (g.O.Sink.told c.args.output.now) faults) c.as_slice.ensures.value
    c.in_err-upgraded.ensures.refused refl

pub returns-in_err-write_at_once : goal.returns-in_err-write_at_once
returns-in_err-write_at_once g c = λ faults.
    ends_not_printed MakesUpgrade RefusesUpgrade (path_in c.args.file) c.in_ok-bytes.bytes.items c.in_ok-upgraded.upgraded.items c.as_slice-2.result.now Done
    c.from_residual-in_err-write_at_once.result c.in_err-write_at_once.field-0.0
    (devices (g.S.Sources.told c.args.sources.now) (g.I.Source.told c.args.input.now) (g.O.Sink.told c.args.output.now) faults)
    (devices (g.S.Sources.told c.given_bytes.new.sources) (g.I.Source.told c.given_bytes.new.input) (g.O.Sink.told c.write_at_once.new.writer) faults)
    c.from_residual-in_err-write_at_once.ensures.1
    (c.in_ok-bytes.ensures.given (g.O.Sink.told c.args.output.now) (g.O.Sink.told c.write_at_once.new.writer) faults)
    (rw c.as_slice.ensures.value at c.in_ok-upgraded.ensures.upgraded, refl) c.as_slice-2.ensures.value c.in_err-write_at_once.ensures.text
