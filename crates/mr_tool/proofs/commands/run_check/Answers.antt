use Rattle.std.proofs.Common.{refl}
use Rattle.mr_transcripts.specs.Transcripts.{RefusesCheck}
use Rattle.mr_tool.proofs.GivenLemmas.{ends_not_given, ends_not_printed}
use Rattle.mr_tool.specs.CheckCommand.{MakesCheck, end_of}
use Rattle.mr_printing.specs.CheckText.{check_text}
use Rattle.mr_tool.specs.Devices.{devices}
use Rattle.mr_words.specs.Words.{path_in}
use Rattle.mr_tool.proofs.commands.run_check.Goals as goal

pub returns-in_err-bytes : goal.returns-in_err-bytes
returns-in_err-bytes g c = λ faults.
    ends_not_given MakesCheck RefusesCheck (path_in c.args.file) c.from_residual.result c.in_err-bytes.field-0.0
    (devices (g.S.Sources.told c.args.sources.now) (g.I.Source.told c.args.input.now) (g.O.Sink.told c.args.output.now) faults)
    (devices (g.S.Sources.told c.given_bytes.new.sources) (g.I.Source.told c.given_bytes.new.input) (g.O.Sink.told c.args.output.now) faults)
    c.from_residual.ensures.1 (c.in_err-bytes.ensures.lacks (g.O.Sink.told c.args.output.now) (g.O.Sink.told c.args.output.now) faults) refl

pub returns-in_err-write_check : goal.returns-in_err-write_check
returns-in_err-write_check g c = λ faults.
    let before = devices (g.S.Sources.told c.args.sources.now) (g.I.Source.told c.args.input.now) (g.O.Sink.told c.args.output.now) faults in
    let after = devices (g.S.Sources.told c.given_bytes.new.sources) (g.I.Source.told c.given_bytes.new.input) (g.O.Sink.told c.write_check.new.writer) faults in
    let given = c.in_ok-bytes.ensures.given (g.O.Sink.told c.args.output.now) (g.O.Sink.told c.write_check.new.writer) faults in
    let made : MakesCheck c.in_ok-bytes.bytes.items (check_text c.in_ok-checked.checked) (end_of c.in_ok-checked.checked.outcome) = record {
      checked = c.in_ok-checked.checked;
      checks = rw c.as_slice.ensures.value at c.in_ok-checked.ensures.checked;
      text_is = refl;
      ended_is = refl;
    } in
    ends_not_printed MakesCheck RefusesCheck (path_in c.args.file) c.in_ok-bytes.bytes.items (check_text c.in_ok-checked.checked)
    (check_text c.in_ok-checked.checked) (end_of c.in_ok-checked.checked.outcome) c.from_residual-in_err-write_check.result
    c.in_err-write_check.field-0.0 before after c.from_residual-in_err-write_check.ensures.1 given made refl c.in_err-write_check.ensures.check
