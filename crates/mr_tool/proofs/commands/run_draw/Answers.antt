use Rattle.std.proofs.Common.{refl}
use Rattle.mr_transcripts.specs.Transcripts.{RefusesCheck}
use Rattle.mr_tool.proofs.GivenLemmas.{ends_not_given, ends_not_printed}
use Rattle.mr_tool.specs.DrawCommand.{MakesDrawing}
use Rattle.mr_tool.specs.declared.ended.Ended.TheVariants.{Done}
use Rattle.mr_printing.specs.Drawing.{drawing_text}
use Rattle.mr_tool.specs.Devices.{devices}
use Rattle.mr_words.specs.Words.{path_in}
use Rattle.mr_tool.proofs.commands.run_draw.Goals as goal

pub returns-in_err-bytes : goal.returns-in_err-bytes
returns-in_err-bytes g c = λ faults.
    ends_not_given MakesDrawing RefusesCheck (path_in c.args.file) c.from_residual.result c.in_err-bytes.field-0.0
    (devices (g.S.Sources.told c.args.sources.now) (g.I.Source.told c.args.input.now) (g.O.Sink.told c.args.output.now) faults)
    (devices (g.S.Sources.told c.given_bytes.new.sources) (g.I.Source.told c.given_bytes.new.input) (g.O.Sink.told c.args.output.now) faults)
    c.from_residual.ensures.1 (c.in_err-bytes.ensures.lacks (g.O.Sink.told c.args.output.now) (g.O.Sink.told c.args.output.now) faults) refl

pub returns-in_err-write_drawing : goal.returns-in_err-write_drawing
returns-in_err-write_drawing g c = λ faults.
    let before = devices (g.S.Sources.told c.args.sources.now) (g.I.Source.told c.args.input.now) (g.O.Sink.told c.args.output.now) faults in
    let after = devices (g.S.Sources.told c.given_bytes.new.sources) (g.I.Source.told c.given_bytes.new.input) (g.O.Sink.told c.write_drawing.new.writer) faults in
    let given = c.in_ok-bytes.ensures.given (g.O.Sink.told c.args.output.now) (g.O.Sink.told c.write_drawing.new.writer) faults in
    let made : MakesDrawing c.in_ok-bytes.bytes.items (drawing_text c.in_ok-seen.seen) Done = record {
      seen = c.in_ok-seen.seen;
      sees = rw c.as_slice.ensures.value at c.in_ok-seen.ensures.seen;
      text_is = refl;
      ended_is = refl;
    } in
    ends_not_printed MakesDrawing RefusesCheck (path_in c.args.file) c.in_ok-bytes.bytes.items (drawing_text c.in_ok-seen.seen)
    (drawing_text c.in_ok-seen.seen) Done c.from_residual-in_err-write_drawing.result
    c.in_err-write_drawing.field-0.0 before after c.from_residual-in_err-write_drawing.ensures.1 given made refl c.in_err-write_drawing.ensures.drawing

pub returns : goal.returns
returns g c = λ faults.
    record {
      bytes = c.in_ok-bytes.bytes.items;
      text = drawing_text c.in_ok-seen.seen;
      given = c.in_ok-bytes.ensures.given (g.O.Sink.told c.args.output.now) (g.O.Sink.told c.write_drawing.new.writer) faults;
      made = record {
        seen = c.in_ok-seen.seen;
        sees = rw c.as_slice.ensures.value at c.in_ok-seen.ensures.seen;
        text_is = refl;
        ended_is = refl;
      };
      writes = c.in_ok-write_drawing.ensures.drawing;
    }
