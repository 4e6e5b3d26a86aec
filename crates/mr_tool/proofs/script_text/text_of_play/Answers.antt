use Rattle.std.proofs.Common.{◌++◌, codes, IfErr, inr, refl}
use Rattle.mr_tool.proofs.FaultLemmas.{faulted}
use Rattle.mr_tool.specs.GivenText.{IsTextFault}
use Rattle.mr_tool.specs.RunCommand.{MakesTranscript, RefusesPlay}
use Rattle.mr_tool.specs.declared.ended.Ended.TheVariants.{Done}
use Rattle.mr_tool.specs.declared.fault.Fault.TheVariants.{Memory, Plan}
use Rattle.mr_tool.proofs.script_text.text_of_play.Goals as goal

pub returns-in_err-text-clause-refused : goal.returns-in_err-text-clause-refused
returns-in_err-text-clause-refused c =
    faulted (λ other. IfErr other (IsTextFault MakesTranscript RefusesPlay c.args.bytes.now)) c.from_residual-in_err-text.result (Plan c.in_err-text.field-0.0)
    c.from_residual-in_err-text.ensures.1 (inr (c.in_ok-script.script, c.in_ok-script.ensures, c.in_err-text.ensures.refused))

pub returns-in_err-extend_from_slice-clause-refused : goal.returns-in_err-extend_from_slice-clause-refused
returns-in_err-extend_from_slice-clause-refused c =
    faulted (λ other. IfErr other (IsTextFault MakesTranscript RefusesPlay c.args.bytes.now)) c.from_residual-in_err-extend_from_slice.result Memory
    c.from_residual-in_err-extend_from_slice.ensures.1 (
      c.in_ok-text.text.items ++ codes "\n",
      Done,
      (
        record {
          script = c.in_ok-script.script;
          transcript = c.in_ok-text.text.items;
          reads = c.in_ok-script.ensures;
          is_transcript = c.in_ok-text.ensures.written;
          text_is = refl;
        },
        refl,
      ),
    )
