use Rattle.std.proofs.Common.{◌≡◌, ◌-◌, vec_len}
use Rattle.mr_tool.specs.Input.{Takes, most_taken}
use Rattle.mr_tool.proofs.input.read_whole_input.Given as goal

-- all that was taken is kept, each read brought a byte, and none failed
abbrev pub invariant-loop-bytes : goal.invariant-loop-bytes
invariant-loop-bytes g l = record {
  takes : Takes l.bytes.items 0 (g.I.Source.told l.initial.input) (g.I.Source.told l.input);
  steady : (g.I.Source.told l.input).failures ≡ (g.I.Source.told l.initial.input).failures;
}

abbrev pub decreases-loop-bytes : goal.decreases-loop-bytes
decreases-loop-bytes g l = most_taken - vec_len l.bytes
