use Rattle.std.proofs.Common.{◌∙◌}
use Rattle.mr_tool.proofs.RunLemmas.{told_by_call}
use Rattle.mr_tool.proofs.fault.Fault.tell.Goals as goal

pub returns : goal.returns
returns g c = told_by_call _ _ _ _ c.write_all.result (c.as_bytes.ensures.value ∙ c.line.ensures) c.write_all.ensures
