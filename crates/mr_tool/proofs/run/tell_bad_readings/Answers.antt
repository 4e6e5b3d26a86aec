use Rattle.mr_tool.proofs.RunLemmas.{told_by_call}
use Rattle.mr_tool.proofs.run.tell_bad_readings.Goals as goal

pub returns-clause-told : goal.returns-clause-told
returns-clause-told g c = told_by_call _ _ _ _ c.write_all.result c.as_bytes.ensures.value c.write_all.ensures
