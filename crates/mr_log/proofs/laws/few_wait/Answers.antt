use Rattle.mr_log.specs.Log.{new_log}
use Rattle.mr_log.proofs.RunLemmas.{run_keeps, is_new_log}
use Rattle.mr_log.proofs.WaitingLemmas.{few_lines}
use Rattle.mr_log.proofs.laws.few_wait.Goals as goal

pub returns-clause-one_each : goal.returns-clause-one_each
returns-clause-one_each c steps log run = run_keeps steps new_log log is_new_log run

pub returns-clause-few : goal.returns-clause-few
returns-clause-few c steps log run = few_lines log.waiting (run_keeps steps new_log log is_new_log run).one_each
