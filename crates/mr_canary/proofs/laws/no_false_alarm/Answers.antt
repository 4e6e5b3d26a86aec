use Rattle.mr_canary.proofs.ViewLemmas.{no_false_alarm}
use Rattle.mr_canary.proofs.laws.no_false_alarm.Goals as goal

pub returns : goal.returns
returns c = λ names history notes seen view once safe get. no_false_alarm names history notes seen view once safe get
