use Rattle.mr_streams.proofs.Issuing.{all_issued}
use Rattle.mr_streams.proofs.laws.requests_are_issued_as_they_come.Goals as goal

pub returns : goal.returns
returns c = λ setup first old new before ticks starts run step. all_issued setup first old new before ticks starts run step
