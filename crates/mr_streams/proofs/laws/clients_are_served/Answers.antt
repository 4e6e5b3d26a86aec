use Rattle.mr_streams.proofs.HearingEvents.{all_served}
use Rattle.mr_streams.proofs.laws.clients_are_served.Goals as goal

pub returns : goal.returns
returns c = λ setup first last ticks starts run. all_served setup first last ticks starts run
