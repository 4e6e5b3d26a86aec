use Rattle.mr_proxy.proofs.SoundLemmas.{last_reply_answers_lem}
use Rattle.mr_proxy.proofs.laws.last_reply_answers.Goals as goal

pub returns : goal.returns
returns c = last_reply_answers_lem
