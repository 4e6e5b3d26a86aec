use Rattle.mr_streams.proofs.Flushing.{flushes_put_texts}
use Rattle.mr_streams.proofs.laws.flushes_put_texts.Goals as goal

pub returns : goal.returns
returns c = λ loop place client there. flushes_put_texts loop place client there
