use Rattle.std.proofs.lemmas.Result.{on_ok_weaker}
use Rattle.mr_log.proofs.TextLemmas.{after_two}
use Rattle.mr_log.proofs.line.push_config.Goals as goal

pub returns : goal.returns
returns c = rw c.in-Some.is (on_ok_weaker c.push_words-2.result (after_two _ _ _ _ _ c.in_ok-push_words.ensures) c.push_words-2.ensures)
