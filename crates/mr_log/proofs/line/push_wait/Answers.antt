use Rattle.std.proofs.lemmas.Result.{on_ok_weaker}
use Rattle.mr_log.proofs.TextLemmas.{after_three}
use Rattle.mr_log.proofs.line.push_wait.Goals as goal

pub returns : goal.returns
returns c =
    on_ok_weaker c.push_words-2.result (after_three _ _ _ _ _ _ _ c.in_ok-push_words.ensures c.in_ok-push_number.ensures) c.push_words-2.ensures
