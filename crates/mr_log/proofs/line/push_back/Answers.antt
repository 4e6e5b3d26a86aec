use Rattle.std.proofs.lemmas.Result.{on_ok_weaker}
use Rattle.mr_log.proofs.TextLemmas.{after_four}
use Rattle.mr_log.proofs.line.push_back.Goals as goal

pub returns : goal.returns
returns c =
    on_ok_weaker c.push_number-2.result (after_four _ _ _ _ _ _ _ _ _ c.in_ok-push_words.ensures c.in_ok-push_number.ensures c.in_ok-push_words-2.ensures)
    c.push_number-2.ensures
