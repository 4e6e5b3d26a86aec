use Rattle.std.proofs.lemmas.Result.{on_ok_weaker}
use Rattle.mr_log.proofs.TextLemmas.{after_four}
use Rattle.mr_log.proofs.line.push_entered.Goals as goal

pub returns : goal.returns
returns c =
    rw (← c.as_str.ensures, ← c.from.ensures)
    (on_ok_weaker c.push_number.result (after_four _ _ _ _ _ _ _ _ _ c.in_ok-push_words.ensures c.in_ok-push_words-2.ensures c.in_ok-push_words-3.ensures)
    c.push_number.ensures)
