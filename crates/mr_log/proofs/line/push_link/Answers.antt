use Rattle.std.proofs.lemmas.Result.{on_ok_weaker}
use Rattle.mr_log.proofs.TextLemmas.{after_two}
use Rattle.mr_log.proofs.line.push_link.Goals as goal

pub returns-in_ok-push_words-in-None : goal.returns-in_ok-push_words-in-None
returns-in_ok-push_words-in-None c =
    let none = c.in-None.ensures in
    rw none (on_ok_weaker c.push_number.result (after_two _ _ _ _ _ c.in_ok-push_words-in-None.ensures) c.push_number.ensures)
