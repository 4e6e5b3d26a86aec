use Rattle.mr_history.proofs.Lists.{at_read}
use Rattle.mr_history.proofs.JudgeLemmas.{fresh_beside}
use Rattle.mr_history.proofs.indexed.judge_entry.Goals as goal

pub returns-in_default : goal.returns-in_default
returns-in_default c =
    fresh_beside _ _ _ c.requires.fresh (at_read _ _ _ c.requires.within c.index-entries-place.is) (λ get items same. c.in_default.not-Answered get _ same)
