use Rattle.mr_history.proofs.JudgeLemmas.{fresh_beside}
use Rattle.mr_history.proofs.indexed.judge_reply.Goals as goal

pub returns-in_default : goal.returns-in_default
returns-in_default c =
    fresh_beside _ _ _ c.requires.fresh c.requires.answered (λ get items same. c.in_default.not-Items items (let answer = same in cc))
