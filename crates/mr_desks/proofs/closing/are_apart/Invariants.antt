use Rattle.std.proofs.Common.{◌≡◌, map, drop}
use Rattle.std.specs.Prelude.{Vec}
use Rattle.std.specs.declared.alloc.Global.{Global}
use Rattle.mr_proxy.specs.Answer.{AnswerView}
use Rattle.mr_desks.specs.Closing.{are_apart}
use Rattle.mr_desks.proofs.closing.are_apart.Given as goal

abbrev pub invariant-loop-index : goal.invariant-loop-index
invariant-loop-index l = are_apart l.answers (map (λ (session : Vec AnswerView Global). session.items) l.sessions) ≡ are_apart (drop l.index l.answers) (map (λ (session : Vec AnswerView Global). session.items) l.sessions)
