use Rattle.std.proofs.Common.{◌≡◌, map, drop}
use Rattle.std.specs.Prelude.{Vec}
use Rattle.std.specs.declared.alloc.Global.{Global}
use Rattle.mr_proxy.specs.Answer.{AnswerView}
use Rattle.mr_desks.specs.Closing.{some_has_op}
use Rattle.mr_desks.proofs.closing.some_has_op.Given as goal

abbrev pub invariant-loop-session : goal.invariant-loop-session
invariant-loop-session l = some_has_op (map (λ (session : Vec AnswerView Global). session.items) l.sessions) l.op ≡ some_has_op (map (λ (session : Vec AnswerView Global). session.items) (drop l.session-index l.sessions)) l.op
