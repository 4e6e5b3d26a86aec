use Rattle.std.proofs.Common.{◌≡◌, map, drop}
use Rattle.std.specs.Prelude.{Vec}
use Rattle.std.specs.declared.alloc.Global.{Global}
use Rattle.mr_proxy.specs.Answer.{AnswerView}
use Rattle.mr_desks.specs.Closing.{have_different_ops}
use Rattle.mr_desks.proofs.closing.have_different_ops.Given as goal

abbrev pub invariant-loop-index : goal.invariant-loop-index
invariant-loop-index l = have_different_ops (map (λ (session : Vec AnswerView Global). session.items) l.sessions) ≡ have_different_ops (map (λ (session : Vec AnswerView Global). session.items) (drop l.index l.sessions))
