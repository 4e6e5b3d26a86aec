use Rattle.std.proofs.Common.{◌↔◌, map, drop}
use Rattle.std.specs.Prelude.{Vec}
use Rattle.std.specs.declared.alloc.Global.{Global}
use Rattle.mr_proxy.specs.Answer.{AnswerView}
use Rattle.mr_desks.specs.Closing.{AreAmong}
use Rattle.mr_desks.proofs.closing.all_are_among.Given as goal

abbrev pub invariant-loop-session : goal.invariant-loop-session
invariant-loop-session l =
    AreAmong l.others (map (λ (session : Vec AnswerView Global). session.items) l.sessions)
    ↔ AreAmong l.others (map (λ (session : Vec AnswerView Global). session.items) (drop l.session-index l.sessions))
