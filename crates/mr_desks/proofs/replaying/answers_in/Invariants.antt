use Rattle.std.proofs.Common.{◌≡◌, ◌++◌, drop}
use Rattle.mr_proxy.specs.ProxyView.{opening_of}
use Rattle.mr_proxy.specs.Replay.{answers_of}
use Rattle.mr_desks.specs.Books.{AreSteps}
use Rattle.mr_desks.proofs.replaying.answers_in.Given as goal

-- the answers so far, and those that the steps left will give
abbrev pub invariant-loop-step : goal.invariant-loop-step
invariant-loop-step l =
    AreSteps l.core (drop l.step-index l.steps)
    × (l.answers.items ++ answers_of l.core (drop l.step-index l.steps) ≡ answers_of (opening_of l.opening) l.steps)
