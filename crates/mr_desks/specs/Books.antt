-- Which steps a proxy makes, as a book of it keeps them.
use Rattle.std.specs.Prelude.{◌≡◌, ◌≢◌, List, [], ◌∷◌, None}
use Rattle.mr_text.specs.declared.request.Request.TheVariants.{Quit}
use Rattle.mr_proxy.specs.Issue.{refusal_of}
use Rattle.mr_proxy.specs.ProxyView.{ProxyView}
use Rattle.mr_proxy.specs.Transitions.{taken_of, given_up_of}
use Rattle.mr_proxy.specs.declared.taken.Taken.{Taken}
use Rattle.mr_proxy.specs.declared.taken.Taken.TheVariants.{Waiting, Answered, Stranger}
use Rattle.mr_proxy.specs.Replay.{after}
use Rattle.mr_proxy.specs.declared.step.Step.{Step}
use Rattle.mr_proxy.specs.declared.step.Step.TheVariants.{Issue, Take, GiveUp}

-- the reply was noted
abbrev pub IsNoted : Taken → Type 0
IsNoted (Stranger reply) = ⊥
IsNoted Waiting = Unit {0}
IsNoted (Answered answer) = Unit {0}

-- the proxy makes this step: it accepts the request, notes the reply, or has the request under way that is given up
abbrev pub IsBookStep : ProxyView → Step → Type 0
IsBookStep p (Issue reading request) = (refusal_of p ≡ None) × (request ≢ Quit)
IsBookStep p (Take back) = IsNoted (taken_of p back.sheet.id back.reply)
IsBookStep p (GiveUp op) = given_up_of p op ≢ None

-- the proxy makes these steps, one after another
abbrev pub AreSteps : ProxyView → List Step → Type 0
AreSteps p [] = Unit {0}
AreSteps p (step ∷ steps) = IsBookStep p step × AreSteps (after p step) steps
