-- What a session accounts for.
use Rattle.std.specs.Prelude.{◌≡◌, ℕ, ◌+◌, ◌≤◌, List, [], ◌∷◌, ◌++◌, length, Bool, true, false, if◌then◌else◌}
use Rattle.mr_proxy.specs.Answer.{AnswerView}
use Rattle.mr_proxy.specs.declared.sheet.LegSheet.{LegSheet}
use Rattle.mr_desks.specs.Carriers.{CarriersView}
use Rattle.mr_desks.specs.Recorded.{Gave, AnswerStands}
use Rattle.mr_sessions.specs.Own.{IssuedView, IsAnswerTo, HasNoAnswer}

-- how many requests were issued, the answers that are kept, and what the carriers tell of the legs that went through them
pub record Account : Type 0 where
  pub share : ℕ
  pub answers : List AnswerView
  pub carriers : CarriersView

-- an account of these three
abbrev pub account : ℕ → List AnswerView → CarriersView → Account
account share answers carriers = record { share = share; answers = answers; carriers = carriers }

-- answers are kept where there is a book to hold them against
abbrev pub kept_with : Bool → List AnswerView → AnswerView → List AnswerView
kept_with recorded answers answer = if recorded then answers ++ answer ∷ [] else answers

-- one leg was handed back: those before it were sent, in order, and none behind it was tried
pub record StopsAtLeg (legs : List LegSheet) (old new : CarriersView) : Type 0 where
  pub front : List LegSheet
  pub leg : LegSheet
  pub others : List LegSheet
  pub splits : legs ≡ front ++ leg ∷ others
  pub stops : new ≡ record old { sent = old.sent ++ front; losses = old.losses + 1 }

-- all legs were sent, in order, and none was lost
pub record AreSent (legs : List LegSheet) (old new : CarriersView) : Type 0 where
  pub all : new.sent ≡ old.sent ++ legs
  pub none_lost : new.losses ≡ old.losses

-- all legs were sent, in order, and then none came
pub record NoneCame (legs : List LegSheet) (old new : CarriersView) : Type 0 where
  pub all : new.sent ≡ old.sent ++ legs
  pub one_lost : new.losses ≡ old.losses + 1
  pub came : old.brought ≤ new.brought

-- Why a request is given up: a leg was handed back; or all legs were sent, and then none came, or as many came back as it
-- has, or, where a book is kept, there was no memory for one that came.
pub data IsGivenUpFor (recorded : Bool) (legs : List LegSheet) (old new : CarriersView) : Type 0 where
  handed_back : StopsAtLeg legs old new → IsGivenUpFor recorded legs old new
  none_came : NoneCame legs old new → IsGivenUpFor recorded legs old new
  as_many_came : AreSent legs old new → old.brought + length legs ≤ new.brought → IsGivenUpFor recorded legs old new
  no_memory : recorded ≡ true → AreSent legs old new → old.brought + 1 ≤ new.brought → IsGivenUpFor recorded legs old new

-- what the legs of a request came to that was given up, or that wasn't: then all were sent, and some came back
abbrev pub AreCarried : Bool → List LegSheet → Bool → CarriersView → CarriersView → Type 0
AreCarried recorded legs true old new = IsGivenUpFor recorded legs old new
AreCarried recorded legs false old new = AreSent legs old new × (old.brought + 1 ≤ new.brought)

-- one request was issued, and this is its own answer
pub record IsAnswered (gave : Gave) (recorded : Bool) (issued : IssuedView) (answer : AnswerView) (old new : Account)
    : Type 0 where
  pub own : IsAnswerTo issued answer
  pub stands : AnswerStands gave answer
  pub counted : new.share ≡ old.share + 1
  pub kept : new.answers ≡ kept_with recorded old.answers answer
  pub carried : AreCarried recorded issued.legs answer.given_up old.carriers new.carriers

-- one request was issued, and has no answer: nothing is kept of it
pub record IsLeftUnanswered (gave : Gave) (recorded : Bool) (issued : IssuedView) (old new : Account) : Type 0 where
  pub unanswered : HasNoAnswer gave issued
  pub counted : new.share ≡ old.share + 1
  pub kept : new.answers ≡ old.answers
  pub given_up : Bool
  pub carried : AreCarried recorded issued.legs given_up old.carriers new.carriers
