-- What the legs of a request come to, step by step.
use Rattle.std.specs.Prelude.{◌≡◌, ℕ, ◌+◌, ◌≤◌, List, ◌++◌, Bool, true, false}
use Rattle.mr_proxy.specs.declared.sheet.LegSheet.{LegSheet}
use Rattle.mr_desks.specs.Carriers.{CarriersView}
use Rattle.mr_desks.specs.Recorded.{Gave}
use Rattle.mr_sessions.specs.Account.{StopsAtLeg, AreCarried}
use Rattle.mr_sessions.specs.Own.{IssuedView, HasNoAnswer}

-- whether all legs were sent: they were, or one was handed back
abbrev pub SendsAll : List LegSheet → CarriersView → Bool → CarriersView → Type 0
SendsAll legs old true new = new ≡ record old { sent = old.sent ++ legs }
SendsAll legs old false new = StopsAtLeg legs old new

-- nothing was sent or lost
pub record IsSteady (old new : CarriersView) : Type 0 where
  pub none_sent : new.sent ≡ old.sent
  pub none_lost : new.losses ≡ old.losses

-- legs came back, and nothing was sent or lost
pub record CameBack (old new : CarriersView) : Type 0 where
  pub steady : IsSteady old new
  pub one_came : old.brought + 1 ≤ new.brought

-- none came, and that is a loss
pub record IsLost (old new : CarriersView) : Type 0 where
  pub none_sent : new.sent ≡ old.sent
  pub one_lost : new.losses ≡ old.losses + 1
  pub came : old.brought ≤ new.brought

-- Why a request isn't answered: none of so many legs that were out came any more, or all of them did, or, where a book is
-- kept, there was no memory for one that came.
pub data CameInVain (recorded : Bool) (out : ℕ) (old new : CarriersView) : Type 0 where
  none_came : IsLost old new → CameInVain recorded out old new
  all_came : IsSteady old new → old.brought + out ≤ new.brought → CameInVain recorded out old new
  no_memory : recorded ≡ true → IsSteady old new → old.brought + 1 ≤ new.brought → CameInVain recorded out old new

-- a request was carried, and has no answer
pub record IsUnanswered (gave : Gave) (recorded : Bool) (issued : IssuedView) (old new : CarriersView) : Type 0 where
  pub unanswered : HasNoAnswer gave issued
  pub given_up : Bool
  pub carried : AreCarried recorded issued.legs given_up old new
