-- What the legs of a request come to.
use Rattle.std.proofs.Common.{◌≡◌, ◌∙◌, ℕ, ◌+◌, ◌≤◌, List, [], ◌∷◌, ◌++◌, length, Bool, true, false, Option, Some, None, option_map, is_some, ap, arith, append_assoc}
use Rattle.mr_proxy.specs.declared.sheet.LegSheet.{LegSheet}
use Rattle.mr_desks.specs.Carriers.{CarriersView, SendIs}
use Rattle.mr_sessions.specs.Account.{AreSent, IsGivenUpFor, AreCarried}
use Rattle.mr_sessions.specs.steps.Carrying.{IsSteady, CameBack, CameInVain}

-- a leg that isn't handed back is sent
pub sent_on : (old new : CarriersView) (leg : LegSheet) (result : Option LegSheet) → SendIs old leg (option_map (λ back. back) result) new
    → is_some result ≡ false → new ≡ record old { sent = old.sent ++ leg ∷ [] }
sent_on old new leg (Some back) is none = cc
sent_on old new leg None is none = is

-- one more leg was sent
pub one_more : (old between new : CarriersView) (front : List LegSheet) (leg : LegSheet) → between ≡ record old { sent = old.sent ++ front }
    → new ≡ record between { sent = between.sent ++ leg ∷ [] } → new ≡ record old { sent = old.sent ++ (front ++ leg ∷ []) }
one_more old between new front leg so one =
    one ∙ ap (λ (v : CarriersView). record v { sent = v.sent ++ leg ∷ [] }) so
    ∙ ap (λ (l : List LegSheet). record old { sent = l }) (append_assoc old.sent front (leg ∷ []))

module _ (recorded : Bool) (legs : List LegSheet) (old between new : CarriersView) (sent : between ≡ record old { sent = old.sent ++ legs }) where
  same_losses : between.losses ≡ old.losses
  same_losses = ap (λ (v : CarriersView). v.losses) sent

  same_brought : between.brought ≡ old.brought
  same_brought = ap (λ (v : CarriersView). v.brought) sent

  all_sent : IsSteady between new → AreSent legs old new
  all_sent steady = record {
    all = steady.none_sent ∙ ap (λ (v : CarriersView). v.sent) sent;
    none_lost = steady.none_lost ∙ same_losses;
  }

  -- all legs were sent, and the request was answered
  pub in_time : (given_up : Bool) → given_up ≡ false → CameBack between new → AreCarried recorded legs given_up old new
  in_time true is came = cc
  in_time false is came = (all_sent came.steady, (let one = came.one_came in let same = same_brought in omega arith))

  -- all legs were sent, and the request wasn't answered
  pub in_vain : (out : ℕ) → length legs ≤ out → CameInVain recorded out between new → IsGivenUpFor recorded legs old new
  in_vain out all (CameInVain.none_came lost) = IsGivenUpFor.none_came (record {
    all = lost.none_sent ∙ ap (λ (v : CarriersView). v.sent) sent;
    one_lost = (let one = lost.one_lost in let same = same_losses in omega arith);
    came = (let back = lost.came in let same = same_brought in omega arith);
  })
  in_vain out all (CameInVain.all_came steady back) = IsGivenUpFor.as_many_came (all_sent steady) (let same = same_brought in omega arith)
  in_vain out all (CameInVain.no_memory kept steady one) = IsGivenUpFor.no_memory kept (all_sent steady) (let same = same_brought in omega arith)

-- the request was given up
pub late : (recorded : Bool) (legs : List LegSheet) (old new : CarriersView) (given_up : Bool) → given_up ≡ true → IsGivenUpFor recorded legs old new
    → AreCarried recorded legs given_up old new
late recorded legs old new true is for = for
late recorded legs old new false is for = cc

-- no count falls
pub record Rises (old new : CarriersView) : Type 0 where
  pub lost : old.losses ≤ new.losses
  pub came : old.brought ≤ new.brought

pub rises : (recorded : Bool) (legs : List LegSheet) (given_up : Bool) (old new : CarriersView) → AreCarried recorded legs given_up old new → Rises old new
rises recorded legs false old new is = record { lost = (let same = is.0.none_lost in omega arith); came = (let one = is.1 in omega arith) }
rises recorded legs true old new (IsGivenUpFor.handed_back stops) =
    let losses = ap (λ (v : CarriersView). v.losses) stops.stops in
    let brought = ap (λ (v : CarriersView). v.brought) stops.stops in
    record { lost = omega arith; came = omega arith }
rises recorded legs true old new (IsGivenUpFor.none_came none) = record { lost = (let one = none.one_lost in omega arith); came = none.came }
rises recorded legs true old new (IsGivenUpFor.as_many_came all came) = record { lost = (let same = all.none_lost in omega arith); came = omega arith }
rises recorded legs true old new (IsGivenUpFor.no_memory kept all came) = record { lost = (let same = all.none_lost in omega arith); came = omega arith }

-- a request that has a leg is given up for a loss, or for a leg that came back
pub one_rises : (recorded : Bool) (legs : List LegSheet) (old new : CarriersView) → 1 ≤ length legs → IsGivenUpFor recorded legs old new
    → old.losses + old.brought + 1 ≤ new.losses + new.brought
one_rises recorded legs old new some (IsGivenUpFor.handed_back stops) =
    let losses = ap (λ (v : CarriersView). v.losses) stops.stops in
    let brought = ap (λ (v : CarriersView). v.brought) stops.stops in
    omega arith
one_rises recorded legs old new some (IsGivenUpFor.none_came none) = (let one = none.one_lost in let came = none.came in omega arith)
one_rises recorded legs old new some (IsGivenUpFor.as_many_came all came) = (let same = all.none_lost in omega arith)
one_rises recorded legs old new some (IsGivenUpFor.no_memory kept all came) = (let same = all.none_lost in omega arith)
