-- What a recorded proxy does with a leg that came back, and with a request that is given up.
use Rattle.std.specs.Prelude.{◌≡◌, ◌≢◌, [], ◌∷◌, ◌++◌, false, Some}
use Rattle.mr_history.specs.declared.op_id.OpId.{OpId}
use Rattle.mr_proxy.specs.ProxyView.{ProxyView}
use Rattle.mr_proxy.specs.Transitions.{open_sheet, taken_of, after_take, after_give_up}
use Rattle.mr_proxy.specs.declared.sheet.LegBack.{LegBack}
use Rattle.mr_proxy.specs.declared.taken.Taken.{Taken}
use Rattle.mr_proxy.specs.declared.taken.Taken.TheVariants.{Waiting, Answered, Stranger}
use Rattle.mr_proxy.specs.declared.step.Step.TheVariants.{Take, GiveUp}
use Rattle.mr_desks.specs.Recorded.{Gave, Recorded, AnswerStands}

-- What becomes of a leg that came back: what the proxy makes of its reply, and a stranger where the sheet isn't that of an
-- open leg of the proxy's own.
pub record BecomesOf (core : ProxyView) (back : LegBack) (taken : Taken) : Type 0 where
  pub own : open_sheet core back.sheet.id ≡ Some back.sheet → taken ≡ taken_of core back.sheet.id back.reply
  pub foreign : open_sheet core back.sheet.id ≢ Some back.sheet → taken ≡ Stranger back.reply

-- the proxy noted the reply, and the book says so
abbrev pub after_noted : Recorded → LegBack → Recorded
after_noted r back =
    record { core = after_take r.core back.sheet.id back.reply; steps = r.steps ++ Take back ∷ []; limit = r.limit }

-- a stranger changes nothing, and isn't recorded
abbrev pub after_taken : Recorded → LegBack → Taken → Recorded
after_taken r back (Stranger reply) = r
after_taken r back Waiting = after_noted r back
after_taken r back (Answered answer) = after_noted r back

-- the request left, and the book says so
abbrev pub after_given_up : Recorded → OpId → Recorded
after_given_up r op = record { core = after_give_up r.core op; steps = r.steps ++ GiveUp op ∷ []; limit = r.limit }

-- where it is the answer, each of its replies is one that a carrier may give for its sheet
abbrev pub TakenStands : Gave → Taken → Type 0
TakenStands gave (Stranger reply) = Unit {0}
TakenStands gave Waiting = Unit {0}
TakenStands gave (Answered answer) = AnswerStands gave answer

-- where it is the answer, the request wasn't given up
abbrev pub TakenInTime : Taken → Type 0
TakenInTime (Stranger reply) = Unit {0}
TakenInTime Waiting = Unit {0}
TakenInTime (Answered answer) = answer.given_up ≡ false
