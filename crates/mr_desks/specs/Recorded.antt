-- A proxy with the book of its steps.
use Rattle.std.specs.Prelude.{◌≡◌, ℕ, ◌+◌, ◌≤◌, List, length, count_by, All, Option, Some, None}
use Rattle.mr_join.specs.declared.leg_reply.LegReply.{LegReply}
use Rattle.mr_proxy.specs.Answer.{AnswerView}
use Rattle.mr_proxy.specs.Pending.{PendingView}
use Rattle.mr_proxy.specs.ProxyView.{ProxyView, opening_of}
use Rattle.mr_proxy.specs.Transitions.{open_legs_of}
use Rattle.mr_proxy.specs.declared.sheet.LegSheet.{LegSheet}
use Rattle.mr_proxy.specs.declared.slot.Slot.{Slot}
use Rattle.mr_proxy.specs.Replay.{replay, is_issue}
use Rattle.mr_proxy.specs.declared.step.Step.{Step}
use Rattle.mr_desks.specs.Books.{AreSteps}

-- the proxy, the steps that it made since it was fresh, and the most that the book keeps
pub record Recorded : Type 0 where
  pub core : ProxyView
  pub steps : List Step
  pub limit : ℕ

-- what may come back for a sheet
abbrev pub Gave : Type 1
Gave = LegSheet → LegReply → Type 0

-- the reply, if there is one, may be given for the sheet
abbrev pub Stands : Gave → LegSheet → Option LegReply → Type 0
Stands gave sheet None = Unit {0}
Stands gave sheet (Some reply) = ∥ gave sheet reply ∥₁

-- the reply that was noted for a leg, if any, is one that a carrier may give for its sheet
abbrev pub SlotStands : Gave → Slot → Type 0
SlotStands gave slot = Stands gave slot.sheet slot.reply

-- each reply of a request under way is one that a carrier may give for its sheet
abbrev pub PendingStands : Gave → PendingView → Type 0
PendingStands gave pending = All (SlotStands gave) pending.slots

-- each reply that was noted is one that a carrier may give for its sheet
abbrev pub CoreStands : Gave → ProxyView → Type 0
CoreStands gave core = All (PendingStands gave) core.outstanding

-- each reply of an answer is one that a carrier may give for its sheet
abbrev pub AnswerStands : Gave → AnswerView → Type 0
AnswerStands gave answer = All (SlotStands gave) answer.slots

-- What a recorded proxy keeps. The room for the steps of all open legs is there already: a leg needs one step at most.
pub record IsRecordedCore (gave : Gave) (core : ProxyView) (steps : List Step) (issues limit capacity : ℕ) : Type 0 where
  pub replays : core ≡ replay (opening_of core) steps
  pub made : AreSteps (opening_of core) steps
  pub counted : issues ≡ core.next
  pub in_book : count_by is_issue steps ≡ core.next
  pub stands : CoreStands gave core
  pub within : length steps + open_legs_of core ≤ limit
  pub room : length steps + open_legs_of core ≤ capacity
