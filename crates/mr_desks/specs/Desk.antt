-- What a desk says of its calls. Other threads change the proxy under its lock between two calls, so a call says of some proxy,
-- of which it knows what the lock keeps, what it does with it.
use Rattle.std.specs.Prelude.{◌≡◌, ℕ, ◌⊎◌, List, Bool, true, false, Option, Some, None}
use Rattle.mr_text.specs.declared.request.Request.{Request}
use Rattle.mr_history.specs.declared.op_id.OpId.{OpId}
use Rattle.mr_proxy.specs.Answer.{AnswerView}
use Rattle.mr_proxy.specs.Issue.{next_op, sheets_of}
use Rattle.mr_proxy.specs.ProxyView.{ProxyView}
use Rattle.mr_proxy.specs.Sound.{IsSound}
use Rattle.mr_proxy.specs.Transitions.{given_up_of}
use Rattle.mr_proxy.specs.declared.sheet.LegBack.{LegBack}
use Rattle.mr_proxy.specs.declared.sheet.LegSheet.{LegSheet}
use Rattle.mr_proxy.specs.declared.taken.Taken.{Taken}
use Rattle.mr_desks.specs.Issuing.{ClockCall, ClockGives, with_share}
use Rattle.mr_desks.specs.Recorded.{Gave, CoreStands}
use Rattle.mr_desks.specs.Shared.{why_turned_down}
use Rattle.mr_desks.specs.Taking.{BecomesOf}
use Rattle.mr_desks.specs.declared.desk_error.DeskError.{DeskError}
use Rattle.mr_desks.specs.declared.desk_error.DeskError.TheVariants.{ClockFault, BookFull, OutOfMemory}

-- What a lock lets one say of the proxy that is found under it: it is on its way from a fresh one, and each reply that was
-- noted is one that a carrier may give for its sheet.
pub record IsUnderLock (gave : Gave) (core : ProxyView) : Type 0 where
  pub sound : IsSound core
  pub stands : CoreStands gave core

-- the clock was read once, and at that reading the proxy accepted the request: these are its name and its legs
pub record DeskIssues {K : Type 0} (gave : Gave) (call : ClockCall K) (share : ℕ) (request : Request) (op : OpId) (legs : List LegSheet) : Type 0 where
  pub core : ProxyView
  pub reading : ℕ
  pub locked : IsUnderLock gave core
  pub read : ClockGives call (Some reading)
  pub accepted : why_turned_down (with_share core share) ≡ None
  pub named : op ≡ next_op core
  pub sent : legs ≡ sheets_of core reading request

-- the proxy's or the share's refusal; where there is none the book is full, if one is kept, or memory was refused
abbrev pub IsLockedRefusal : Bool → Option DeskError → DeskError → Type 0
IsLockedRefusal recorded (Some refusal) e = e ≡ refusal
IsLockedRefusal true None e = (e ≡ BookFull) ⊎ (e ≡ OutOfMemory)
IsLockedRefusal false None e = e ≡ OutOfMemory

-- the clock was read once, and at that reading the request was refused
pub record DeskTurnsDown {K : Type 0} (gave : Gave) (recorded : Bool) (call : ClockCall K) (share : ℕ) (e : DeskError) : Type 0 where
  pub core : ProxyView
  pub reading : ℕ
  pub locked : IsUnderLock gave core
  pub read : ClockGives call (Some reading)
  pub refused : IsLockedRefusal recorded (why_turned_down (with_share core share)) e

-- the clock was read once, and the request was refused at that reading, or there was none
abbrev pub DeskRefuses : {K : Type 0} → Gave → Bool → ClockCall K → ℕ → DeskError → Type 0
DeskRefuses gave recorded call share e = DeskTurnsDown gave recorded call share e ⊎ (ClockGives call None × (e ≡ ClockFault))

-- what becomes of the leg that came back
pub record DeskTakes (gave : Gave) (back : LegBack) (taken : Taken) : Type 0 where
  pub core : ProxyView
  pub locked : IsUnderLock gave core
  pub became : BecomesOf core back taken

-- the answer to the request of this op as the proxy has it, where it is under way
pub record DeskGivesUp (gave : Gave) (op : OpId) (answer : Option AnswerView) : Type 0 where
  pub core : ProxyView
  pub locked : IsUnderLock gave core
  pub is : answer ≡ given_up_of core op
