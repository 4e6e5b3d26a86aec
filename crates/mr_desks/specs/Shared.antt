-- A proxy without a book.
use Rattle.std.specs.Prelude.{◌≡◌, ℕ, ◌+◌, ◌-◌, ◌^◌, ◌==◌, ◌||◌, ◌⊎◌, nat_le, List, length, Option, Some, None, if◌then◌else◌}
use Rattle.mr_text.specs.declared.request.Request.{Request}
use Rattle.mr_history.specs.declared.op_id.OpId.{OpId}
use Rattle.mr_proxy.specs.Issue.{next_op, sheets_of, after_issue}
use Rattle.mr_proxy.specs.ProxyView.{ProxyView}
use Rattle.mr_proxy.specs.declared.sheet.LegSheet.{LegSheet}
use Rattle.mr_desks.specs.Issuing.{ClockCall, ClockGives, WithShare, IsDeskRefusal}
use Rattle.mr_desks.specs.Recorded.{Gave, CoreStands}
use Rattle.mr_desks.specs.declared.desk_error.DeskError.{DeskError}
use Rattle.mr_desks.specs.declared.desk_error.DeskError.TheVariants.{ClockFault, NumbersSpent, NoRoom}

-- What it keeps: each reply that was noted is one that a carrier may give for its sheet, and as many requests were accepted
-- as numbers were given out.
pub record IsSharedCore (gave : Gave) (core : ProxyView) (issues : ℕ) : Type 0 where
  pub stands : CoreStands gave core
  pub counted : issues ≡ core.next

-- why a request isn't issued, memory and a book aside: the first of these that holds
abbrev pub why_turned_down : WithShare ProxyView → Option DeskError
why_turned_down old =
    if nat_le (2 ^ 64 - 1) old.share || (old.proxy.next == 2 ^ 64 - 1) then Some NumbersSpent
    else if nat_le old.proxy.room (length old.proxy.outstanding) then Some NoRoom
    else None

-- The request was issued at this reading, as the core issues it: at the larger of the reading and the last one. The share
-- counts it.
pub record SharedIssuesAt (old : WithShare ProxyView) (t : ℕ) (request : Request) (op : OpId) (legs : List LegSheet) (new : WithShare ProxyView) : Type 0 where
  pub accepted : why_turned_down old ≡ None
  pub state : new.proxy ≡ after_issue old.proxy t request
  pub counted : new.share ≡ old.share + 1
  pub named : op ≡ next_op old.proxy
  pub sent : legs ≡ sheets_of old.proxy t request

-- the clock was read once, and the request was issued at that reading
abbrev pub SharedIssues : {K : Type 0} → ClockCall K → WithShare ProxyView → Request → OpId → List LegSheet → WithShare ProxyView → Type 0
SharedIssues call old request op legs new = (t : ℕ) × ClockGives call (Some t) × SharedIssuesAt old t request op legs new

-- the clock was read once, and the request was refused, or there was no reading
abbrev pub SharedRefuses : {K : Type 0} → ClockCall K → WithShare ProxyView → DeskError → Type 0
SharedRefuses call old e =
    ((t : ℕ) × ClockGives call (Some t) × IsDeskRefusal (why_turned_down old) e) ⊎ (ClockGives call None × (e ≡ ClockFault))
