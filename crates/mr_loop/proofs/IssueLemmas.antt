-- Why a request isn't issued.
use Rattle.std.proofs.Common.{◌≡◌, ◌==◌, ◌^◌, ◌-◌, nat_le, length, Bool, true, false, cond, inl, inr, Option, Some, None, refl, ap, ◌∙◌}
use Rattle.mr_text.specs.declared.request.Request.{Request}
use Rattle.mr_proxy.specs.Issue.{refusal_of, IsRefusal}
use Rattle.mr_proxy.specs.declared.error.ProxyError.{ProxyError}
use Rattle.mr_proxy.specs.declared.error.ProxyError.TheVariants.{NoRoom, OutOfMemory, NumbersSpent, NoSuchOp}
use Rattle.mr_loop.specs.declared.asker.Asker.{Asker}
use Rattle.mr_loop.specs.declared.front.Begun.TheVariants.{Told}
use Rattle.mr_loop.specs.Asking.{denies, is_full, is_no_room}
use Rattle.mr_loop.specs.Events.{FrontView, after_all}
use Rattle.mr_loop.specs.steps.Asking.{IssuesSo, cause_of}

told_by : (asker : Asker) (request : Request) (old new : FrontView) (refusal : ProxyError) (o : Option ProxyError) → refusal_of old.core ≡ o
    → (spent full : Bool) → o ≡ cond spent (Some NumbersSpent) (cond full (Some NoRoom) None)
    → is_no_room o ≡ false → IsRefusal o refusal → new ≡ after_all (denies asker.client request (cause_of refusal)) old
    → IssuesSo asker request old Told new
told_by asker request old new refusal None e spent full is room why tells_it =
    inr (e, tells_it ∙ ap (λ r. after_all (denies asker.client request (cause_of r)) old) why)
told_by asker request old new refusal (Some NumbersSpent) e spent full is room why tells_it =
    inl (e, tells_it ∙ ap (λ r. after_all (denies asker.client request (cause_of r)) old) why)
told_by asker request old new refusal (Some NoRoom) e spent full is room why tells_it = absurd (let no : true ≡ false = room in cc)
told_by asker request old new refusal (Some OutOfMemory) e true full is room why tells_it = absurd (let no : Some OutOfMemory ≡ Some NumbersSpent = is in cc)
told_by asker request old new refusal (Some OutOfMemory) e false true is room why tells_it = absurd (let no : Some OutOfMemory ≡ Some NoRoom = is in cc)
told_by asker request old new refusal (Some OutOfMemory) e false false is room why tells_it = absurd (let no : Some OutOfMemory ≡ None = is in cc)
told_by asker request old new refusal (Some NoSuchOp) e true full is room why tells_it = absurd (let no : Some NoSuchOp ≡ Some NumbersSpent = is in cc)
told_by asker request old new refusal (Some NoSuchOp) e false true is room why tells_it = absurd (let no : Some NoSuchOp ≡ Some NoRoom = is in cc)
told_by asker request old new refusal (Some NoSuchOp) e false false is room why tells_it = absurd (let no : Some NoSuchOp ≡ None = is in cc)

-- a client is told why the core refuses its request
pub told_so : (asker : Asker) (request : Request) (old new : FrontView) (refusal : ProxyError) → is_full old.core ≡ false
    → IsRefusal (refusal_of old.core) refusal → new ≡ after_all (denies asker.client request (cause_of refusal)) old
    → IssuesSo asker request old Told new
told_so asker request old new refusal room why tells_it =
    told_by asker request old new refusal (refusal_of old.core) refl (old.core.next == 2 ^ 64 - 1) (nat_le old.core.room (length old.core.outstanding)) refl room why tells_it
