-- What an accepted request does to a proxy, and why one is refused.
use Rattle.std.specs.Prelude.{◌≡◌, ℕ, ◌+◌, ◌-◌, ◌^◌, max, ◌==◌, nat_le, List, [], ◌∷◌, ◌++◌, length, map, Option, Some, None, if◌then◌else◌}
use Rattle.mr_text.specs.declared.request.Request.{Request}
use Rattle.mr_history.specs.declared.op_id.OpId.{OpId}
use Rattle.mr_proxy.specs.declared.sheet.LegSheet.{LegSheet}
use Rattle.mr_proxy.specs.declared.error.ProxyError.{ProxyError}
use Rattle.mr_proxy.specs.declared.error.ProxyError.TheVariants.{NoRoom, OutOfMemory, NumbersSpent}
use Rattle.mr_proxy.specs.Slots.{open_slot}
use Rattle.mr_proxy.specs.Sheets.{sheets_by}
use Rattle.mr_proxy.specs.Pending.{PendingView}
use Rattle.mr_proxy.specs.ProxyView.{ProxyView}

-- the larger of a reading and the last one
abbrev pub used_reading : Option ℕ → ℕ → ℕ
used_reading None t = t
used_reading (Some last) t = max last t

-- the name of the request that is issued next
abbrev pub next_op : ProxyView → OpId
next_op p = record { proxy = p.number; incarnation = p.incarnation; number = p.next }

-- the sheets of the next request (from: MigrateRoute for the sides; the rest own)
abbrev pub sheets_of : ProxyView → ℕ → Request → List LegSheet
sheets_of p t request = sheets_by p.routing p.schedule (next_op p) (used_reading p.last t) request

-- the next request as it stands when it was issued
abbrev pub pending_of : ProxyView → ℕ → Request → PendingView
pending_of p t request =
    record { op = next_op p; request = request; reading = used_reading p.last t; slots = map open_slot (sheets_of p t request) }

-- why the next request is refused, memory aside: no number is left, or else no room
abbrev pub refusal_of : ProxyView → Option ProxyError
refusal_of p =
    if p.next == 2 ^ 64 - 1 then Some NumbersSpent
    else if nat_le p.room (length p.outstanding) then Some NoRoom
    else None

-- the refusal, or want of memory where there is none
abbrev pub IsRefusal : Option ProxyError → ProxyError → Type 0
IsRefusal None e = e ≡ OutOfMemory
IsRefusal (Some refusal) e = e ≡ refusal

-- an accepted request is under way, its number is given out, and its reading is the last one
abbrev pub after_issue : ProxyView → ℕ → Request → ProxyView
after_issue p t request =
    record p { next = p.next + 1; last = Some (used_reading p.last t); outstanding = p.outstanding ++ pending_of p t request ∷ [] }
