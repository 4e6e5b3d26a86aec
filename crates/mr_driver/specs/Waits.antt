-- How long a loop may wait for events.
use Rattle.std.specs.Prelude.{ℕ, ◌+◌, Bool, false, ◌||◌, ◌&&◌, nat_eq, nat_lt, min, max, if◌then◌else◌, Option, Some, None, option_map}
use Rattle.mr_driver.specs.declared.waits.Waits.{Waits}
use Rattle.mr_driver.specs.Times.{nanos_until, next_at}

-- at once where something can be done; with the next look at the links where something ends at some time; with the next look at the
-- clients where they mustn't be silent; and else for as long as nothing happens
abbrev pub end_in : Waits → Option ℕ
end_in w =
    if w.is_busy then Some w.begin
    else if w.is_timed then Some w.next_tick
    else if w.is_bounded then Some w.next_sweep
    else None

-- until when it may wait that is to wake at a moment: at once where something can be done, and else then at the latest
abbrev pub end_by : ℕ → Waits → ℕ
end_by moment w =
    if w.is_busy then w.begin
    else if w.is_timed then min w.next_tick moment
    else if w.is_bounded then min w.next_sweep moment
    else moment

-- how many nanoseconds it may wait from a moment on
abbrev pub nanos_in : ℕ → Waits → Option ℕ
nanos_in now w = option_map (nanos_until now) (end_in w)

-- it is more than 25 milliseconds later than this end of a wait, if there was one
abbrev pub is_overslept_after : ℕ → ℕ → Option ℕ → Bool
is_overslept_after now before None = false
is_overslept_after now before (Some end) = nat_lt (next_at (max end before) 25000) now

-- it is more than 25 milliseconds later than it was to wait
abbrev pub is_overslept_in : ℕ → Waits → Bool
is_overslept_in now w = is_overslept_after now w.begin (end_in w)

-- for how many turns a loop has been late: none and then one where it was overslept; two after one; and one more after two and more
-- while there is more to be heard or read at once, 64 at most
abbrev pub late_turns_after : ℕ → Bool → Bool → ℕ
late_turns_after turns is_overslept has_more =
    if nat_eq turns 0 then (if is_overslept then 1 else 0)
    else if nat_eq turns 1 || (has_more && nat_lt turns 64) then turns + 1
    else 0
