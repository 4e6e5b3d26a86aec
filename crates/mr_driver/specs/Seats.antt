-- What becomes of a client next.
use Rattle.std.specs.Prelude.{ℕ, Bool, true, false, not, ◌&&◌, ◌||◌, nat_eq, if◌then◌else◌, Option, Some, None}
use Rattle.mr_loop.specs.declared.asking.Pause.{Pause}
use Rattle.mr_driver.specs.declared.flow.Flow.{Flow}
use Rattle.mr_driver.specs.declared.seat.Standing.{Standing}
use Rattle.mr_driver.specs.Times.{has_passed}

-- who needs bytes is read; who needs what others have is held back; who doesn't read its answers isn't read either
abbrev pub standing_after : Pause → Standing
standing_after Pause.NeedsBytes = Standing.Reads
standing_after Pause.NeedsRoom = Standing.Held
standing_after Pause.NeedsReader = Standing.Behind
standing_after (Pause.NeedsQueue number) = Standing.Queued number
standing_after Pause.NeedsMemory = Standing.Starved
standing_after Pause.IsDone = Standing.Done

-- the client is read
abbrev pub is_reading : Standing → Bool
is_reading Standing.Reads = true
is_reading Standing.Held = false
is_reading Standing.Starved = false
is_reading (Standing.Queued number) = false
is_reading Standing.Behind = false
is_reading Standing.Done = false

-- the client is held back, for whatever reason
abbrev pub is_held_in : Standing → Bool
is_held_in Standing.Reads = false
is_held_in Standing.Held = true
is_held_in Standing.Starved = true
is_held_in (Standing.Queued number) = true
is_held_in Standing.Behind = false
is_held_in Standing.Done = false

-- the link for which the client waits
abbrev pub link_of : Standing → Option ℕ
link_of Standing.Reads = None
link_of Standing.Held = None
link_of Standing.Starved = None
link_of (Standing.Queued number) = Some number
link_of Standing.Behind = None
link_of Standing.Done = None

-- both are links, and the same
abbrev pub is_same_link : Option ℕ → Option ℕ → Bool
is_same_link None now = false
is_same_link (Some before) None = false
is_same_link (Some before) (Some now) = nat_eq before now

-- who was tried in vain keeps its place before a link: the same request waits for the same one
abbrev pub keeps_place : Standing → Standing → Bool → Bool
keeps_place was now is_same = is_same && is_same_link (link_of was) (link_of now)

-- how a client stands who is held back by this ticket, where its last one has that number
abbrev pub standing_by : ℕ → ℕ → Standing → Option Standing
standing_by ticket last standing = if nat_eq last ticket && is_held_in standing then Some standing else None

-- it was silent for longer than the bound; and it doesn't take what it is told, or nobody keeps it waiting: it waits for no answer and
-- isn't held back
abbrev pub is_idle_at : Bool → ℕ → ℕ → Standing → Flow → ℕ → Bool
is_idle_at is_waiting bound now standing flow moved_at =
    has_passed bound moved_at now && (flow.is_blocked || not (is_waiting || is_held_in standing))
