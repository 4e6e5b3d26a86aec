-- When the next phase begins, and how far it is.
use Rattle.std.specs.Prelude.{ℕ, ◌+◌, ◌-◌, ◌*◌, ◌/◌, min, nat_lt, Bool, List, ◌++◌, length, take, Option, Some, None, if◌then◌else◌, codes, decimal}
use Rattle.mr_phases.specs.PhaseText.{phase_text}
use Rattle.mr_phases.specs.Schedule.{Hop, hop_of, phase_of, start_at, interval_at}
use Rattle.mr_phases.specs.declared.phase_name.PhaseName.{PhaseName}
use Rattle.mr_phases.specs.declared.phase_name.PhaseName.TheVariants.{OldOnly, BothReadOld, BothReadNew, NewOnly}
use Rattle.mr_watch.specs.Shown.{short, coloured}
use Rattle.mr_watch.specs.declared.next.Next.{Next}
use Rattle.mr_watch.specs.declared.shown.Colour.TheVariants.{Cyan}

-- the phase of a hop that begins so many intervals after its start
abbrev pub next_at : List Hop → ℕ → ℕ → PhaseName → ℕ → Next
next_at hops at hop phase intervals = record {
  hop = hop;
  phase = phase;
  seconds = start_at hops hop + intervals * interval_at hops hop - at;
  interval = interval_at hops hop;
}

-- the phase that follows one of a hop: after the last of a hop the next hop begins, and after that of the last hop nothing follows
abbrev pub next_after : List Hop → ℕ → ℕ → PhaseName → Option Next
next_after hops at hop OldOnly = Some (next_at hops at hop BothReadOld 0)
next_after hops at hop BothReadOld = Some (next_at hops at hop BothReadNew 1)
next_after hops at hop BothReadNew = Some (next_at hops at hop NewOnly 2)
next_after hops at hop NewOnly = if nat_lt (hop + 1) (length hops) then Some (next_at hops at (hop + 1) BothReadOld 0) else None

-- the phase that is next at a second, and when it begins
abbrev pub next_of : List Hop → ℕ → Option Next
next_of hops at = next_after hops at (hop_of hops at) (phase_of hops at)

-- how many cells a bar has
abbrev pub cells : ℕ
cells = 10

-- how many of them are full: of the interval before the next phase what has passed
abbrev pub full_cells : Next → ℕ
full_cells next = cells * (next.interval - next.seconds) / next.interval

-- a bar of which so many cells are full
abbrev pub bar_of : ℕ → List ℕ
bar_of full = codes "[" ++ (take (min full cells) (codes "##########") ++ (take (min (cells - full) cells) (codes "----------") ++ codes "] "))

-- the bar to the next phase
abbrev pub bar_text : Bool → Option Next → List ℕ
bar_text colours None = bar_of cells ++ codes "no phase follows\n"
bar_text colours (Some next) =
    bar_of (full_cells next) ++ (short next.seconds ++ (codes " s to " ++ (coloured colours Cyan (phase_text next.phase) ++
    (codes " of hop " ++ (decimal next.hop ++ codes "\n")))))

-- the second of a look, and what the schedule says of it
abbrev pub moment_text : Bool → ℕ → ℕ → PhaseName → List ℕ
moment_text colours at hop phase =
    codes "second " ++ (decimal at ++ (codes ", hop " ++ (decimal hop ++ (codes ", " ++ (coloured colours Cyan (phase_text phase) ++ codes "\n")))))

-- what the schedule says of a second: its hop and phase, and the bar to the next one
unfoldable pub schedule_text : Bool → List Hop → ℕ → List ℕ
schedule_text colours hops at =
    moment_text colours at (hop_of hops at) (phase_of hops at) ++ bar_text colours (next_of hops at)
