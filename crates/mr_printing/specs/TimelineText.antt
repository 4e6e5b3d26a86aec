-- What a timeline prints.
use Rattle.std.specs.Prelude.{ℕ, ◌+◌, ◌==◌, List, [], ◌∷◌, ◌++◌, length, Bool, true, false, if◌then◌else◌, Option, Some, None, codes, decimal, option_map}
use Rattle.std.specs.Borrow.{Bor}
use Rattle.mr_phases.specs.Schedule.{Hop}
use Rattle.mr_phases.specs.declared.phase_name.PhaseName.{PhaseName}
use Rattle.mr_phases.specs.declared.phase_name.PhaseName.TheVariants.{OldOnly, BothReadOld, BothReadNew, NewOnly}
use Rattle.mr_phases.specs.PhaseText.{phase_text}
use Rattle.mr_configs.specs.Config.{ConfigView}
use Rattle.mr_configs.specs.Timeline.{timeline_of, AdviceView, advice_of}
use Rattle.mr_configs.specs.declared.advice.Standing.{Standing}
use Rattle.mr_configs.specs.declared.times.NewOnlyTime.{NewOnlyTime}
use Rattle.mr_configs.specs.declared.times.NewOnlyTime.TheVariants.{Never, Within, Since}
use Rattle.mr_configs.specs.declared.times.PhaseTimes.{PhaseTimes}
use Rattle.mr_configs.specs.declared.times.Span.{Span}
use Rattle.mr_printing.specs.HopText.{told_hop, of_hop, hop_mark}

-- the line of a phase that no second has
abbrev pub none_line : Option ℕ → PhaseName → List ℕ
none_line hop phase = hop_mark hop ++ (phase_text phase ++ codes " none\n")

-- the line of a phase from its first second to its last
abbrev pub span_line : Option ℕ → PhaseName → Span → List ℕ
span_line hop phase span =
    hop_mark hop ++ (phase_text phase ++ (codes " " ++ (decimal span.first ++ (codes " " ++ (decimal span.last ++ codes "\n")))))

-- the line of a phase from its first second on
abbrev pub since_line : Option ℕ → PhaseName → ℕ → List ℕ
since_line hop phase first = hop_mark hop ++ (phase_text phase ++ (codes " " ++ (decimal first ++ codes "\n")))

-- the line of the phase before a hop, which no second has where that starts at 0
abbrev pub old_only_line : Option ℕ → Option Span → List ℕ
old_only_line hop None = none_line hop OldOnly
old_only_line hop (Some span) = span_line hop OldOnly span

-- the line of the phase after a hop, which no second has where the next one starts at once
abbrev pub new_only_line : Option ℕ → NewOnlyTime → List ℕ
new_only_line hop Never = none_line hop NewOnly
new_only_line hop (Within span) = span_line hop NewOnly span
new_only_line hop (Since first) = since_line hop NewOnly first

-- the line of the phase before the hop of a number, which the first hop alone has
abbrev pub before_line : ℕ → Option ℕ → Option Span → List ℕ
before_line number hop old_only = if number == 0 then old_only_line hop old_only else []

-- the phases of the hop of a number, in order, with the hop that each line tells
abbrev pub hop_lines : ℕ → Option ℕ → PhaseTimes → List ℕ
hop_lines number hop times =
    before_line number hop times.old_only
    ++ (span_line hop BothReadOld times.both_read_old ++ (span_line hop BothReadNew times.both_read_new ++ new_only_line hop times.new_only))

-- the phases of so many hops, in order, from the hop of this number on
abbrev pub lines_from : ℕ → ℕ → List PhaseTimes → List ℕ
lines_from hops number [] = []
lines_from hops number (times ∷ later) = hop_lines number (told_hop hops number) times ++ lines_from hops (number + 1) later

-- the phases of each hop, in order
abbrev pub times_text : List PhaseTimes → List ℕ
times_text timeline = lines_from (length timeline) 0 timeline

-- the line of a clock's reading: its place in the list, the reading and its phase, with the hop that is told
abbrev pub reading_line : ℕ → ℕ → PhaseName → Option ℕ → List ℕ
reading_line place reading phase hop =
    codes "reading " ++ (decimal place ++ (codes " " ++ (decimal reading ++ (codes " " ++ (phase_text phase ++ (of_hop hop ++ codes "\n"))))))

-- the lines of readings with where each stands, in one of so many hops; the first has this place
abbrev pub reading_lines : ℕ → ℕ → List ℕ → List Standing → List ℕ
reading_lines hops place (reading ∷ readings) (standing ∷ standings) =
    reading_line place reading standing.phase (told_hop hops standing.hop) ++ reading_lines hops (place + 1) readings standings
reading_lines hops place _ _ = []

-- the end of the line of the spread
abbrev pub near_text : Bool → List ℕ
near_text true = codes " ok\n"
near_text false = codes " too far\n"

-- the line of the spread, the spread that is allowed, and whether it is kept
abbrev pub spread_line : AdviceView → List ℕ
spread_line advice =
    codes "spread " ++ (decimal advice.spread ++ (codes " allowed " ++ (decimal advice.interval ++ near_text advice.near)))

-- a line for each reading, and that of the spread
abbrev pub advice_text : ℕ → List ℕ → AdviceView → List ℕ
advice_text hops readings advice = reading_lines hops 0 readings advice.standings ++ spread_line advice

-- what is said of clocks' readings
abbrev pub advice_on : List Hop → List ℕ → List ℕ
advice_on schedule readings = advice_text (length schedule) readings (advice_of schedule readings)

-- the same, where there are any
abbrev pub advice_given : List Hop → Option (List ℕ) → List ℕ
advice_given schedule None = []
advice_given schedule (Some readings) = advice_on schedule readings

-- the timeline of a schedule, and below it what is said of clocks' readings
abbrev pub timeline_text : List Hop → Option (List ℕ) → List ℕ
timeline_text schedule readings = times_text (timeline_of schedule) ++ advice_given schedule readings

-- the timeline of a configuration, with the readings that were handed in
abbrev pub timeline_shown : ConfigView → Option (Bor (List ℕ)) → List ℕ
timeline_shown config readings = timeline_text config.schedule (option_map (λ numbers. numbers.now) readings)
