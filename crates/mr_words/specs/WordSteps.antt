-- What private functions that read words say to one another. No clause of a public call cites these definitions.
use Rattle.std.specs.Prelude.{◌≡◌, ◌≢◌, ⊤, ℕ, true, false, List, Option, Some, None, option_map, Result, Ok, Err, Vec, codes, if◌then◌else◌}
use Rattle.clap.specs.Values.{kind_of}
use Rattle.clap.specs.Words.{Row, first_of, one_of}
use Rattle.clap.specs.declared.error.Error.{Error}
use Rattle.clap.specs.declared.error.kind.ErrorKind.TheVariants.{OutOfMemory, DisplayVersion}
use Rattle.mr_words.specs.Words.{AreReadings, HasTimeline, HasBadReadings, HasWatchValues, HasCanaryValues, Found, FindsCommand, FindsBadReadings, IsRoom, is_forever, is_on_loops}
use Rattle.mr_words.specs.declared.canary_words.CanaryValues.{CanaryValues}
use Rattle.mr_words.specs.declared.watch_words.WatchValues.{WatchValues}
use Rattle.mr_words.specs.declared.words.TimelineValues.{TimelineValues}
use Rattle.mr_words.specs.declared.words.Wanted.{Wanted}
use Rattle.mr_words.specs.declared.words.WordsFault.{WordsFault}
use Rattle.mr_words.specs.declared.words.WordsFault.TheVariants.{Wrong, Version, Readings, Memory}

-- the readings in rows, or that they are no list of numbers
abbrev pub GivesReadings : {Z : Type 0} → List Row → Result (Option (Vec ℕ Z)) WordsFault → Type 0
GivesReadings rows (Ok readings) = AreReadings (first_of (codes "readings") rows) (option_map (λ numbers. numbers.items) readings)
GivesReadings rows (Err Readings) = HasBadReadings rows
GivesReadings rows (Err Memory) = ⊤
GivesReadings rows (Err Version) = ⊥
GivesReadings rows (Err (Wrong error)) = ⊥

-- the timeline of rows, or why they hold none
abbrev pub GivesTimeline : List Row → Result (Option TimelineValues) WordsFault → Type 0
GivesTimeline rows (Ok (Some values)) = HasTimeline rows values
GivesTimeline rows (Ok None) = ((values : TimelineValues) → ¬ HasTimeline rows values) × ¬ HasBadReadings rows
GivesTimeline rows (Err Readings) = HasBadReadings rows
GivesTimeline rows (Err Memory) = ⊤
GivesTimeline rows (Err Version) = ⊥
GivesTimeline rows (Err (Wrong error)) = ⊥

-- the values of a watch in rows, or that they hold none
abbrev pub GivesWatch : List Row → Option WatchValues → Type 0
GivesWatch rows (Some values) = HasWatchValues rows values
GivesWatch rows None = (values : WatchValues) → ¬ HasWatchValues rows values

-- the values of a canary in rows, or that they hold none
abbrev pub GivesCanary : List Row → Option CanaryValues → Type 0
GivesCanary rows (Some values) = HasCanaryValues rows values
GivesCanary rows None = (values : CanaryValues) → ¬ HasCanaryValues rows values

-- the command of what was found, or why that is none
abbrev pub GivesCommand : Found → Result (Option Wanted) WordsFault → Type 0
GivesCommand found (Ok (Some wanted)) = FindsCommand found wanted
GivesCommand found (Ok None) = ((wanted : Wanted) → ¬ FindsCommand found wanted) × ¬ FindsBadReadings found
GivesCommand found (Err Readings) = FindsBadReadings found
GivesCommand found (Err Memory) = ⊤
GivesCommand found (Err Version) = ⊥
GivesCommand found (Err (Wrong error)) = ⊥

-- the fault that an error of `clap` becomes
abbrev pub IsFaultOf : Error → WordsFault → Type 0
IsFaultOf error (Wrong text) = (kind_of error ≢ OutOfMemory) × (kind_of error ≢ DisplayVersion)
IsFaultOf error Version = kind_of error ≡ DisplayVersion
IsFaultOf error Memory = kind_of error ≡ OutOfMemory
IsFaultOf error Readings = ⊥

-- what is said where `explain` names no fault
abbrev pub no_such_fault : List ℕ
no_such_fault = codes "no layer of this name has a fault of this number: 'migctl explain --help' names the layers"

-- what is said where a service is given `--forever` beside what it stands in place of
abbrev pub both_given : List ℕ
both_given = codes "'--forever' stands in place of '--clients' and '--turns', and neither goes with it"

-- what is said where a service by threads is given what says something of loops alone
abbrev pub no_loops : List ℕ
no_loops = codes "'--loops', '--max-clients' and '--quiet' go with '--forever' or '--metrics'"

-- what is said where a proxy on loops is given no room
abbrev pub no_room : List ℕ
no_room = codes "'--room' is at least 1 with '--forever' or '--metrics'"

-- what is said where a service that tells its metrics is given a number of turns
abbrev pub no_turns : List ℕ
no_turns = codes "'--turns' doesn't go with '--metrics'"

-- why rows hold no values of a node, though each of its words is taken: what says something of loops is given to one by threads, or
-- one on loops is bounded though it goes on for good
abbrev pub why_no_node : List Row → List ℕ
why_no_node rows = if is_on_loops rows then (if is_forever rows then both_given else no_turns) else no_loops

-- why they hold none of a proxy: one on loops has no room, or else it is as with a node
pub record SaysWhyNoProxy (rows : List Row) (text : List ℕ) : Type 0 where
  pub threads : is_on_loops rows ≡ false → text ≡ why_no_node rows
  pub room : is_on_loops rows ≡ true → ((room : ℕ) → ¬ IsRoom true (one_of (codes "room") rows) room) → text ≡ no_room
  pub bounds : is_on_loops rows ≡ true → (room : ℕ) → IsRoom true (one_of (codes "room") rows) room → text ≡ why_no_node rows

-- what is said where a canary is given a number of seconds beside what stands in place of it
abbrev pub both_spans : List ℕ
both_spans = codes "'--until-migrated' stands in place of '--seconds', and doesn't go with it"

-- what is said where `plan` is given neither of its forms, or parts of both
abbrev pub neither_form : List ℕ
neither_form = codes "'plan' takes --config and --at, or six words of which the fifth is sum or fnv1a32: 'migctl plan --help' shows both"
