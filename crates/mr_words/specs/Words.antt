-- What the words of the command line say.
use Rattle.std.specs.Prelude.{◌≡◌, ◌≢◌, ℕ, ◌<◌, ◌≤◌, ◌^◌, ◌==◌, ◌||◌, ◌⊎◌, ⊤, Bool, true, false, not, List, [], ◌∷◌, map, max, min, Option, Some, None, is_some, option_map, unwrap_or, Result, Ok, Err, codes}
use Rattle.std.specs.Borrow.{Bor}
use Rattle.std.specs.List.{slice_split}
use Rattle.std.specs.Option.{option_map_or}
use Rattle.std.specs.Str.{bytes_eq}
use Rattle.std.specs.Str.Parse.{IsNumeral, digits_value, without_leading_plus}
use Rattle.clap.specs.Words.{IsAmong, Row, Text, all_of, fault_of, first_of, one_of, subcommand_of}
use Rattle.clap.specs.declared.error.kind.ErrorKind.TheVariants.{DisplayVersion}
use Rattle.mr_pools.specs.Hash.{name_of_hash}
use Rattle.mr_words.specs.Command.{program_app}
use Rattle.mr_words.specs.Explain.{Told, told_by, explanation_of}
use Rattle.mr_words.specs.declared.canary_words.CanaryValues.{CanaryValues}
use Rattle.mr_words.specs.declared.canary_words.Span.{Span}
use Rattle.mr_words.specs.declared.canary_words.Span.TheVariants.{Seconds, UntilMigrated}
use Rattle.mr_words.specs.declared.loop_words.LoopValues.{LoopValues}
use Rattle.mr_words.specs.declared.plan_words.MigrationWords.{MigrationWords}
use Rattle.mr_words.specs.declared.plan_words.PlanValues.{PlanValues}
use Rattle.mr_words.specs.declared.plan_words.Planned.{Planned}
use Rattle.mr_words.specs.declared.plan_words.Planned.TheVariants.{InFile, InWords}
use Rattle.mr_words.specs.declared.service_words.NodeValues.{NodeValues}
use Rattle.mr_words.specs.declared.service_words.ProxyValues.{ProxyValues}
use Rattle.mr_words.specs.declared.watch_words.WatchValues.{WatchValues}
use Rattle.mr_words.specs.declared.words.TimelineValues.{TimelineValues}
use Rattle.mr_words.specs.declared.words.Wanted.{Wanted}
use Rattle.mr_words.specs.declared.words.Wanted.TheVariants.{Plan, Timeline, Run, Check, Draw, Upgrade, Node, Proxy, Watch, Canary, Explain}
use Rattle.mr_words.specs.declared.words.WordsFault.{WordsFault}
use Rattle.mr_words.specs.declared.words.WordsFault.TheVariants.{Wrong, Version, Readings, Memory}

-- the word is this number, in decimal digits, with or without a plus sign before them
pub record IsNumberWord (word : List ℕ) (number : ℕ) : Type 0 where
  pub digits : IsNumeral 10 (without_leading_plus word)
  pub value : number ≡ digits_value 10 (without_leading_plus word)
  pub fits : number < 2 ^ 64

-- the words are these numbers, one by one
abbrev pub AreNumberWords : List Text → List ℕ → Type 0
AreNumberWords [] [] = ⊤
AreNumberWords (word ∷ words) (number ∷ numbers) = IsNumberWord word number × AreNumberWords words numbers
AreNumberWords _ _ = ⊥

-- the members of a list: what stands between its commas, empty members too
abbrev pub members_of : Text → List Text
members_of text = slice_split (λ byte. byte == 44) text

-- the text is a list of these numbers
abbrev pub IsNumberList : Text → List ℕ → Type 0
IsNumberList text numbers = AreNumberWords (members_of text) numbers

-- the text of an option that may be left out is a list of these numbers
abbrev pub AreReadings : Option Text → Option (List ℕ) → Type 0
AreReadings None None = ⊤
AreReadings (Some text) (Some numbers) = IsNumberList text numbers
AreReadings _ _ = ⊥

-- the readings among the values of a timeline
abbrev pub readings_in : TimelineValues → Option (List ℕ)
readings_in values = option_map (λ numbers. numbers.items) values.readings

-- the text of an option or the path of a file, if there was one
abbrev pub path_in : Option (Bor (List ℕ)) → Option (List ℕ)
path_in file = option_map (λ path. path.now) file

-- the rows that a parse found hold this number under this name
pub record IsNumberIn (name : Text) (rows : List Row) (number : ℕ) : Type 0 where
  pub word : Text
  pub is_row : one_of name rows ≡ Some word
  pub is_number : IsNumberWord word number

-- the rows that a parse found hold the file and the second of a plan
pub record HasOptions (rows : List Row) (path : Text) (at : ℕ) : Type 0 where
  pub config_is : first_of (codes "config") rows ≡ Some path
  pub at_is : IsNumberIn (codes "at") rows at

-- they hold neither
pub record LacksOptions (rows : List Row) : Type 0 where
  pub no_config : first_of (codes "config") rows ≡ None
  pub no_at : first_of (codes "at") rows ≡ None

-- they hold the six words that say a migration and the second of its plan: two pools, two numbers, the name of a hash, a number
pub record HasSixWords (rows : List Row) (words : MigrationWords) (at : ℕ) : Type 0 where
  pub old_is : first_of (codes "old") rows ≡ Some words.old.now
  pub new_is : first_of (codes "new") rows ≡ Some words.new.now
  pub start_is : IsNumberIn (codes "start") rows words.start
  pub interval_is : IsNumberIn (codes "interval") rows words.interval
  pub hash_is : first_of (codes "hash") rows ≡ Some (name_of_hash words.hash)
  pub at_is : IsNumberIn (codes "second") rows at

-- they hold none of the six, of which none stands there without the first
abbrev pub LacksSixWords : List Row → Type 0
LacksSixWords rows = first_of (codes "old") rows ≡ None

-- they hold one of the two forms of a plan, and nothing of the other
abbrev pub HasPlanned : List Row → Planned → ℕ → Type 0
HasPlanned rows (InFile path) at = HasOptions rows path.now at × LacksSixWords rows
HasPlanned rows (InWords words) at = HasSixWords rows words at × LacksOptions rows

-- the rows that a parse found hold the values of a plan
abbrev pub HasPlan : List Row → PlanValues → Type 0
HasPlan rows values = HasPlanned rows values.planned values.at

-- the rows that a parse found hold the values of a timeline
pub record HasTimeline (rows : List Row) (values : TimelineValues) : Type 0 where
  pub config_is : first_of (codes "config") rows ≡ Some values.config.now
  pub readings_are : AreReadings (first_of (codes "readings") rows) (readings_in values)

-- the rows that a parse found have readings that are no list of numbers
pub record HasBadReadings (rows : List Row) : Type 0 where
  pub text : List ℕ
  pub is : first_of (codes "readings") rows ≡ Some text
  pub bad : (numbers : List ℕ) → ¬ IsNumberList text numbers

-- the rows that a parse found name this file, or none
abbrev pub HasFile : List Row → Option Text → Type 0
HasFile rows file = first_of (codes "file") rows ≡ file

-- how many items a node holds, where its words don't say it
abbrev pub usual_capacity : ℕ
usual_capacity = 1024

-- how many clients are served, where the words don't say it
abbrev pub usual_clients : ℕ
usual_clients = 1

-- how many reads are made of a connection, where the words don't say it
abbrev pub usual_turns : ℕ
usual_turns = 1000000

-- how many requests may be under way in a proxy by threads, where its words don't say it
abbrev pub usual_room : ℕ
usual_room = 64

-- how many requests may be under way in each loop, where the words don't say it
abbrev pub usual_loop_room : ℕ
usual_loop_room = 4096

-- how many clients are served at once, where the words don't say it
abbrev pub usual_max_clients : ℕ
usual_max_clients = 10000

-- the most loops of a service
abbrev pub most_loops : ℕ
most_loops = 64

-- the most loops of a service whose words don't say how many
abbrev pub usual_loops : ℕ
usual_loops = 4

-- how many milliseconds a leg may wait for its node at a time, where its words don't say it
abbrev pub usual_leg_timeout : ℕ
usual_leg_timeout = 5000

-- how many seconds a client may be silent, where the words don't say it: as many as it likes
abbrev pub usual_idle_timeout : ℕ
usual_idle_timeout = 0

-- the word of an option is this number, or the option is left out and the number is the usual one
abbrev pub IsNumberOr : ℕ → Option Text → ℕ → Type 0
IsNumberOr usual None number = number ≡ usual
IsNumberOr usual (Some word) number = IsNumberWord word number

-- how many clients are served, and how many reads are made of each, where that goes on for good
abbrev pub without_end : ℕ
without_end = 18446744073709551615

-- the flag of this name was given
abbrev pub has_flag : Text → List Row → Bool
has_flag id rows = option_map_or (λ word. bytes_eq word (codes "true")) (first_of id rows) false

-- the flag `--forever` was given
abbrev pub is_forever : List Row → Bool
is_forever rows = has_flag (codes "forever") rows

-- a service runs on loops: with `--forever`, and with `--metrics`
abbrev pub is_on_loops : List Row → Bool
is_on_loops rows = is_forever rows || is_some (first_of (codes "metrics") rows)

-- The number of an option that bounds nothing that goes on for good: there the option is left out, and the number is the
-- greatest one; else it is as the option says.
abbrev pub IsBoundOr : ℕ → Bool → Option Text → ℕ → Type 0
IsBoundOr usual true None number = number ≡ without_end
IsBoundOr usual true (Some word) number = ⊥
IsBoundOr usual false word number = IsNumberOr usual word number

-- how many requests may be under way in a proxy, in each of its loops if it runs on loops: at least one in a loop
abbrev pub IsRoom : Bool → Option Text → ℕ → Type 0
IsRoom false word room = IsNumberOr usual_room word room
IsRoom true word room = IsNumberOr usual_loop_room word room × (1 ≤ room)

-- the number of an option, if it isn't left out
abbrev pub IsNumberIfGiven : Option Text → Option ℕ → Type 0
IsNumberIfGiven None None = ⊤
IsNumberIfGiven (Some word) (Some number) = IsNumberWord word number
IsNumberIfGiven _ _ = ⊥

-- the rows that a parse found hold the values of a service on loops, of which nothing is said with `--quiet` and without `--forever`
pub record HasLoopValues (rows : List Row) (values : LoopValues) : Type 0 where
  pub loops_are : IsNumberIfGiven (one_of (codes "loops") rows) values.loops
  pub most_are : IsNumberOr usual_max_clients (one_of (codes "max-clients") rows) values.max_clients
  pub quiet_is : values.quiet ≡ (has_flag (codes "quiet") rows || not (is_forever rows))

-- they hold none of what is said of loops alone
pub record LacksLoopValues (rows : List Row) : Type 0 where
  pub no_loops : first_of (codes "loops") rows ≡ None
  pub no_most : first_of (codes "max-clients") rows ≡ None
  pub no_quiet : has_flag (codes "quiet") rows ≡ false

-- they hold the values of a service on loops, or none where it runs by threads
abbrev pub AreLoopValues : List Row → Option LoopValues → Type 0
AreLoopValues rows None = (is_on_loops rows ≡ false) × LacksLoopValues rows
AreLoopValues rows (Some values) = (is_on_loops rows ≡ true) × HasLoopValues rows values

-- how many loops a service has on a machine of so many processors: as many as the words say, or else one for each processor, but four
-- at most; one at least
abbrev pub loop_count : LoopValues → ℕ → ℕ
loop_count values processors = max 1 (min (unwrap_or values.loops (min processors usual_loops)) most_loops)

-- the rows that a parse found hold the values of a node
pub record HasNodeValues (rows : List Row) (values : NodeValues) : Type 0 where
  pub listen_is : first_of (codes "listen") rows ≡ Some values.listen.now
  pub capacity_is : IsNumberOr usual_capacity (one_of (codes "capacity") rows) values.capacity
  pub clients_is : IsBoundOr usual_clients (is_forever rows) (one_of (codes "clients") rows) values.clients
  pub turns_is : IsBoundOr usual_turns (is_on_loops rows) (one_of (codes "turns") rows) values.turns
  pub idle_is : IsNumberOr usual_idle_timeout (one_of (codes "idle-timeout") rows) values.idle_timeout
  pub metrics_is : first_of (codes "metrics") rows ≡ path_in values.metrics
  pub loops_are : AreLoopValues rows values.on_loops

-- the rows that a parse found hold the values of a proxy
pub record HasProxyValues (rows : List Row) (values : ProxyValues) : Type 0 where
  pub config_is : first_of (codes "config") rows ≡ Some values.config.now
  pub listen_is : first_of (codes "listen") rows ≡ Some values.listen.now
  pub room_is : IsRoom (is_on_loops rows) (one_of (codes "room") rows) values.room
  pub clients_is : IsBoundOr usual_clients (is_forever rows) (one_of (codes "clients") rows) values.clients
  pub turns_is : IsBoundOr usual_turns (is_on_loops rows) (one_of (codes "turns") rows) values.turns
  pub leg_is : IsNumberOr usual_leg_timeout (one_of (codes "leg-timeout") rows) values.leg_timeout
  pub idle_is : IsNumberOr usual_idle_timeout (one_of (codes "idle-timeout") rows) values.idle_timeout
  pub metrics_is : first_of (codes "metrics") rows ≡ path_in values.metrics
  pub loops_are : AreLoopValues rows values.on_loops

-- where services tell their metrics, among the values of a watch
abbrev pub addresses_in : WatchValues → List Text
addresses_in values = map (λ address. address.now) values.addresses.items

-- the rows that a parse found hold the values of a watch
pub record HasWatchValues (rows : List Row) (values : WatchValues) : Type 0 where
  pub config_is : first_of (codes "config") rows ≡ Some values.config.now
  pub once_is : values.once ≡ has_flag (codes "once") rows
  pub json_is : values.json ≡ has_flag (codes "json") rows
  pub addresses_are : all_of (codes "address") rows ≡ Some (addresses_in values)

-- how many seconds a canary flies, where its words don't say it
abbrev pub usual_seconds : ℕ
usual_seconds = 60

-- how many clients a canary has at each proxy, where its words don't say it
abbrev pub usual_canary_clients : ℕ
usual_canary_clients = 2

-- how many keys its clients share, where its words don't say it
abbrev pub usual_keys : ℕ
usual_keys = 64

-- how many requests it sends in a second, where its words don't say it
abbrev pub usual_rate : ℕ
usual_rate = 200

-- what its keys begin with, where its words don't say it
abbrev pub usual_prefix : Text
usual_prefix = codes "migctl-canary-"

-- the flag `--until-migrated` was given
abbrev pub is_until_migrated : List Row → Bool
is_until_migrated rows = has_flag (codes "until-migrated") rows

-- how long a canary flies: until what is migrated is, where the words say that and no number of seconds, and else so many seconds
abbrev pub IsSpan : List Row → Span → Type 0
IsSpan rows (Seconds number) = (is_until_migrated rows ≡ false) × IsNumberOr usual_seconds (one_of (codes "seconds") rows) number
IsSpan rows UntilMigrated = (is_until_migrated rows ≡ true) × (first_of (codes "seconds") rows ≡ None)

-- what the keys of a canary begin with
abbrev pub prefix_given : List Row → Text
prefix_given rows = unwrap_or (first_of (codes "prefix") rows) usual_prefix

-- where proxies serve clients, among the values of a canary
abbrev pub proxies_in : CanaryValues → List Text
proxies_in values = map (λ proxy. proxy.now) values.proxies.items

-- the rows that a parse found hold the values of a canary
pub record HasCanaryValues (rows : List Row) (values : CanaryValues) : Type 0 where
  pub config_is : first_of (codes "config") rows ≡ Some values.config.now
  pub span_is : IsSpan rows values.span
  pub clients_are : IsNumberOr usual_canary_clients (one_of (codes "clients") rows) values.clients
  pub keys_are : IsNumberOr usual_keys (one_of (codes "keys") rows) values.keys
  pub rate_is : IsNumberOr usual_rate (one_of (codes "rate") rows) values.rate
  pub prefix_is : values.prefix.now ≡ prefix_given rows
  pub json_is : values.json ≡ has_flag (codes "json") rows
  pub proxies_are : all_of (codes "proxy") rows ≡ Some (proxies_in values)

-- the rows that a parse found name a refusal that is told of
pub record HasExplanation (rows : List Row) (told : Told) : Type 0 where
  pub number : List ℕ
  pub layer_is : first_of (codes "layer") rows ≡ Some told.layer
  pub number_row : one_of (codes "number") rows ≡ Some number
  pub number_is : IsNumberWord number told.number
  pub is_told : explanation_of told.layer told.number ≡ Some told

-- what a parse found: the name of a command, and its rows
abbrev pub Found : Type 0
Found = Option (Text × List Row)

-- the command of this name was found, with rows of which this holds
abbrev pub FindsRows : Text → (List Row → Type 0) → Found → Type 0
FindsRows name holds found = (rows : List Row) × (found ≡ Some (name, rows)) × holds rows

-- this command was found
abbrev pub FindsCommand : Found → Wanted → Type 0
FindsCommand found (Plan values) = FindsRows (codes "plan") (λ rows. HasPlan rows values) found
FindsCommand found (Timeline values) = FindsRows (codes "timeline") (λ rows. HasTimeline rows values) found
FindsCommand found (Run file) = FindsRows (codes "run") (λ rows. HasFile rows (path_in file)) found
FindsCommand found (Check file) = FindsRows (codes "check") (λ rows. HasFile rows (path_in file)) found
FindsCommand found (Draw file) = FindsRows (codes "draw") (λ rows. HasFile rows (path_in file)) found
FindsCommand found (Upgrade file) = FindsRows (codes "upgrade") (λ rows. HasFile rows (path_in file)) found
FindsCommand found (Node values) = FindsRows (codes "node") (λ rows. HasNodeValues rows values) found
FindsCommand found (Proxy values) = FindsRows (codes "proxy") (λ rows. HasProxyValues rows values) found
FindsCommand found (Watch values) = FindsRows (codes "watch") (λ rows. HasWatchValues rows values) found
FindsCommand found (Canary values) = FindsRows (codes "canary") (λ rows. HasCanaryValues rows values) found
FindsCommand found (Explain explanation) = FindsRows (codes "explain") (λ rows. HasExplanation rows (told_by explanation)) found

-- a timeline was found whose readings are no list of numbers
abbrev pub FindsBadReadings : Found → Type 0
FindsBadReadings found = FindsRows (codes "timeline") HasBadReadings found

-- the program's command line finds no fault in the words, and of what it finds in them this holds
pub record SayWhat (words : List Text) (holds : Found → Type 0) : Type 0 where
  pub fits : fault_of program_app words ≡ []
  pub finds : holds (subcommand_of program_app words)

-- the words are this command
abbrev pub Say : List Text → Wanted → Type 0
Say words wanted = SayWhat words (λ found. FindsCommand found wanted)

-- the words are a timeline whose readings are no list of numbers
abbrev pub SayBadReadings : List Text → Type 0
SayBadReadings words = SayWhat words FindsBadReadings

-- the words call for the version: the program's command line finds that in them
abbrev pub SayVersion : List Text → Type 0
SayVersion words = IsAmong DisplayVersion (fault_of program_app words)

-- it finds nothing else in them
abbrev pub SayVersionAlone : List Text → Type 0
SayVersionAlone words = fault_of program_app words ≡ DisplayVersion ∷ []

-- the words say no command, nor one with such readings, and a call for the version isn't all that they are
pub record SayNothing (words : List Text) : Type 0 where
  pub no_command : (wanted : Wanted) → ¬ Say words wanted
  pub no_readings : ¬ SayBadReadings words
  pub no_version : ¬ SayVersionAlone words

-- What comes of reading words: the command that they say, or that they call for the version, or that their readings are no
-- list of numbers, or that they say none of these, unless memory is refused.
abbrev pub ReadsWords : List Text → Result Wanted WordsFault → Type 0
ReadsWords words (Ok wanted) = Say words wanted
ReadsWords words (Err (Wrong error)) = SayNothing words
ReadsWords words (Err Version) = SayVersion words
ReadsWords words (Err Readings) = SayBadReadings words
ReadsWords words (Err Memory) = ⊤

-- the word is no option: it doesn't begin with a hyphen
abbrev pub IsNoOption : Text → Type 0
IsNoOption [] = ⊤
IsNoOption (byte ∷ _) = byte ≢ 45

-- the words are `plan` and its two options, and the file's name doesn't look like an option
pub record SaysFilePlan (words : List Text) (path : Text) (second : ℕ) : Type 0 where
  pub at : Text
  pub words_are : words ≡ codes "plan" ∷ codes "--config" ∷ path ∷ codes "--at" ∷ at ∷ []
  pub at_is : IsNumberWord at second
  pub config_is_none : IsNoOption path

-- the words are `plan` and the six that say a migration and a second, and no pool looks like an option
pub record SaysSixWords (words : List Text) (migration : MigrationWords) (second : ℕ) : Type 0 where
  pub start : Text
  pub interval : Text
  pub at : Text
  pub words_are : words ≡ codes "plan" ∷ migration.old.now ∷ migration.new.now ∷ start ∷ interval ∷ name_of_hash migration.hash ∷ at ∷ []
  pub start_is : IsNumberWord start migration.start
  pub interval_is : IsNumberWord interval migration.interval
  pub at_is : IsNumberWord at second
  pub old_is_none : IsNoOption migration.old.now
  pub new_is_none : IsNoOption migration.new.now

-- the words plainly are one of the two forms of a plan
abbrev pub SaysPlan : List Text → Planned → ℕ → Type 0
SaysPlan words (InFile path) at = SaysFilePlan words path.now at
SaysPlan words (InWords migration) at = SaysSixWords words migration at

-- the words are `timeline` and its options, of which the readings may be left out, and no value looks like an option
abbrev pub SaysTimeline : List Text → Text → Option Text → Type 0
SaysTimeline words config None = (words ≡ codes "timeline" ∷ codes "--config" ∷ config ∷ []) × IsNoOption config
SaysTimeline words config (Some readings) =
    (words ≡ codes "timeline" ∷ codes "--config" ∷ config ∷ codes "--readings" ∷ readings ∷ []) × IsNoOption config × IsNoOption readings

-- the words are the command's name and a file, which may be left out, and its name doesn't look like an option
abbrev pub SaysFile : Text → List Text → Option Text → Type 0
SaysFile name words None = words ≡ name ∷ []
SaysFile name words (Some file) = (words ≡ name ∷ file ∷ []) × IsNoOption file

-- the words are `node` and where it listens, which doesn't look like an option, and the numbers are the usual ones
pub record SaysNodeAlone (words : List Text) (values : NodeValues) : Type 0 where
  pub words_are : words ≡ codes "node" ∷ codes "--listen" ∷ values.listen.now ∷ []
  pub listen_is_none : IsNoOption values.listen.now
  pub capacity_is : values.capacity ≡ usual_capacity
  pub clients_is : values.clients ≡ usual_clients
  pub turns_is : values.turns ≡ usual_turns
  pub idle_is : values.idle_timeout ≡ usual_idle_timeout
  pub metrics_is : values.metrics ≡ None
  pub loops_are : values.on_loops ≡ None

-- the words are `node`, where it listens and its three numbers, and where it listens doesn't look like an option
pub record SaysNode (words : List Text) (values : NodeValues) : Type 0 where
  pub capacity : Text
  pub clients : Text
  pub turns : Text
  pub words_are : words ≡ codes "node" ∷ codes "--listen" ∷ values.listen.now ∷ codes "--capacity" ∷ capacity
      ∷ codes "--clients" ∷ clients ∷ codes "--turns" ∷ turns ∷ []
  pub listen_is_none : IsNoOption values.listen.now
  pub capacity_is : IsNumberWord capacity values.capacity
  pub clients_is : IsNumberWord clients values.clients
  pub turns_is : IsNumberWord turns values.turns
  pub idle_is : values.idle_timeout ≡ usual_idle_timeout
  pub metrics_is : values.metrics ≡ None
  pub loops_are : values.on_loops ≡ None

-- what a service on loops has whose words say nothing of its loops
abbrev pub usual_loop_values : LoopValues
usual_loop_values = record { loops = None; max_clients = usual_max_clients; quiet = false }

-- the words are `node`, where it listens, how many items it holds, and `--forever`, and where it listens doesn't look like an
-- option
pub record SaysNodeForever (words : List Text) (values : NodeValues) : Type 0 where
  pub capacity : Text
  pub words_are : words ≡ codes "node" ∷ codes "--listen" ∷ values.listen.now ∷ codes "--capacity" ∷ capacity ∷ codes "--forever" ∷ []
  pub listen_is_none : IsNoOption values.listen.now
  pub capacity_is : IsNumberWord capacity values.capacity
  pub clients_is : values.clients ≡ without_end
  pub turns_is : values.turns ≡ without_end
  pub idle_is : values.idle_timeout ≡ usual_idle_timeout
  pub metrics_is : values.metrics ≡ None
  pub loops_are : values.on_loops ≡ Some usual_loop_values

-- the words are `proxy`, the file's name and where it listens, neither of which looks like an option, and the numbers are
-- the usual ones
pub record SaysProxyAlone (words : List Text) (values : ProxyValues) : Type 0 where
  pub words_are : words ≡ codes "proxy" ∷ codes "--config" ∷ values.config.now ∷ codes "--listen" ∷ values.listen.now ∷ []
  pub config_is_none : IsNoOption values.config.now
  pub listen_is_none : IsNoOption values.listen.now
  pub room_is : values.room ≡ usual_room
  pub clients_is : values.clients ≡ usual_clients
  pub turns_is : values.turns ≡ usual_turns
  pub leg_is : values.leg_timeout ≡ usual_leg_timeout
  pub idle_is : values.idle_timeout ≡ usual_idle_timeout
  pub metrics_is : values.metrics ≡ None
  pub loops_are : values.on_loops ≡ None

-- the words are `proxy`, the file's name, where it listens and its three numbers, and neither the file's name nor where it listens looks like an option
pub record SaysProxy (words : List Text) (values : ProxyValues) : Type 0 where
  pub room : Text
  pub clients : Text
  pub turns : Text
  pub words_are : words ≡ codes "proxy" ∷ codes "--config" ∷ values.config.now ∷ codes "--listen" ∷ values.listen.now
      ∷ codes "--room" ∷ room ∷ codes "--clients" ∷ clients ∷ codes "--turns" ∷ turns ∷ []
  pub config_is_none : IsNoOption values.config.now
  pub listen_is_none : IsNoOption values.listen.now
  pub room_is : IsNumberWord room values.room
  pub clients_is : IsNumberWord clients values.clients
  pub turns_is : IsNumberWord turns values.turns
  pub leg_is : values.leg_timeout ≡ usual_leg_timeout
  pub idle_is : values.idle_timeout ≡ usual_idle_timeout
  pub metrics_is : values.metrics ≡ None
  pub loops_are : values.on_loops ≡ None

-- the words are `proxy`, the file's name, where it listens, how many requests may be under way, one at least, and `--forever`, and
-- neither the file's name nor where it listens looks like an option
pub record SaysProxyForever (words : List Text) (values : ProxyValues) : Type 0 where
  pub room : Text
  pub words_are : words ≡ codes "proxy" ∷ codes "--config" ∷ values.config.now ∷ codes "--listen" ∷ values.listen.now
      ∷ codes "--room" ∷ room ∷ codes "--forever" ∷ []
  pub config_is_none : IsNoOption values.config.now
  pub listen_is_none : IsNoOption values.listen.now
  pub room_is : IsNumberWord room values.room
  pub room_fits : 1 ≤ values.room
  pub clients_is : values.clients ≡ without_end
  pub turns_is : values.turns ≡ without_end
  pub leg_is : values.leg_timeout ≡ usual_leg_timeout
  pub idle_is : values.idle_timeout ≡ usual_idle_timeout
  pub metrics_is : values.metrics ≡ None
  pub loops_are : values.on_loops ≡ Some usual_loop_values

-- the words are `watch`, the file's name and one address, neither of which looks like an option, and looks go on, as text
pub record SaysWatch (words : List Text) (values : WatchValues) : Type 0 where
  pub address : Text
  pub words_are : words ≡ codes "watch" ∷ codes "--config" ∷ values.config.now ∷ address ∷ []
  pub config_is_none : IsNoOption values.config.now
  pub address_is_none : IsNoOption address
  pub once_is : values.once ≡ false
  pub json_is : values.json ≡ false
  pub addresses_are : addresses_in values ≡ address ∷ []

-- what words of a canary say in any case: seconds are told as text, of the usual clients and keys
pub record IsUsualCanary (values : CanaryValues) (proxy : Text) : Type 0 where
  pub clients_are : values.clients ≡ usual_canary_clients
  pub keys_are : values.keys ≡ usual_keys
  pub rate_is : values.rate ≡ usual_rate
  pub prefix_is : values.prefix.now ≡ usual_prefix
  pub json_is : values.json ≡ false
  pub proxies_are : proxies_in values ≡ proxy ∷ []

-- the words are `canary`, the file's name and one proxy, neither of which looks like an option, and the values are the usual ones
pub record SaysCanaryAlone (words : List Text) (values : CanaryValues) : Type 0 where
  pub proxy : Text
  pub words_are : words ≡ codes "canary" ∷ codes "--config" ∷ values.config.now ∷ proxy ∷ []
  pub config_is_none : IsNoOption values.config.now
  pub proxy_is_none : IsNoOption proxy
  pub span_is : values.span ≡ Seconds usual_seconds
  pub usual : IsUsualCanary values proxy

-- the words are `canary`, the file's name, `--until-migrated` and one proxy, and neither the file's name nor the proxy looks like an
-- option
pub record SaysCanaryUntilMigrated (words : List Text) (values : CanaryValues) : Type 0 where
  pub proxy : Text
  pub words_are : words ≡ codes "canary" ∷ codes "--config" ∷ values.config.now ∷ codes "--until-migrated" ∷ proxy ∷ []
  pub config_is_none : IsNoOption values.config.now
  pub proxy_is_none : IsNoOption proxy
  pub span_is : values.span ≡ UntilMigrated
  pub usual : IsUsualCanary values proxy

-- the words plainly are one of the two forms of a canary
abbrev pub SaysCanary : List Text → CanaryValues → Type 0
SaysCanary words values = SaysCanaryAlone words values ⊎ SaysCanaryUntilMigrated words values

-- the words are `explain`, and the layer and the number of a refusal that is told of
pub record SaysExplain (words : List Text) (told : Told) : Type 0 where
  pub number : Text
  pub words_are : words ≡ codes "explain" ∷ told.layer ∷ number ∷ []
  pub number_is : IsNumberWord number told.number
  pub is_told : explanation_of told.layer told.number ≡ Some told

-- the words plainly are this command
abbrev pub SaysPlainly : List Text → Wanted → Type 0
SaysPlainly words (Plan values) = SaysPlan words values.planned values.at
SaysPlainly words (Timeline values) =
    (readings : Option Text) × SaysTimeline words values.config.now readings × AreReadings readings (readings_in values)
SaysPlainly words (Run file) = SaysFile (codes "run") words (path_in file)
SaysPlainly words (Check file) = SaysFile (codes "check") words (path_in file)
SaysPlainly words (Draw file) = SaysFile (codes "draw") words (path_in file)
SaysPlainly words (Upgrade file) = SaysFile (codes "upgrade") words (path_in file)
SaysPlainly words (Node values) = SaysNodeAlone words values ⊎ SaysNode words values ⊎ SaysNodeForever words values
SaysPlainly words (Proxy values) = SaysProxyAlone words values ⊎ SaysProxy words values ⊎ SaysProxyForever words values
SaysPlainly words (Watch values) = SaysWatch words values
SaysPlainly words (Canary values) = SaysCanary words values
SaysPlainly words (Explain explanation) = SaysExplain words (told_by explanation)

-- both plan for the same: for the migrations of one file, or for one migration of the same words
abbrev pub SamePlanned : Planned → Planned → Type 0
SamePlanned (InFile path) (InFile read) = read.now ≡ path.now
SamePlanned (InWords words) (InWords read) = (read.old.now ≡ words.old.now) × (read.new.now ≡ words.new.now)
    × (read.start ≡ words.start) × (read.interval ≡ words.interval) × (read.hash ≡ words.hash)
SamePlanned _ _ = ⊥

-- both timelines are of one file and of the same readings
abbrev pub SameTimeline : TimelineValues → TimelineValues → Type 0
SameTimeline values read = (read.config.now ≡ values.config.now) × (readings_in read ≡ readings_in values)

-- both watches are of one file and of the same addresses, and are shown in the same way
abbrev pub SameWatch : WatchValues → WatchValues → Type 0
SameWatch values read = (read.config.now ≡ values.config.now) × (read.once ≡ values.once) × (read.json ≡ values.json)
    × (addresses_in read ≡ addresses_in values)

-- both canaries are of one file, for one span, of as many clients and keys, at the same proxies, and are shown in the same way
abbrev pub SameCanary : CanaryValues → CanaryValues → Type 0
SameCanary values read = (read.config.now ≡ values.config.now) × (read.span ≡ values.span) × (read.clients ≡ values.clients)
    × (read.keys ≡ values.keys) × (read.rate ≡ values.rate) × (read.prefix.now ≡ values.prefix.now) × (read.json ≡ values.json)
    × (proxies_in read ≡ proxies_in values)

-- both are the same command with the same values
abbrev pub AgreesWith : Wanted → Wanted → Type 0
AgreesWith (Plan values) (Plan read) = SamePlanned values.planned read.planned × (read.at ≡ values.at)
AgreesWith (Timeline values) (Timeline read) = SameTimeline values read
AgreesWith (Run file) (Run read) = path_in read ≡ path_in file
AgreesWith (Check file) (Check read) = path_in read ≡ path_in file
AgreesWith (Draw file) (Draw read) = path_in read ≡ path_in file
AgreesWith (Upgrade file) (Upgrade read) = path_in read ≡ path_in file
AgreesWith (Node values) (Node read) = (read.listen.now ≡ values.listen.now) × (read.capacity ≡ values.capacity)
    × (read.clients ≡ values.clients) × (read.turns ≡ values.turns) × (read.idle_timeout ≡ values.idle_timeout)
    × (path_in read.metrics ≡ path_in values.metrics) × (read.on_loops ≡ values.on_loops)
AgreesWith (Proxy values) (Proxy read) = (read.config.now ≡ values.config.now) × (read.listen.now ≡ values.listen.now)
    × (read.room ≡ values.room) × (read.clients ≡ values.clients) × (read.turns ≡ values.turns)
    × (read.leg_timeout ≡ values.leg_timeout) × (read.idle_timeout ≡ values.idle_timeout)
    × (path_in read.metrics ≡ path_in values.metrics) × (read.on_loops ≡ values.on_loops)
AgreesWith (Watch values) (Watch read) = SameWatch values read
AgreesWith (Canary values) (Canary read) = SameCanary values read
AgreesWith (Explain explanation) (Explain read) = told_by read ≡ told_by explanation
AgreesWith _ _ = ⊥

-- this command was read, unless memory was refused
abbrev pub ReadsAs : Wanted → Result Wanted WordsFault → Type 0
ReadsAs wanted (Ok read) = AgreesWith wanted read
ReadsAs wanted (Err Memory) = ⊤
ReadsAs wanted (Err fault) = ⊥

-- the words are one that calls for the version
abbrev pub SaysVersion : List Text → Type 0
SaysVersion words = (words ≡ codes "--version" ∷ []) ⊎ (words ≡ codes "-V" ∷ [])

-- that they call for the version was read, unless memory was refused
abbrev pub TellsVersion : Result Wanted WordsFault → Type 0
TellsVersion (Err Version) = ⊤
TellsVersion (Err Memory) = ⊤
TellsVersion read = ⊥
