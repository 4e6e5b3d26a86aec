-- The command line of the program, as `clap` reads it.
use Rattle.std.specs.Prelude.{ℕ, List, Option, Some, None, Bool, true, false, codes}
use Rattle.clap.specs.Words.{App, Rule, new_app, new_rule, with_rule, with_subcommand}
use Rattle.clap.specs.Lexer.{usize_max}
use Rattle.clap.specs.declared.builder.ArgAction.TheVariants.{Append, Set, SetTrue}
use Rattle.clap.specs.declared.builder.value_parser.ValueParser.{ValueParser}
use Rattle.clap.specs.declared.builder.value_parser.ValueParser.TheVariants as parser

-- an option with a value, which help gives one name, by the option's own name
abbrev pub option_rule : List ℕ → Option ValueParser → Bool → Rule
option_rule name read_by required =
    record (new_rule name) { long = Some name; value_names = 1; action = Some Set; parser = read_by; required = required }

-- a number of 64 bits
abbrev pub numbers : ValueParser
numbers = parser.Unsigned 0 18446744073709551615

-- the option that names the file of the configuration, which has to be there
abbrev pub config_rule : Rule
config_rule = option_rule (codes "config") None true

-- the option that names the file of a plan's configuration, in whose place words may stand
abbrev pub planned_file_rule : Rule
planned_file_rule = option_rule (codes "config") None false

-- the second of a plan by a file
abbrev pub at_rule : Rule
at_rule = option_rule (codes "at") (Some numbers) false

-- one of the words that say a migration, which help gives one name
abbrev pub said_rule : List ℕ → Option ValueParser → Rule
said_rule name read_by = record (new_rule name) { value_names = 1; action = Some Set; parser = read_by }

-- one of them that is a number
abbrev pub said_number_rule : List ℕ → Rule
said_number_rule name = said_rule name (Some numbers)

-- the readings of clocks
abbrev pub readings_rule : Rule
readings_rule = option_rule (codes "readings") None false

-- the option that names where clients connect, which has to be there
abbrev pub listen_rule : Rule
listen_rule = option_rule (codes "listen") None true

-- an option of this name that gives a number, which may be left out
abbrev pub number_rule : List ℕ → Rule
number_rule name = option_rule name (Some numbers) false

-- an option of this name that gives a number between these two, which may be left out
abbrev pub number_between_rule : List ℕ → ℕ → ℕ → Rule
number_between_rule name least most = option_rule name (Some (parser.Unsigned least most)) false

-- how many loops a service has, 1 to 64
abbrev pub loops_rule : Rule
loops_rule = number_between_rule (codes "loops") 1 64

-- how many clients are served at once, one at least
abbrev pub max_clients_rule : Rule
max_clients_rule = number_between_rule (codes "max-clients") 1 18446744073709551615

-- a flag of this name
abbrev pub flag_rule : List ℕ → Rule
flag_rule name = record (new_rule name) { long = Some name; action = Some SetTrue }

-- the option that names where metrics are told, which may be left out
abbrev pub metrics_rule : Rule
metrics_rule = option_rule (codes "metrics") None false

-- the flag that stands in place of the numbers of clients and turns
abbrev pub forever_rule : Rule
forever_rule = flag_rule (codes "forever")

-- a file, which may be left out; help gives it one name
abbrev pub file_rule : Rule
file_rule = record (new_rule (codes "file")) { value_names = 1; action = Some Set }

-- a command of this name that is given a file, or else the input
abbrev pub file_app : List ℕ → App
file_app name = with_rule (new_app name) file_rule

-- the command `plan`: its two options, and six words in this order
abbrev pub plan_app : App
plan_app =
    let with_file = with_rule (new_app (codes "plan")) planned_file_rule in
    let with_at = with_rule with_file at_rule in
    let with_old = with_rule with_at (said_rule (codes "old") None) in
    let with_new = with_rule with_old (said_rule (codes "new") None) in
    let with_start = with_rule with_new (said_number_rule (codes "start")) in
    let with_interval = with_rule with_start (said_number_rule (codes "interval")) in
    let with_hash = with_rule with_interval (said_rule (codes "hash") None) in
    with_rule with_hash (said_number_rule (codes "second"))

-- the command `timeline`
abbrev pub timeline_app : App
timeline_app = with_rule (with_rule (new_app (codes "timeline")) config_rule) readings_rule

-- the command `run`
abbrev pub run_app : App
run_app = file_app (codes "run")

-- the command `check`
abbrev pub check_app : App
check_app = file_app (codes "check")

-- the command `draw`
abbrev pub draw_app : App
draw_app = file_app (codes "draw")

-- the command `upgrade`
abbrev pub upgrade_app : App
upgrade_app = file_app (codes "upgrade")

-- the command `node`
abbrev pub node_app : App
node_app =
    let with_listen = with_rule (new_app (codes "node")) listen_rule in
    let with_capacity = with_rule with_listen (number_rule (codes "capacity")) in
    let with_clients = with_rule with_capacity (number_rule (codes "clients")) in
    let with_turns = with_rule with_clients (number_rule (codes "turns")) in
    let with_idle = with_rule with_turns (number_rule (codes "idle-timeout")) in
    let with_metrics = with_rule with_idle metrics_rule in
    let with_forever = with_rule with_metrics forever_rule in
    let with_loops = with_rule with_forever loops_rule in
    let with_most = with_rule with_loops max_clients_rule in
    with_rule with_most (flag_rule (codes "quiet"))

-- the command `proxy`
abbrev pub proxy_app : App
proxy_app =
    let with_config = with_rule (new_app (codes "proxy")) config_rule in
    let with_listen = with_rule with_config listen_rule in
    let with_room = with_rule with_listen (number_rule (codes "room")) in
    let with_clients = with_rule with_room (number_rule (codes "clients")) in
    let with_turns = with_rule with_clients (number_rule (codes "turns")) in
    let with_leg = with_rule with_turns (number_rule (codes "leg-timeout")) in
    let with_idle = with_rule with_leg (number_rule (codes "idle-timeout")) in
    let with_metrics = with_rule with_idle metrics_rule in
    let with_forever = with_rule with_metrics forever_rule in
    let with_loops = with_rule with_forever loops_rule in
    let with_most = with_rule with_loops max_clients_rule in
    with_rule with_most (flag_rule (codes "quiet"))

-- words of this name, of which there is one at least; help gives it one name
abbrev pub several_rule : List ℕ → Rule
several_rule name = record (new_rule name) {
  range = Some (record { start_inclusive = 1; end_inclusive = usize_max });
  value_names = 1;
  action = Some Append;
  required = true;
}

-- where services tell their metrics
abbrev pub address_rule : Rule
address_rule = several_rule (codes "address")

-- the command `watch`
abbrev pub watch_app : App
watch_app =
    let with_config = with_rule (new_app (codes "watch")) config_rule in
    let with_once = with_rule with_config (flag_rule (codes "once")) in
    let with_json = with_rule with_once (flag_rule (codes "json")) in
    with_rule with_json address_rule

-- the option that says what the keys of a canary begin with, which may be left out
abbrev pub prefix_rule : Rule
prefix_rule = option_rule (codes "prefix") None false

-- where proxies serve clients
abbrev pub proxies_rule : Rule
proxies_rule = several_rule (codes "proxy")

-- the command `canary`: one second at least, 1 to 64 clients, 1 to 65,536 keys, 1 to 100,000 requests in a second
abbrev pub canary_app : App
canary_app =
    let with_config = with_rule (new_app (codes "canary")) config_rule in
    let with_seconds = with_rule with_config (number_between_rule (codes "seconds") 1 18446744073709551615) in
    let with_until = with_rule with_seconds (flag_rule (codes "until-migrated")) in
    let with_clients = with_rule with_until (number_between_rule (codes "clients") 1 64) in
    let with_keys = with_rule with_clients (number_between_rule (codes "keys") 1 65536) in
    let with_rate = with_rule with_keys (number_between_rule (codes "rate") 1 100000) in
    let with_prefix = with_rule with_rate prefix_rule in
    let with_json = with_rule with_prefix (flag_rule (codes "json")) in
    with_rule with_json proxies_rule

-- a word of its own, by its name, which has to be there
abbrev pub word_rule : List ℕ → Option ValueParser → Rule
word_rule name read_by = record (new_rule name) { action = Some Set; parser = read_by; required = true }

-- the command `explain`
abbrev pub explain_app : App
explain_app = with_rule (with_rule (new_app (codes "explain")) (word_rule (codes "layer") None)) (word_rule (codes "number") (Some numbers))

-- the program, which has a version, whose words begin with the command, and which asks for one
abbrev pub program_app : App
program_app =
    let with_plan = with_subcommand (new_app (codes "migctl")) plan_app.top in
    let with_timeline = with_subcommand with_plan timeline_app.top in
    let with_run = with_subcommand with_timeline run_app.top in
    let with_check = with_subcommand with_run check_app.top in
    let with_draw = with_subcommand with_check draw_app.top in
    let with_upgrade = with_subcommand with_draw upgrade_app.top in
    let with_node = with_subcommand with_upgrade node_app.top in
    let with_proxy = with_subcommand with_node proxy_app.top in
    let with_watch = with_subcommand with_proxy watch_app.top in
    let with_canary = with_subcommand with_watch canary_app.top in
    let whole = with_subcommand with_canary explain_app.top in
    record whole { top = record whole.top { has_version = true; no_binary_name = true; subcommand_required = true; arg_required_else_help = true } }
