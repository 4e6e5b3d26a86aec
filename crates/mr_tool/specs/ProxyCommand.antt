-- What the command `proxy` does.
use Rattle.std.specs.Prelude.{◌≡◌, ◌⊎◌, ℕ, ◌-◌, ◌/◌, max, min, zero, suc, List, [], ◌∷◌, ◌++◌, Option, Some, None, Result, Ok, Err}
use Rattle.mr_configs.specs.Config.{ConfigView}
use Rattle.mr_driver.specs.Times.{bound_of}
use Rattle.mr_loop.specs.LoopView.{LoopView, fresh_loop}
use Rattle.mr_loop.specs.declared.asker.Limits.{Limits}
use Rattle.mr_proxy.specs.ProxyView.{ProxyView, fresh_proxy}
use Rattle.mr_servers.specs.Servers.{Asked, LoopsAt, ProxyAt, ServersView, IsOneService, Places}
use Rattle.mr_servers.specs.declared.fault.OpenFault.{OpenFault}
use Rattle.mr_sockets.specs.declared.bounds.ServiceBounds.{ServiceBounds}
use Rattle.mr_sockets.specs.declared.patience.Patience.{Patience}
use Rattle.mr_tool.specs.Devices.{Devices}
use Rattle.mr_tool.specs.Input.{LoadsConfig}
use Rattle.mr_tool.specs.OnLoops.{driver_bounds, metrics_of, most_unread}
use Rattle.mr_tool.specs.PlanCommand.{LacksConfig}
use Rattle.mr_tool.specs.Services.{EndsService}
use Rattle.mr_tool.specs.declared.ended.Ended.{Ended}
use Rattle.mr_tool.specs.declared.fault.Fault.{Fault}
use Rattle.mr_tool.specs.declared.fault.Fault.TheVariants.{Memory, File, Plan}
use Rattle.mr_words.specs.Words.{loop_count, path_in}
use Rattle.mr_words.specs.declared.loop_words.LoopValues.{LoopValues}
use Rattle.mr_words.specs.declared.service_words.ProxyValues.{ProxyValues}

-- the configuration of a proxy was had, by one load, and nothing is read
pub record HasConfig (values : ProxyValues) (config : ConfigView) (before after : Devices) : Type 0 where
  pub loaded : LoadsConfig values.config.now before.sources (Ok config) after.sources
  pub unread : after.input ≡ before.input

-- the proxy of this number by a configuration, which has accepted nothing yet, with room for so many requests
abbrev pub proxy_of : ConfigView → ℕ → ℕ → ProxyView
proxy_of config number room = fresh_proxy number 0 config.routing config.schedule room

-- how long a proxy waits for its clients, in seconds, and for a leg, in milliseconds
abbrev pub patience_of_proxy : ProxyValues → Patience
patience_of_proxy values = record { client_seconds = values.idle_timeout; leg_millis = values.leg_timeout }

-- what a proxy's words bound where it runs by threads: its clients, the reads of each, and how long it waits
abbrev pub bounds_of_proxy : ProxyValues → ServiceBounds
bounds_of_proxy values = record { clients = values.clients; turns = values.turns; patience = patience_of_proxy values }

-- the most legs that wait in the queue of a node, at each loop with room for so many requests: three quarters of them, but one at least,
-- and 1024 at most
abbrev pub most_legs : ℕ → ℕ
most_legs room = max 1 (min (room - room / 4) 1024)

-- the most requests of a client that are begun and that it isn't told of
abbrev pub most_begun : ℕ
most_begun = 64

-- what a loop may hold with room for so many requests, whose legs may be without a reply for so many milliseconds
abbrev pub limits_of : ℕ → ℕ → Limits
limits_of room leg_millis = record { most_legs = most_legs room; most_unread = most_unread; most_begun = most_begun; leg_timeout = bound_of leg_millis }

-- the loop of this number: a proxy of its own
abbrev pub loop_of : ConfigView → ProxyValues → ℕ → LoopView
loop_of config values number = fresh_loop (proxy_of config number values.room) (limits_of values.room values.leg_timeout)

-- so many loops, numbered from 0
abbrev pub loops_of : ConfigView → ProxyValues → ℕ → List LoopView
loops_of config values zero = []
loops_of config values (suc number) = loops_of config values number ++ loop_of config values number ∷ []

-- where a proxy listens
abbrev pub places_of_proxy : ProxyValues → Places
places_of_proxy values = record { listen = values.listen.now; metrics = metrics_of values.on_loops (path_in values.metrics) }

-- the service of a proxy: by threads, the proxy of number 0; on loops, as many proxies as there are loops
abbrev pub asked_by : Option LoopValues → ProxyValues → ConfigView → ℕ → Asked
asked_by None values config processors =
    ProxyAt (places_of_proxy values) (proxy_of config 0 values.room) config.routing (bounds_of_proxy values)
asked_by (Some loops) values config processors =
    LoopsAt (places_of_proxy values) (loops_of config values (loop_count loops processors))
    (driver_bounds values.clients loops (patience_of_proxy values))

-- what is asked for by these words, with this configuration, on a machine of so many processors
abbrev pub asked_of_proxy : ProxyValues → ConfigView → ℕ → Asked
asked_of_proxy values config processors = asked_by values.on_loops values config processors

-- a proxy by the configuration was served, once, and this came of it
pub record RunsProxy (values : ProxyValues) (before after : Devices) (idle busy : ServersView) (result : Result Ended Fault) : Type 0 where
  pub config : ConfigView
  pub has : HasConfig values config before after
  pub served : Result ℕ OpenFault
  pub serves : IsOneService (asked_of_proxy values config idle.processors) idle served busy
  pub ends : EndsService (places_of_proxy values) values.clients served before.output after.output result

-- memory was refused once the configuration was had, and no service was asked for
pub record LacksProxy (values : ProxyValues) (before after : Devices) (idle busy : ServersView) : Type 0 where
  pub config : ConfigView
  pub has : HasConfig values config before after
  pub unwritten : after.output ≡ before.output
  pub unasked : busy ≡ idle

-- there was no configuration, for this fault, and no service was asked for
abbrev pub RefusesProxy : ProxyValues → Fault → Devices → Devices → ServersView → ServersView → Type 0
RefusesProxy values fault before after idle busy = LacksConfig values.config.now fault before after × (busy ≡ idle)

-- What the command `proxy` does. It serves fresh proxies, or finds the first of the faults in this order: the file, the
-- configuration, memory, the sockets, memory for loops that have theirs, the output.
abbrev pub ProxyGives : ProxyValues → Devices → Devices → ServersView → ServersView → Result Ended Fault → Type 0
ProxyGives values before after idle busy (Err (File line)) = RefusesProxy values (File line) before after idle busy
ProxyGives values before after idle busy (Err (Plan refusal)) = RefusesProxy values (Plan refusal) before after idle busy
ProxyGives values before after idle busy (Err Memory) =
    RefusesProxy values Memory before after idle busy ⊎ LacksProxy values before after idle busy ⊎ RunsProxy values before after idle busy (Err Memory)
ProxyGives values before after idle busy result = RunsProxy values before after idle busy result
