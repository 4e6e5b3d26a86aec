-- What services on loops have in common.
use Rattle.std.specs.Prelude.{ℕ, List, Option, Some, None}
use Rattle.mr_driver.specs.declared.serving.DriverBounds.{DriverBounds}
use Rattle.mr_sockets.specs.declared.patience.Patience.{Patience}
use Rattle.mr_words.specs.declared.loop_words.LoopValues.{LoopValues}

-- the most bytes of a client's own answers that it hasn't read, before no further request of it is begun
abbrev pub most_unread : ℕ
most_unread = 1048576

-- what a service's words bound where it runs on loops: its clients, how many of them are served at once, and how long it waits
abbrev pub driver_bounds : ℕ → LoopValues → Patience → DriverBounds
driver_bounds clients loops patience = record {
  clients = clients;
  most_clients = loops.max_clients;
  client_seconds = patience.client_seconds;
  leg_millis = patience.leg_millis;
}

-- where metrics are told, if they are: by a service on loops alone
abbrev pub metrics_of : Option LoopValues → Option (List ℕ) → Option (List ℕ)
metrics_of None metrics = None
metrics_of (Some loops) metrics = metrics
