-- What a configuration leaves unsaid.
use Rattle.std.specs.Prelude.{ℕ}

-- how long each of the two middle phases lasts where a configuration doesn't say it, in seconds (from: MigrateRoute)
abbrev pub default_interval : ℕ
default_interval = 3600
