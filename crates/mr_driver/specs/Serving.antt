-- How long a service on loops waits.
use Rattle.std.specs.Prelude.{ℕ, ◌*◌, ◌-◌, ◌^◌, min}
use Rattle.mr_driver.specs.declared.engine.Timing.{Timing}
use Rattle.mr_driver.specs.declared.serving.DriverBounds.{DriverBounds}
use Rattle.mr_driver.specs.Times.{bound_of}

-- the bounds in microseconds, of which 2 ^ 64 - 1 is none
abbrev pub timing_of : DriverBounds → Timing
timing_of bounds = record {
  leg_bound = bound_of bounds.leg_millis;
  idle_bound = bound_of (min (bounds.client_seconds * 1000) (2 ^ 64 - 1));
}
