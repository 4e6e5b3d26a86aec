-- What a canary is to do, by the words that asked for it.
use Rattle.std.specs.Prelude.{◌≡◌, ⊤, ℕ, ◌*◌, ◌-◌, ◌^◌, length, max, min, Result, Ok, Err}
use Rattle.mr_flights.specs.declared.fault.FlightFault.{FlightFault}
use Rattle.mr_flights.specs.declared.fault.FlightFault.TheVariants.{Memory, BadPrefix}
use Rattle.mr_pools.specs.Routing.{RoutingView}
use Rattle.mr_probes.specs.CanaryView.{CanaryView, fresh_canary}
use Rattle.mr_probes.specs.Choosing.{chosen_below, looked_at}
use Rattle.mr_probes.specs.Naming.{key_text}
use Rattle.mr_probes.specs.declared.canary.Plan.{Plan}
use Rattle.mr_text.specs.Key.{IsKey}
use Rattle.mr_words.specs.Words.{proxies_in}
use Rattle.mr_words.specs.declared.canary_words.CanaryValues.{CanaryValues}

-- how many clients there are at all proxies together: as many as the words say at each, 1 to 64
abbrev pub clients_of : CanaryValues → ℕ
clients_of values = min (length (proxies_in values) * max 1 (min values.clients 64)) (2 ^ 64 - 1)

-- how many keys are asked for: as many as the words say, 65,536 at most
abbrev pub keys_asked : CanaryValues → ℕ
keys_asked values = min values.keys 65536

-- what a canary of a run is to do; a request that waits for five seconds is given up
pub record IsPlan (values : CanaryValues) (run : ℕ) (plan : Plan) : Type 0 where
  pub run_is : plan.run ≡ run
  pub clients_are : plan.clients ≡ clients_of values
  pub rate_is : plan.rate ≡ values.rate
  pub give_up_is : plan.give_up ≡ 5000000

-- a canary of a run that nothing happened to yet, with the keys that are chosen for this routing
pub record IsMade (values : CanaryValues) (routing : RoutingView) (run : ℕ) (canary : CanaryView) : Type 0 where
  pub plan : Plan
  pub is_plan : IsPlan values run plan
  pub keys : plan.keys.items ≡ chosen_below routing values.prefix.now run (keys_asked values) (looked_at (keys_asked values))
  pub fresh : canary ≡ fresh_canary plan

-- such a canary, or why there is none: some number makes no key with the prefix, or memory was refused
abbrev pub MakesCanary : CanaryValues → RoutingView → ℕ → Result CanaryView FlightFault → Type 0
MakesCanary values routing run (Ok canary) = IsMade values routing run canary
MakesCanary values routing run (Err BadPrefix) = (number : ℕ) × ¬ IsKey (key_text values.prefix.now run number)
MakesCanary values routing run (Err Memory) = ⊤
MakesCanary values routing run (Err fault) = ⊥
