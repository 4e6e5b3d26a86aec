-- The clients of a canary as the links of a loop.
use Rattle.std.specs.Prelude.{◌≡◌, ℕ, List}
use Rattle.mr_loop.specs.declared.link.LinkEnd.{LinkEnd}
use Rattle.mr_loop.specs.declared.link.LinkEnd.TheVariants.{Whole, Mismatch}
use Rattle.mr_probes.specs.CanaryView.{CanaryView, Settles, TakesBytes, Ticks, written}
use Rattle.mr_probes.specs.declared.canary.Goes.{Goes}
use Rattle.mr_probes.specs.declared.canary.Goes.TheVariants.{On, Off}
use Rattle.mr_probes.specs.declared.answering.Said.TheVariants.{Failed}
use Rattle.mr_probes.specs.declared.client.Client.TheVariants.{Down, Idle}
use Rattle.mr_sightings.specs.declared.trouble.Trouble.TheVariants.{BrokeOff}

-- how a link stands by what a canary says of its connection
abbrev pub end_of : Goes → LinkEnd
end_of On = Whole
end_of Off = Mismatch

-- what bytes do that came over a link
pub record TakesLinkBytes (number now : ℕ) (bytes : List ℕ) (old : CanaryView) (end : LinkEnd) (new : CanaryView) : Type 0 where
  pub goes : Goes
  pub takes : TakesBytes number now bytes old goes new
  pub end_is : end ≡ end_of goes

-- what happens at the connection of one of a canary's clients, or with time
pub data CanaryStep (old new : CanaryView) : Type 0 where
  dialed : new ≡ old → CanaryStep old new
  came_up : (place now : ℕ) → Settles place now (Failed BrokeOff) Idle old new → CanaryStep old new
  took : (place now : ℕ) (bytes : List ℕ) (goes : Goes) → TakesBytes place now bytes old goes new → CanaryStep old new
  broke : (place now : ℕ) → Settles place now (Failed BrokeOff) Down old new → CanaryStep old new
  wrote : (place count : ℕ) → new ≡ written place count old → CanaryStep old new
  ticked : (now : ℕ) → Ticks now old new → CanaryStep old new
