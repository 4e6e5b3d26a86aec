-- Canaries that are lent.
use Rattle.std.specs.Borrow.{Lends, Fml, MutBor}
use Rattle.mr_flights.specs.contracts.flock.Flock as flock
use Rattle.mr_probes.specs.contracts.canary.Canary as canary
use Rattle.mr_probes.specs.CanaryView.{CanaryView}

-- the canary is the one that its borrower left
abbrev pub LendsCanary : MutBor CanaryView → MutBor CanaryView → Fml
LendsCanary lender lent = Lends flock.the_row canary.the_row lender lent (λ left. left)
