use Rattle.std.proofs.Common.{◌≡◌, ℕ, ◌<◌, slice_index_or}
use Rattle.mr_world.specs.declared.setup.ProxySetup.{ProxySetup}
use Rattle.mr_world.proofs.terms.are_alike.Given as goal

-- the proxies so far are as the first
abbrev pub invariant-loop-proxy : goal.invariant-loop-proxy
invariant-loop-proxy l =
    (k : ℕ) (d : ProxySetup) → k < l.proxy-index
    → ((slice_index_or l.rest k d).routing ≡ l.first.routing) × ((slice_index_or l.rest k d).schedule ≡ l.first.schedule)
