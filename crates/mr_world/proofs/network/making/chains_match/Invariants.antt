use Rattle.std.proofs.Common.{ℕ, ◌<◌, slice_index_or}
use Rattle.mr_proxy.specs.Sheets.{HaveAsManyHops}
use Rattle.mr_world.specs.declared.setup.ProxySetup.{ProxySetup}
use Rattle.mr_world.proofs.network.making.chains_match.Given as goal

-- the chains of the proxies so far match
abbrev pub invariant-loop-proxy : goal.invariant-loop-proxy
invariant-loop-proxy l =
    (k : ℕ) (d : ProxySetup) → k < l.proxy-index
    → HaveAsManyHops (slice_index_or l.proxies k d).routing (slice_index_or l.proxies k d).schedule
