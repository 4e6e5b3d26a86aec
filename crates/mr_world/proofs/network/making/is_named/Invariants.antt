use Rattle.std.proofs.Common.{ℕ, ◌<◌, slice_index_or}
use Rattle.mr_world.specs.declared.setup.ProxySetup.{ProxySetup}
use Rattle.mr_world.specs.Setup.{NamesNode}
use Rattle.mr_world.proofs.network.making.is_named.Given as goal

-- none of the proxies so far names it
abbrev pub invariant-loop-proxy : goal.invariant-loop-proxy
invariant-loop-proxy l = (k : ℕ) (d : ProxySetup) → k < l.proxy-index → ¬ NamesNode (slice_index_or l.proxies k d).routing l.name
