use Rattle.std.proofs.Common.{◌≡◌, take}
use Rattle.mr_world.proofs.setup.copied_proxies.Given as goal

-- the copied proxies are the first ones
abbrev pub invariant-loop-proxy : goal.invariant-loop-proxy
invariant-loop-proxy l = l.copied.items ≡ take l.proxy-index l.proxies.items
