use Rattle.std.proofs.Common.{◌≡◌}
use Rattle.mr_tool.specs.ProxyCommand.{loops_of}
use Rattle.mr_tool.proofs.proxies.loops_of.Given as goal

-- the loops so far are those of the numbers so far
abbrev pub invariant-loop-number : goal.invariant-loop-number
invariant-loop-number l = l.machines.items ≡ loops_of l.config l.values l.number
