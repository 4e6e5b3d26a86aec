use Rattle.std.proofs.Common.{◌↔◌, IsTrue, subst}
use Rattle.mr_world.specs.Setup.{AllAlike}
use Rattle.mr_world.proofs.terms.Terms.of.Goals as goal

pub returns-clause-same : goal.returns-clause-same
returns-clause-same c = subst (λ proxies. IsTrue c.are_alike.result ↔ AllAlike proxies) c.proxies.ensures c.are_alike.ensures
