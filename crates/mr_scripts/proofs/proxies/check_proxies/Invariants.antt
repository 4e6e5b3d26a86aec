use Rattle.mr_configs.specs.Config.{ConfigView}
use Rattle.mr_scripts.specs.Setups.{proxy_of}
use Rattle.mr_scripts.proofs.ReadingLemmas.{AreSeen}
use Rattle.mr_scripts.proofs.proxies.check_proxies.Given as goal

abbrev pub invariant-loop-value : goal.invariant-loop-value
invariant-loop-value l = (common : ConfigView) → AreSeen (proxy_of common) l.values l.value-index
