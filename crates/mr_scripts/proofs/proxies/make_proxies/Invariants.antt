use Rattle.mr_configs.specs.Draft.{config_drafted}
use Rattle.mr_scripts.specs.Setups.{proxy_of}
use Rattle.mr_scripts.proofs.ReadingLemmas.{AreMade}
use Rattle.mr_scripts.proofs.proxies.make_proxies.Given as goal

abbrev pub invariant-loop-value : goal.invariant-loop-value
invariant-loop-value l = AreMade (proxy_of (config_drafted l.common)) l.values l.value-index l.proxies.items
