use Rattle.mr_pools.proofs.NodeNameLemmas.{utf8_from_name}
use Rattle.mr_pools.proofs.name.NodeName.as_str.Goals as goal

pub unreachable-requires : goal.unreachable-requires
unreachable-requires c = c.in-Err.ensures.cases.0 (utf8_from_name c.as_bytes.result.now c.as_bytes.ensures.name)
