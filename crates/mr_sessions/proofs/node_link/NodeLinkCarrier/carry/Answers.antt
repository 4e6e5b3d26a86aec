use Rattle.std.proofs.Common.{rules, inl, inr}
use Rattle.mr_desks.specs.declared.error.WorkerError.TheVariants.{LinkBroken, OutOfMemory}
use Rattle.mr_sessions.proofs.node_link.NodeLinkCarrier.carry.Goals as goal

pub returns-then-self-clause-carries : goal.returns-then-self-clause-carries
returns-then-self-clause-carries g c = (LinkBroken, inr (search rules))

pub returns-in_default-clause-carries : goal.returns-in_default-clause-carries
returns-in_default-clause-carries g c = (OutOfMemory, inl (search rules))
