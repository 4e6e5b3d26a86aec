use Rattle.std.proofs.Common.{rules}
use Rattle.std.specs.HashMap.{get}
use Rattle.mr_proxy.specs.steps.Outstanding.{is_equal}
use Rattle.mr_proxy.proofs.OutstandingLemmas.{length_listed}
use Rattle.mr_proxy.proofs.outstanding.Outstanding.len.Goals as goal

pub returns : goal.returns
returns c =
    let count = length_listed _ _ (get is_equal c.self.inside.pendings) c.self.inside.numbers.items c.self.invariant.found in
    rw (← c.self.view_is, count) (search rules)
