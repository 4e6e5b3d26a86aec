use Rattle.std.proofs.Common.{◌∙◌, sym}
use Rattle.std.specs.HashMap.{get}
use Rattle.mr_proxy.specs.steps.Outstanding.{is_equal}
use Rattle.mr_proxy.proofs.OutstandingLemmas.{pending_found}
use Rattle.mr_proxy.proofs.outstanding.Outstanding.find.Goals as goal

pub returns : goal.returns
returns c =
    let found = pending_found _ _ (get is_equal c.self.inside.pendings) c.self.inside.numbers.items c.self.invariant c.args.op in
    rw (← c.self.view_is) (c.get.ensures.value ∙ sym found)
