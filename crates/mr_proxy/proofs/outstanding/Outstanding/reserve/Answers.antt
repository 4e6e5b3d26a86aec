use Rattle.std.proofs.Common.{sym, ap, subst}
use Rattle.std.specs.HashMap.{get}
use Rattle.mr_proxy.specs.steps.Outstanding.{is_equal, IsKept, listed}
use Rattle.mr_proxy.proofs.OutstandingLemmas.{same_find}
use Rattle.mr_proxy.proofs.outstanding.Outstanding.reserve.Goals as goal

pub invariant_of-self-2 : goal.invariant_of-self-2
invariant_of-self-2 c =
    let same = same_find (get is_equal c.self.inside.pendings) (get is_equal c.reserve-2.new.self) c.reserve-2.ensures.entries.2 in
    rw (c.in_ok-reserve.ensures.items)
    (subst (λ find. IsKept find c.self.inside.proxy c.self.inside.incarnation c.self.inside.numbers.items) (sym same) c.self.invariant)

pub returns-clause-list : goal.returns-clause-list
returns-clause-list c =
    let same = same_find (get is_equal c.self.inside.pendings) (get is_equal c.reserve-2.new.self) c.reserve-2.ensures.entries.2 in
    rw (← c.self.view_is, c.in_ok-reserve.ensures.items)
    (ap (λ (find : _). listed find c.self.inside.proxy c.self.inside.incarnation c.self.inside.numbers.items) same)
