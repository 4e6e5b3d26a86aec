use Rattle.std.proofs.Common.{sym, arith}
use Rattle.mr_desks.proofs.DirectLemmas.{one_behind, sent_so}
use Rattle.mr_desks.proofs.direct_carriers.DirectCarriersCarriers.send.Goals as goal

pub returns-in-Ok-clause-sent : goal.returns-in-Ok-clause-sent
returns-in-Ok-clause-sent g c =
    let reserved = c.reserve.ensures.capacity in
    let pushed = c.push_back_reserved.ensures.capacity in
    sent_so g.C.Carrier.carries g.C.Carrier.faults _ _ _ _ c.in-Ok.carried.back (sym c.self.view_is) c.in-Ok.ensures.carried.0 c.in-Ok.ensures.carried.1
    (one_behind (λ carried. carried.back) _ _ _ c.in-Ok.carried c.reserve.ensures.items c.push_back_reserved.ensures.items) (omega arith)
