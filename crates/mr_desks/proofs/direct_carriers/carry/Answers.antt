use Rattle.std.proofs.Common.{◌≡◌, ◌∙◌, ap}
use Rattle.mr_proxy.specs.declared.sheet.LegSheet.{LegSheet}
use Rattle.mr_proxy.specs.Sheets.{pool_at}
use Rattle.mr_desks.proofs.DirectLemmas.{named_carries, named_lacks}
use Rattle.mr_desks.proofs.direct_carriers.carry.Goals as goal

pub returns-clause-carried : goal.returns-clause-carried
returns-clause-carried g c =
    named_carries g.C.Carrier.carries g.C.Carrier.faults (λ carried. carried.back) _ _ c.args.leg _ _ c.carry_at.result
    (c.pool_number-pool.ensures ∙ ap pool_at c.sheet.ensures) (ap (λ (s : LegSheet). s.node) c.sheet-2.ensures) c.carry_at.ensures.carried

pub returns-clause-back : goal.returns-clause-back
returns-clause-back g c =
    named_lacks _ _ c.args.leg _ c.carry_at.result (c.pool_number-pool.ensures ∙ ap pool_at c.sheet.ensures)
    (ap (λ (s : LegSheet). s.node) c.sheet-2.ensures) c.carry_at.ensures.back
