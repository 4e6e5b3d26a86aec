use Rattle.std.proofs.Common.{◌≤◌, subst, All}
use Rattle.std.specs.Option.{IfSome}
use Rattle.mr_proxy.proofs.TakeLemmas.{oldest_least}
use Rattle.mr_proxy.proofs.proxy_core.ProxyCore.oldest.Goals as goal

pub returns-clause-least : goal.returns-clause-least
returns-clause-least c =
    subst (λ v. IfSome c.oldest.result (λ op. All (λ pending. op.number ≤ pending.op.number) v.outstanding)) c.self.view_is
    (oldest_least c.self.inside.outstanding.list c.self.invariant.in_order c.oldest.result c.oldest.ensures)
