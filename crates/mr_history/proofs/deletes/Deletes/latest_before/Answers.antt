use Rattle.std.proofs.Common.{subst, arith}
use Rattle.mr_history.specs.Places.{At}
use Rattle.mr_history.proofs.Lists.{got}
use Rattle.mr_history.proofs.IndexLemmas.{bound_weakens}
use Rattle.mr_history.proofs.deletes.Deletes.latest_before.Goals as goal

pub returns-in-Some : goal.returns-in-Some
returns-in-Some c history key read bounds within =
    let there = got _ _ _ _ c.get.ensures.lookup c.in-Some.is in
    let there : At c.args.self.now.bounds.items c.loop-low.low c.in-Some.bound.now = subst (λ l. At l c.loop-low.low c.in-Some.bound.now) c.deref.ensures.value there in
    bound_weakens (bounds.bounds c.loop-low.low c.in-Some.bound.now there) c.if-place-bound.true (omega arith)

pub returns-in_default : goal.returns-in_default
returns-in_default c history key read bounds within = bound_weakens {latest = c.args.self.now.latest} {latest' = c.args.self.now.latest} bounds.all within (omega arith)
