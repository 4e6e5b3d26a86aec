use Rattle.std.proofs.Common.{◌+◌, ◌<◌, ◌≤◌, length, set, refl, sym, subst, arith}
use Rattle.mr_phases.specs.Schedule.{Hop, most_hops, chain_end}
use Rattle.mr_phases.specs.Filled.{IsFilled}
use Rattle.mr_phases.proofs.ChainLemmas.{filled_longer}
use Rattle.mr_phases.proofs.schedule.Schedule.then.Goals as goal

pub invariant_of-result : goal.invariant_of-result
invariant_of-result c =
    let hops = c.self.inside.hops in
    let count = c.self.inside.count in
    let accepted = c.in-Ok.ensures.accepted.0 refl in
    let few : length c.args.self < most_hops = let valid = c.hops.ensures.valid.few in let counted = c.hops.ensures.hops in omega arith in
    let late : chain_end c.args.self ≤ c.args.start = omega arith in
    subst (λ (hop : Hop). IsFilled (set hops count hop) (count + 1)) (sym c.in-Ok.ensures.hop)
    (filled_longer hops count c.args.start c.args.interval c.self.invariant accepted.0 accepted.1
    (subst (λ l. length l < most_hops) (sym c.self.view_is) few) (subst (λ l. chain_end l ≤ c.args.start) (sym c.self.view_is) late))
