use Rattle.std.proofs.Common.{◌≡◌, ◌+◌, ◌<◌, ◌≤◌, suc, drop, arith, add-one, ap, sym, ◌∙◌, subst}
use Rattle.mr_phases.specs.Schedule.{Standing, standing_of, start_at}
use Rattle.mr_phases.proofs.WalkLemmas.{standing_past, walk_begins, walk_goes_on, walk_ends, walk_stops}
use Rattle.mr_phases.proofs.schedule.Schedule.hop_at.Goals as goal

pub loop-number-init : goal.loop-number-init
loop-number-init c = (let some = c.hops-count.ensures.valid.begins in omega arith, walk_begins c.args.self.now c.args.now)

pub overflow_add-number : goal.overflow_add-number
overflow_add-number c = let few = c.hops-count.ensures.valid.few in let within = c.loop-number.invariant.0 in omega arith

pub loop-number-preserved : goal.loop-number-preserved
loop-number-preserved c =
    let number = c.loop-number.number in
    let next = add-one number in
    let begun : start_at c.args.self.now (suc number) ≤ c.args.now =
    subst (λ n. start_at c.args.self.now n ≤ c.args.now) next (let s = c.start.ensures.start in let t = c.if-start-now.true in omega arith) in
    let on = walk_goes_on c.args.self.now number number c.args.now (omega arith) begun in (
      omega arith,
      subst (λ n. standing_past (number + 1) (drop n c.args.self.now) c.args.now ≡ standing_of c.args.self.now c.args.now) (sym next) (sym on ∙ c.loop-number.invariant.1),
    )

pub returns-else-start-now-clause-hop : goal.returns-else-start-now-clause-hop
returns-else-start-now-clause-hop c =
    let number = c.loop-number.number in
    let early : c.args.now < start_at c.args.self.now (suc number) =
    subst (λ n. c.args.now < start_at c.args.self.now n) (add-one number) (let s = c.start.ensures.start in let t = c.if-start-now.false in omega arith) in
    sym (walk_stops c.args.self.now number number c.args.now (omega arith) early) ∙ ap (λ (s : Standing). s.hop) c.loop-number.invariant.1

pub returns-after-loop-number-clause-hop : goal.returns-after-loop-number-clause-hop
returns-after-loop-number-clause-hop c =
    let number = c.loop-number.number in
    let within = c.loop-number.invariant.0 in
    sym (walk_ends c.args.self.now number number c.args.now within (omega arith)) ∙ ap (λ (s : Standing). s.hop) c.loop-number.invariant.1
