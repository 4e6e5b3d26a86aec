use Rattle.std.proofs.Common.{◌≡◌, List, length, take, sym, ap, subst, arith}
use Rattle.std.specs.Vec.Iter.{into_iter_items}
use Rattle.mr_world.specs.declared.event.Event.{Event}
use Rattle.mr_world.specs.Facts.{Facts}
use Rattle.mr_world.specs.Headline.{DeletesHold, StandsOnGround}
use Rattle.mr_world.specs.Refusals.{IsStopped}
use Rattle.mr_world.specs.Premises.{premises_of, PremisesAfter}
use Rattle.mr_world.specs.WorldView.{WorldView}
use Rattle.mr_world.proofs.GroundLemmas.{holds_safe}
use Rattle.mr_world.proofs.ReadyLemmas.{HasRun, has_run_more, has_run_all, has_run_until, has_stopped}
use Rattle.mr_world.proofs.world.World.run.Goals as goal

pub loop-event-preserved : goal.loop-event-preserved
loop-event-preserved c =
    let split = c.in-Some.ensures.steps.0 in
    let so_far = subst (λ (l : List Event). HasRun c.args.self.now c.args.events.items c.loop-event.index l c.loop-event.self) split (c.loop-event.invariant.2) in (
      tt,
      tt,
      has_run_more _ _ _ c.in-Some.event _ _ _ _ so_far (c.in_default.ensures.accepted.1),
      (let all = c.loop-event.invariant.3 in let fewer = ap length split in omega arith),
    )

pub returns-in-Err-clause-stopped : goal.returns-in-Err-clause-stopped
returns-in-Err-clause-stopped c =
    let split = c.in-Some.ensures.steps.0 in
    let so_far = subst (λ (l : List Event). HasRun c.args.self.now c.args.events.items c.loop-event.index l c.loop-event.self) split (c.loop-event.invariant.2) in
    subst (λ (w : WorldView). IsStopped c.args.self.now c.args.events.items c.loop-event.index c.in-Err.refusal w) (sym c.in-Err.ensures.unchanged)
    (has_stopped _ _ _ c.in-Some.event _ _ _ so_far c.in-Err.ensures.refused)

pub returns-in-Err-clause-premises_then : goal.returns-in-Err-clause-premises_then
returns-in-Err-clause-premises_then c =
    let split = c.in-Some.ensures.steps.0 in
    let so_far = subst (λ (l : List Event). HasRun c.args.self.now c.args.events.items c.loop-event.index l c.loop-event.self) split (c.loop-event.invariant.2) in
    subst (λ (w : WorldView). PremisesAfter c.args.self.now (take c.loop-event.index c.args.events.items) (premises_of w)) (sym c.in-Err.ensures.unchanged)
    (c.runs_tell_premises.ensures _ _ _ c.is_in_order.ensures.tracked (has_run_until _ _ _ c.in-Some.event _ _ so_far))

pub returns-clause-premises : goal.returns-clause-premises
returns-clause-premises c =
    let counted = c.loop-event.event-iterator.rest.ok.0 in
    let over = c.in-None.ensures.steps.0 in
    let none : length (into_iter_items c.loop-event.event-iterator) ≡ 0 = omega arith in
    c.runs_tell_premises.ensures _ _ _ c.is_in_order.ensures.tracked (has_run_all _ _ _ _ _ (c.loop-event.invariant.2) none)

pub returns-in-Err-clause-facts : goal.returns-in-Err-clause-facts
returns-in-Err-clause-facts c =
    let split = c.in-Some.ensures.steps.0 in
    let so_far = subst (λ (l : List Event). HasRun c.args.self.now c.args.events.items c.loop-event.index l c.loop-event.self) split (c.loop-event.invariant.2) in
    subst Facts (sym c.in-Err.ensures.unchanged)
    (c.runs_show_facts.ensures _ _ _ c.is_in_order.ensures.tracked c.is_in_order.ensures.faithful (has_run_until _ _ _ c.in-Some.event _ _ so_far))

pub returns-clause-facts : goal.returns-clause-facts
returns-clause-facts c =
    let counted = c.loop-event.event-iterator.rest.ok.0 in
    let over = c.in-None.ensures.steps.0 in
    let none : length (into_iter_items c.loop-event.event-iterator) ≡ 0 = omega arith in
    c.runs_show_facts.ensures _ _ _ c.is_in_order.ensures.tracked c.is_in_order.ensures.faithful (has_run_all _ _ _ _ _ (c.loop-event.invariant.2) none)

pub returns-in-Err-clause-ground : goal.returns-in-Err-clause-ground
returns-in-Err-clause-ground c =
    let split = c.in-Some.ensures.steps.0 in
    let so_far = subst (λ (l : List Event). HasRun c.args.self.now c.args.events.items c.loop-event.index l c.loop-event.self) split (c.loop-event.invariant.2) in
    subst StandsOnGround (sym c.in-Err.ensures.unchanged)
    (c.secured_fleets_show_ground.ensures _ (c.runs_keep_secured.ensures _ _ _ c.is_in_order.ensures.tracked c.is_in_order.ensures.faithful c.is_in_order.ensures.secured (has_run_until _ _ _ c.in-Some.event _ _ so_far)))

pub returns-clause-ground : goal.returns-clause-ground
returns-clause-ground c =
    let counted = c.loop-event.event-iterator.rest.ok.0 in
    let over = c.in-None.ensures.steps.0 in
    let none : length (into_iter_items c.loop-event.event-iterator) ≡ 0 = omega arith in
    c.secured_fleets_show_ground.ensures _ (c.runs_keep_secured.ensures _ _ _ c.is_in_order.ensures.tracked c.is_in_order.ensures.faithful c.is_in_order.ensures.secured (has_run_all _ _ _ _ _ (c.loop-event.invariant.2) none))

pub returns-in-Err-clause-safe : goal.returns-in-Err-clause-safe
returns-in-Err-clause-safe c =
    let split = c.in-Some.ensures.steps.0 in
    let so_far = subst (λ (l : List Event). HasRun c.args.self.now c.args.events.items c.loop-event.index l c.loop-event.self) split (c.loop-event.invariant.2) in
    subst DeletesHold (sym c.in-Err.ensures.unchanged)
    (holds_safe _ (c.runs_keep_secured.ensures _ _ _ c.is_in_order.ensures.tracked c.is_in_order.ensures.faithful c.is_in_order.ensures.secured (has_run_until _ _ _ c.in-Some.event _ _ so_far)))

pub returns-clause-safe : goal.returns-clause-safe
returns-clause-safe c =
    let counted = c.loop-event.event-iterator.rest.ok.0 in
    let over = c.in-None.ensures.steps.0 in
    let none : length (into_iter_items c.loop-event.event-iterator) ≡ 0 = omega arith in
    holds_safe _ (c.runs_keep_secured.ensures _ _ _ c.is_in_order.ensures.tracked c.is_in_order.ensures.faithful c.is_in_order.ensures.secured (has_run_all _ _ _ _ _ (c.loop-event.invariant.2) none))
