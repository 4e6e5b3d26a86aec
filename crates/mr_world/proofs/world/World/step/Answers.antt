use Rattle.mr_world.proofs.ReadyLemmas.{does_ready, does_premises}
use Rattle.mr_world.proofs.FactLemmas.{facts_of}
use Rattle.mr_world.proofs.GroundLemmas.{holds_safe}
use Rattle.mr_world.proofs.world.World.step.Goals as goal

pub invariant_of-self : goal.invariant_of-self
invariant_of-self c =
    does_ready c.steps_keep_tracked.ensures c.steps_keep_faithful.ensures c.steps_keep_secured.ensures c.self.inside.network c.args.event c.step.result c.step.new.self c.self.invariant c.step.ensures

pub returns-clause-premises : goal.returns-clause-premises
returns-clause-premises c =
    rw (← c.self.view_is)
    (does_premises c.runs_tell_premises.ensures c.self.inside.network c.args.event c.step.result c.step.new.self c.self.invariant c.step.ensures)

pub returns-clause-facts : goal.returns-clause-facts
returns-clause-facts c =
    let ready =
    does_ready c.steps_keep_tracked.ensures c.steps_keep_faithful.ensures c.steps_keep_secured.ensures c.self.inside.network c.args.event c.step.result c.step.new.self c.self.invariant
    c.step.ensures in
    facts_of c.step.new.self.world ready.tracked ready.faithful

pub returns-clause-ground : goal.returns-clause-ground
returns-clause-ground c =
    let ready =
    does_ready c.steps_keep_tracked.ensures c.steps_keep_faithful.ensures c.steps_keep_secured.ensures c.self.inside.network c.args.event c.step.result c.step.new.self
    c.self.invariant c.step.ensures in
    c.secured_fleets_show_ground.ensures c.step.new.self.world ready.secured

pub returns-clause-safe : goal.returns-clause-safe
returns-clause-safe c =
    let ready =
    does_ready c.steps_keep_tracked.ensures c.steps_keep_faithful.ensures c.steps_keep_secured.ensures c.self.inside.network c.args.event c.step.result c.step.new.self
    c.self.invariant c.step.ensures in
    holds_safe c.step.new.self.world ready.secured
