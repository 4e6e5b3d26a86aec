use Rattle.mr_world.proofs.FactLemmas.{facts_of}
use Rattle.mr_world.proofs.GroundLemmas.{holds_safe}
use Rattle.mr_world.proofs.world.World.new.Goals as goal

pub invariant_of-result : goal.invariant_of-result
invariant_of-result c = record {
  tracked = c.setups_begin_tracked.ensures c.args.setup c.in_ok-network.network.world (c.in_ok-network.ensures.begins.1) c.in_ok-network.ensures.sound;
  faithful = c.setups_begin_faithful.ensures c.args.setup c.in_ok-network.network.world (c.in_ok-network.ensures.begins.1);
  secured = c.setups_begin_secured.ensures c.args.setup c.in_ok-network.network.world (c.in_ok-network.ensures.begins.1) c.in_ok-network.ensures.plans;
  numbers = c.in_ok-network.ensures.numbers;
}

pub returns-clause-premises : goal.returns-clause-premises
returns-clause-premises c = c.setups_tell_premises.ensures c.args.setup c.in_ok-network.network.world (c.in_ok-network.ensures.begins.1)

pub returns-clause-facts : goal.returns-clause-facts
returns-clause-facts c =
    let w = c.in_ok-network.network.world in
    let begins = c.in_ok-network.ensures.begins.1 in
    facts_of w (c.setups_begin_tracked.ensures c.args.setup w begins c.in_ok-network.ensures.sound) (c.setups_begin_faithful.ensures c.args.setup w begins)

pub returns-clause-ground : goal.returns-clause-ground
returns-clause-ground c =
    let w = c.in_ok-network.network.world in
    c.secured_fleets_show_ground.ensures w (c.setups_begin_secured.ensures c.args.setup w (c.in_ok-network.ensures.begins.1) c.in_ok-network.ensures.plans)

pub returns-clause-safe : goal.returns-clause-safe
returns-clause-safe c =
    let w = c.in_ok-network.network.world in
    holds_safe w (c.setups_begin_secured.ensures c.args.setup w (c.in_ok-network.ensures.begins.1) c.in_ok-network.ensures.plans)
