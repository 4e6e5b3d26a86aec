use Rattle.mr_flights.specs.Flock.{CanaryStep}
use Rattle.mr_flights.proofs.flock.FlockLinked.TheImpl.Goals as goal

pub on_link_dialed-tells : goal.on_link_dialed-tells
on_link_dialed-tells x c = CanaryStep.dialed c.ensures

pub on_link_up-tells : goal.on_link_up-tells
on_link_up-tells x c = CanaryStep.came_up _ _ c.ensures

pub on_link_bytes-tells : goal.on_link_bytes-tells
on_link_bytes-tells x c = CanaryStep.took _ _ _ c.ensures.goes c.ensures.takes

pub on_link_broken-tells : goal.on_link_broken-tells
on_link_broken-tells x c = CanaryStep.broke _ _ c.ensures

pub on_link_written-tells : goal.on_link_written-tells
on_link_written-tells x c = CanaryStep.wrote _ _ c.ensures

pub on_tick-tells : goal.on_tick-tells
on_tick-tells x c = CanaryStep.ticked _ c.ensures
