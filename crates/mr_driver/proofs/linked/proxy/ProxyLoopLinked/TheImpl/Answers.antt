use Rattle.mr_driver.specs.Going.{LinkStep}
use Rattle.mr_driver.proofs.linked.proxy.ProxyLoopLinked.TheImpl.Goals as goal

pub on_link_dialed-tells : goal.on_link_dialed-tells
on_link_dialed-tells x c = LinkStep.dialed _ c.ensures

pub on_link_up-tells : goal.on_link_up-tells
on_link_up-tells x c = LinkStep.came_up _ _ c.ensures

pub on_link_bytes-tells : goal.on_link_bytes-tells
on_link_bytes-tells x c = LinkStep.took _ _ _ _ c.ensures

pub on_link_broken-tells : goal.on_link_broken-tells
on_link_broken-tells x c = LinkStep.broke _ _ c.ensures

pub on_link_written-tells : goal.on_link_written-tells
on_link_written-tells x c = LinkStep.wrote _ _ c.ensures

pub on_tick-tells : goal.on_tick-tells
on_tick-tells x c = LinkStep.ticked _ c.ensures
