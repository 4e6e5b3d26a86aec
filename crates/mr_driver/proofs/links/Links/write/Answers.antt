use Rattle.mr_driver.proofs.GoingLemmas.{once, through}
use Rattle.mr_driver.proofs.links.Links.write.Goals as goal

pub returns-in-Broken : goal.returns-in-Broken
returns-in-Broken g c = through _ _ _ _ (once _ _ _ c.on_link_written.ensures) c.break_off.ensures
