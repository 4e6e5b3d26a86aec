use Rattle.std.proofs.Common.{◌∙◌, map}
use Rattle.serde_json.specs.View.{view}
use Rattle.mr_scripts.proofs.HomeIndexLemmas.{items_found}
use Rattle.mr_scripts.proofs.homes.are_housed.Goals as goal

pub returns-in-Ok : goal.returns-in-Ok
returns-in-Ok c =
    c.are_indexed.ensures
    ∙ items_found (view c.args.common.now) (map view c.args.proxies.now) c.in-Ok.index c.in-Ok.ensures (map view c.args.items.now)
