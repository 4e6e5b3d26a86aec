use Rattle.std.proofs.Common.{◌∙◌, ap}
use Rattle.std.specs.BTreeMap.{get_by_text}
use Rattle.mr_world.proofs.nodes.Nodes.find.Goals as goal

pub returns : goal.returns
returns c =
    rw (← c.self.view_is)
    (c.copied.ensures ∙ c.get.ensures.value ∙ ap (get_by_text c.self.inside.numbers) c.as_str.ensures ∙ c.self.invariant c.args.name.now)
