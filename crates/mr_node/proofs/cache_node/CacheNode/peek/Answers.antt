use Rattle.std.proofs.Common.{◌∙◌, sym}
use Rattle.mr_node.proofs.EntryLemmas.{item_is}
use Rattle.mr_node.proofs.cache_node.CacheNode.peek.Goals as goal

pub returns : goal.returns
returns c = rw (sym c.self.view_is) (c.peek.ensures ∙ item_is c.args.key.now c.self.inside.items.entries)
