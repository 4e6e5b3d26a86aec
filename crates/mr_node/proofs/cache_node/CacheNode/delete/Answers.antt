use Rattle.std.proofs.Common.{◌∙◌, sym}
use Rattle.mr_node.proofs.EntryLemmas.{found_is, absent_is, rest_is}
use Rattle.mr_node.proofs.KeptLemmas.{kept-without}
use Rattle.mr_node.proofs.CommandLemmas.{deletes, delete_drops, delete_misses}
use Rattle.mr_node.proofs.cache_node.CacheNode.delete.Goals as goal
use Rattle.mr_node.proofs.cache_node.CacheNode.delete.Goals.{in_default-via-in-Some+else-is_alive, in_default-via-in_default}

pub invariant_of-self : goal.invariant_of-self
invariant_of-self c = rw (c.pop.ensures.entries, rest_is _ _ c.self.invariant.distinct) (kept-without _ _ _ c.self.invariant)

pub invariant_of-self-2 : goal.invariant_of-self-2
invariant_of-self-2 c = rw (c.pop.ensures.entries, rest_is _ _ c.self.invariant.distinct) (kept-without _ _ _ c.self.invariant)

pub returns-in-Some : goal.returns-in-Some
returns-in-Some c =
    let found = found_is c.args.key c.self.inside.items.entries c.in-Some.item (sym c.pop.ensures.value ∙ c.in-Some.is) in
    rw (sym c.self.view_is, c.pop.ensures.entries, rest_is c.args.key _ c.self.invariant.distinct)
    (deletes c.self.inside.items.cap c.args.now c.args.key _ c.in-Some.item found (sym c.is_alive.ensures ∙ c.if-is_alive.true))

pub returns : goal.returns
returns c =
    elim c.in_default.branch [
      | in_default-via-in-Some+else-is_alive w ↦
          let found = found_is c.args.key c.self.inside.items.entries w.in-Some.item (sym c.pop.ensures.value ∙ w.in-Some.is) in
          rw (sym c.self.view_is, c.pop.ensures.entries, rest_is c.args.key _ c.self.invariant.distinct)
          (delete_drops c.self.inside.items.cap c.args.now c.args.key _ w.in-Some.item found (sym w.is_alive.ensures ∙ w.if-is_alive.false))
      | in_default-via-in_default w ↦
          let none = absent_is c.args.key c.self.inside.items.entries (sym c.pop.ensures.value ∙ w.in_default.is) in
          rw (sym c.self.view_is, c.pop.ensures.entries, rest_is c.args.key _ c.self.invariant.distinct)
          (delete_misses c.self.inside.items.cap c.args.now c.args.key _ none)
    ]
