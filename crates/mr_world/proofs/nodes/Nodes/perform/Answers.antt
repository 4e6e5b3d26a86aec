use Rattle.std.proofs.Common.{◌≡◌, ◌∙◌, ◌<◌, Ok, Err, length, slice_set, MatchResult, refl, sym, ap, subst}
use Rattle.mr_node.specs.Recency.{CacheView, RecencyStep}
use Rattle.mr_world.specs.Nodes.{PerformsAt}
use Rattle.mr_world.proofs.NetworkLemmas.{set_same}
use Rattle.mr_world.proofs.NodeLemmas.{knows_written}
use Rattle.mr_world.proofs.Lists.{at_read}
use Rattle.mr_world.proofs.nodes.Nodes.perform.Goals as goal

pub invariant_of-self : goal.invariant_of-self
invariant_of-self c =
    let nodes = c.self.inside.nodes.items in
    let node = c.index_mut-node.result.now in
    let within = subst (λ l. c.args.number < length l) (sym c.self.view_is) c.requires in
    let at = at_read nodes c.args.number node within c.index_mut-node.ensures.value in
    knows_written c.self.inside.numbers nodes c.args.number node (record { name = node.name; cache = c.perform.new.self }) c.self.invariant at.gets refl

pub returns : goal.returns
returns c =
    let nodes = c.self.inside.nodes.items in
    let node = c.index_mut-node.result.now in
    let within = subst (λ l. c.args.number < length l) (sym c.self.view_is) c.requires in
    let at = at_read nodes c.args.number node within c.index_mut-node.ensures.value in
    let left = c.perform.new.self in
    let written = slice_set nodes c.args.number (record { name = node.name; cache = left }) in
    rw (← c.self.view_is)
    (elim c.perform.result as (λ result.
    MatchResult result (λ reply. RecencyStep node.cache c.args.now c.args.command reply left) (λ _. left ≡ node.cache)
    → MatchResult result (λ reply. PerformsAt nodes c.args.number c.args.now c.args.command reply written) (λ _. written ≡ nodes)) [
      | Ok reply ↦ λ step. record { node = node; there = at; left = left; step = step; becomes = refl }
      | Err e ↦ λ same. ap (λ (cache : CacheView). slice_set nodes c.args.number (record { name = node.name; cache = cache })) same ∙ set_same nodes c.args.number node at.gets
    ] c.perform.ensures.done)
