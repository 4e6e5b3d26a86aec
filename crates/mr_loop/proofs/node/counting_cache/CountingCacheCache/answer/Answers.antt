use Rattle.std.proofs.Common.{◌∙◌, sym}
use Rattle.mr_loop.proofs.CapacityLemmas.{outcome_keeps}
use Rattle.mr_loop.proofs.node.counting_cache.CountingCacheCache.answer.Goals as goal

pub invariant_of-self-else-evicts : goal.invariant_of-self-else-evicts
invariant_of-self-else-evicts c =
    c.self.invariant
    ∙ sym (outcome_keeps c.self.inside.cache c.args.now c.args.request c.answer_on-outcome.result c.answer_on-outcome.new.node c.answer_on-outcome.ensures)
