use Rattle.std.proofs.Common.{◌∙◌, refl, sym}
use Rattle.std.proofs.lemmas.Result.{MatchResult-from_err}
use Rattle.mr_node.proofs.EntryLemmas.{rest_is, put_is, refused_is_new}
use Rattle.mr_node.proofs.KeptLemmas.{kept-without, kept-put_in_front}
use Rattle.mr_node.proofs.cache_node.CacheNode.set.Goals as goal
use Rattle.mr_node.proofs.cache_node.CacheNode.set.Goals.{then-is_alive+in_ok-put+in-Some-1, then-is_alive+in_ok-put+in-None-1, else-is_alive}

pub returns-in_err-put : goal.returns-in_err-put
returns-in_err-put c =
    MatchResult-from_err c.from_residual.result _ _ c.from_residual.ensures.0 (λ _. (
      rw (sym c.self.view_is, c.in_err-put.ensures.err) refl,
      sym c.is_alive.ensures ∙ c.if-is_alive.true,
      rw (sym c.self.view_is) (refused_is_new c.args.key c.self.inside.items.entries c.put.result _ c.in_err-put.was c.put.ensures.succeeds),
    ))

pub invariant_of-self-in_ok-put : goal.invariant_of-self-in_ok-put
invariant_of-self-in_ok-put c =
    rw (c.in_ok-put.ensures.entries, put_is _ c.args.key _ c.args.item c.self.invariant) (kept-put_in_front _ (c.args.key, c.args.item) _ c.self.invariant)

pub invariant_of-self-in_ok-put-2 : goal.invariant_of-self-in_ok-put-2
invariant_of-self-in_ok-put-2 c =
    rw (c.in_ok-put.ensures.entries, put_is _ c.args.key _ c.args.item c.self.invariant) (kept-put_in_front _ (c.args.key, c.args.item) _ c.self.invariant)

pub invariant_of-self-else-is_alive : goal.invariant_of-self-else-is_alive
invariant_of-self-else-is_alive c = rw (c.pop.ensures.entries, rest_is _ _ c.self.invariant.distinct) (kept-without _ _ _ c.self.invariant)

pub returns : goal.returns
returns c =
    elim c.if-is_alive.branch [
      | then-is_alive+in_ok-put+in-Some-1 w ↦ (
        refl,
        rw (w.self-is, sym c.self.view_is, w.in_ok-put.ensures.entries, sym c.is_alive.ensures ∙ w.if-is_alive.true, put_is _ c.args.key _ c.args.item c.self.invariant)
            refl,
      )
      | then-is_alive+in_ok-put+in-None-1 w ↦ (
        refl,
        rw (w.self-is, sym c.self.view_is, w.in_ok-put.ensures.entries, sym c.is_alive.ensures ∙ w.if-is_alive.true, put_is _ c.args.key _ c.args.item c.self.invariant)
            refl,
      )
      | else-is_alive w ↦ (
        refl,
        rw (w.self-is, sym c.self.view_is, w.pop.ensures.entries, sym c.is_alive.ensures ∙ w.if-is_alive.false, rest_is c.args.key _ c.self.invariant.distinct) refl,
      )
    ]
