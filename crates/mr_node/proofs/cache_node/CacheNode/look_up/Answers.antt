use Rattle.std.proofs.Common.{◌∙◌, refl, sym, ap}
use Rattle.std.proofs.lemmas.Result.{MatchResult-from_err}
use Rattle.std.specs.Option.{option_copied}
use Rattle.mr_node.proofs.EntryLemmas.{found_is, absent_is, rest_is, front_is}
use Rattle.mr_node.proofs.KeptLemmas.{kept-without, kept-in_front}
use Rattle.mr_node.proofs.CommandLemmas.{get_misses, get_drops, get_hits, may_lack}
use Rattle.mr_node.proofs.cache_node.CacheNode.look_up.Goals as goal

pub returns-in_default : goal.returns-in_default
returns-in_default c =
    let none = absent_is c.args.key.now c.self.inside.items.entries (sym c.peek.ensures ∙ ap option_copied c.in_default.is) in
    rw (sym c.self.view_is) (get_misses c.self.inside.items.cap c.args.now c.args.key.now _ none)

pub invariant_of-self : goal.invariant_of-self
invariant_of-self c = rw (c.pop.ensures.entries, rest_is _ _ c.self.invariant.distinct) (kept-without _ _ _ c.self.invariant)

pub returns-then-not-is_alive : goal.returns-then-not-is_alive
returns-then-not-is_alive c =
    let found = found_is c.args.key.now c.self.inside.items.entries c.in-Some.item.now (sym c.peek.ensures ∙ ap option_copied c.in-Some.is) in
    rw (sym c.self.view_is, c.pop.ensures.entries, rest_is c.args.key.now _ c.self.invariant.distinct)
    (get_drops c.self.inside.items.cap c.args.now c.args.key.now _ c.in-Some.item.now found (sym c.is_alive.ensures ∙ c.if-not-is_alive.true))

pub returns-in_err-reply : goal.returns-in_err-reply
returns-in_err-reply c =
    let found = found_is c.args.key.now c.self.inside.items.entries c.in-Some.item.now (sym c.peek.ensures ∙ ap option_copied c.in-Some.is) in
    MatchResult-from_err c.from_residual.result _ _ c.from_residual.ensures.0 (λ _. (
      refl,
      rw (sym c.self.view_is) (may_lack c.self.inside.items.cap c.args.now c.args.key.now _ c.in-Some.item.now found
          (sym c.is_alive.ensures ∙ c.if-not-is_alive.false)),
    ))

pub invariant_of-self-2 : goal.invariant_of-self-2
invariant_of-self-2 c =
    let there = sym c.peek.ensures ∙ ap option_copied c.in-Some.is in
    rw (c.promote.ensures.entries, front_is c.args.key.now c.self.inside.items.entries c.in-Some.item.now c.self.invariant.distinct there)
    (kept-in_front _ c.args.key.now _ c.in-Some.item.now (found_is c.args.key.now c.self.inside.items.entries c.in-Some.item.now there) c.self.invariant)

pub returns : goal.returns
returns c =
    let there = sym c.peek.ensures ∙ ap option_copied c.in-Some.is in
    let found = found_is c.args.key.now c.self.inside.items.entries c.in-Some.item.now there in
    rw (sym c.self.view_is, c.promote.ensures.entries, front_is c.args.key.now c.self.inside.items.entries c.in-Some.item.now c.self.invariant.distinct there, c.in_ok-reply.ensures)
    (get_hits c.self.inside.items.cap c.args.now c.args.key.now _ c.in-Some.item.now found (sym c.is_alive.ensures ∙ c.if-not-is_alive.false))
