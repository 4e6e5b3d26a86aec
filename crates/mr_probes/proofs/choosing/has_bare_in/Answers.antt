use Rattle.std.proofs.Common.{◌≡◌, ◌∙◌, ◌<◌, ℕ, List, true, length, ap, sym, subst}
use Rattle.mr_pools.specs.Routing.{pool_of}
use Rattle.mr_probes.specs.Choosing.{is_bare}
use Rattle.mr_probes.proofs.ChoosingLemmas.{any_at, any_more}
use Rattle.mr_probes.proofs.choosing.has_bare_in.Goals as goal

pub returns-then-is_bare : goal.returns-then-is_bare
returns-then-is_bare c =
    let routing = c.args.routing.now in
    let number = c.args.number in
    let index = c.loop-index.index in
    let within : index < length (pool_of routing number) =
    subst (λ (n : ℕ). index < n) (c.len-index-end.ensures.length ∙ ap (λ (l : List (List ℕ)). length l) c.pool.ensures.pool) c.loop-index-test.true in
    let yes : is_bare routing c.args.keys.now number index ≡ true = sym c.is_bare.ensures ∙ c.if-is_bare.true in
    sym (any_at (is_bare routing c.args.keys.now number) (length (pool_of routing number)) index within yes)

pub loop-index-preserved : goal.loop-index-preserved
loop-index-preserved c =
    any_more (is_bare c.args.routing.now c.args.keys.now c.args.number) c.loop-index.index c.loop-index.invariant (sym c.is_bare.ensures ∙ c.if-is_bare.false)
