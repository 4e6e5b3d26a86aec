use Rattle.std.proofs.Common.{◌≡◌, ◌∙◌, ◌<◌, ℕ, List, true, length, sym, subst}
use Rattle.mr_probes.specs.Choosing.{has_bare_in}
use Rattle.mr_probes.proofs.ChoosingLemmas.{any_at}
use Rattle.mr_probes.proofs.choosing.has_bare.Goals as goal

pub returns-then-has_bare_in-clause-bare : goal.returns-then-has_bare_in-clause-bare
returns-then-has_bare_in-clause-bare c =
    let routing = c.args.routing.now in
    let number = c.loop-number.number in
    let within : number < length routing.pools = subst (λ (pools : List (List (List ℕ))). number < length pools) c.pools-number-end.ensures.pools c.loop-number-test.true in
    let yes : has_bare_in routing c.args.keys.now number ≡ true = sym c.has_bare_in.ensures ∙ c.if-has_bare_in.true in
    sym (any_at (has_bare_in routing c.args.keys.now) (length routing.pools) number within yes)
