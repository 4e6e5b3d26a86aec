use Rattle.std.proofs.Common.{◌≡◌, ◌∙◌, ◌<◌, ℕ, List, true, length, sym, ap, subst}
use Rattle.mr_probes.specs.Choosing.{hits_bare_in, is_bare}
use Rattle.mr_probes.proofs.ChoosingLemmas.{any_at}
use Rattle.mr_probes.proofs.choosing.hits_bare.Goals as goal

pub returns-then-is_bare : goal.returns-then-is_bare
returns-then-is_bare c =
    let routing = c.args.routing.now in
    let keys = c.args.keys.now in
    let number = c.loop-number.number in
    let within : number < length routing.pools = subst (λ (pools : List (List (List ℕ))). number < length pools) c.pools-number-end.ensures.pools c.loop-number-test.true in
    let yes : hits_bare_in routing keys c.args.key.now number ≡ true = ap (is_bare routing keys number) (sym c.place.ensures.place) ∙ sym c.is_bare.ensures ∙ c.if-is_bare.true in
    sym (any_at (hits_bare_in routing keys c.args.key.now) (length routing.pools) number within yes)
