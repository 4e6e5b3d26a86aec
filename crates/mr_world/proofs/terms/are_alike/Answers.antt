use Rattle.std.proofs.Common.{◌≡◌, false, true}
use Rattle.mr_world.proofs.NetworkLemmas.{unlike}
use Rattle.mr_world.proofs.terms.are_alike.Goals as goal

pub returns-then-not-is_like : goal.returns-then-not-is_like
returns-then-not-is_like c = (
  λ claimed. let both : false ≡ true = claimed in (cc),
  λ alike.
      let like : c.is_like.result ≡ true =
      c.is_like.ensures.1 (unlike c.args.proxies.now c.in-Some.first.now c.proxy-item.result c.in-Some.rest.now c.loop-proxy.proxy-index (c.in-Some.ensures.cases.0)
      c.loop-proxy-test.true c.proxy-item.is alike) in
      let no_like = c.if-not-is_like.true in
      (cc),
)
