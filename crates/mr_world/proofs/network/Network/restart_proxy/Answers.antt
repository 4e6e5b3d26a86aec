use Rattle.std.proofs.Common.{◌≢◌, ◌<◌, ◌-◌, ◌^◌, length, refl, sym, ap, subst, ◌∙◌, arith}
use Rattle.mr_proxy.specs.ProxyView.{ProxyView}
use Rattle.mr_world.specs.contracts.network.Network.{the_view}
use Rattle.mr_proxy.specs.declared.world_error.WorldError.TheVariants.{IssueRefused}
use Rattle.mr_world.specs.declared.event.Event.TheVariants.{ProxyRestart}
use Rattle.mr_world.specs.Refusals.{refused_restart, IsEventRefusal}
use Rattle.mr_world.proofs.Lists.{at_read}
use Rattle.mr_world.proofs.NetworkLemmas.{restart_accepted, restart_refused, unchanged}
use Rattle.mr_world.proofs.network.Network.restart_proxy.Goals as goal

pub returns-in-Err : goal.returns-in-Err
returns-in-Err c =
    let sized = c.self.inside.proxies.ok.0 in
    let count = c.len.ensures in
    let below = c.if-place-len.false in
    let within : c.args.number < length c.self.inside.proxies.items = omega arith in
    let p = c.index_mut-proxy.result.now in
    let at = at_read c.self.inside.proxies.items c.args.number p within c.index_mut-proxy.ensures.value in
    let v = the_view c.self.inside in
    let last = restart_refused p (λ apart. let accepted = c.in-Err.ensures.accepted.1 apart in (cc)) in
    rw (← c.self.view_is) (
      subst (λ o. IsEventRefusal o (ProxyRestart c.args.number) (IssueRefused c.in-Err.refusal)) (sym (ap refused_restart at.gets ∙ last))
          (ap IssueRefused (c.in-Err.ensures.spent.0)),
      unchanged v c.args.number c.restart.new.self p v.world.sent v.world.history at (c.in-Err.ensures.spent.1) refl refl,
    )

pub returns : goal.returns
returns c =
    let sized = c.self.inside.proxies.ok.0 in
    let count = c.len.ensures in
    let below = c.if-place-len.false in
    let within : c.args.number < length c.self.inside.proxies.items = omega arith in
    let p = c.index_mut-proxy.result.now in
    let at = at_read c.self.inside.proxies.items c.args.number p within c.index_mut-proxy.ensures.value in
    let w = (the_view c.self.inside).world in
    let apart : p.incarnation ≢ 2 ^ 64 - 1 = c.in_default.ensures.accepted.0 refl in
    rw (← c.self.view_is) (
      ap refused_restart at.gets ∙ restart_accepted p apart,
      record {
        proxy = p;
        home = at;
        not_last = apart;
        tells = refl;
        becomes = ap (λ (x : ProxyView). record w { proxies = Rattle.std.proofs.Common.slice_set w.proxies c.args.number x }) c.in_default.ensures.state;
      },
      refl,
    )
