use Rattle.std.proofs.Common.{◌≡◌, ◌<◌, List, ◌++◌, length, refl, sym, ap, subst, ◌∙◌, arith}
use Rattle.mr_history.specs.declared.entry.Entry.{Entry}
use Rattle.mr_world.specs.contracts.network.Network.{the_view}
use Rattle.mr_world.specs.Network.{IsReady}
use Rattle.mr_world.specs.Refusals.{refused_give_up, refused_answer}
use Rattle.mr_world.specs.Steps.{answered}
use Rattle.mr_world.specs.Tracked.{IsUnanswered}
use Rattle.mr_world.proofs.Lists.{at_read}
use Rattle.mr_world.proofs.NetworkLemmas.{same_moved}
use Rattle.mr_world.proofs.ProxyLemmas.{given_up_answers}
use Rattle.mr_world.proofs.TrackedLemmas.{answer_waits}
use Rattle.mr_world.proofs.network.Network.give_up.Goals as goal

pub tell-requires-clause-unanswered : goal.tell-requires-clause-unanswered
tell-requires-clause-unanswered c =
    let t = (subst IsReady (sym c.self.view_is) c.requires).tracked in
    let sized = c.self.inside.proxies.ok.0 in
    let count = c.len.ensures in
    let below = c.if-place-len.false in
    let within : c.args.op.proxy < length c.self.inside.proxies.items = omega arith in
    let p = c.index_mut-proxy.result.now in
    let at = at_read c.self.inside.proxies.items c.args.op.proxy p within c.index_mut-proxy.ensures.value in
    let waits = answer_waits (the_view c.self.inside).world c.args.op.proxy p c.in-Ok.answer t at (given_up_answers p c.args.op c.in-Ok.answer c.in-Ok.ensures.answer) in
    subst (λ (H : List Entry). IsUnanswered H c.in-Ok.answer.op) (sym c.in_ok-reserve.ensures.entries) waits

pub returns : goal.returns
returns c =
    let sized = c.self.inside.proxies.ok.0 in
    let count = c.len.ensures in
    let below = c.if-place-len.false in
    let within : c.args.op.proxy < length c.self.inside.proxies.items = omega arith in
    let p = c.index_mut-proxy.result.now in
    let at = at_read c.self.inside.proxies.items c.args.op.proxy p within c.index_mut-proxy.ensures.value in
    let w = (the_view c.self.inside).world in
    let answer = c.in-Ok.answer in
    let history : c.tell.new.history.entries ≡ c.self.inside.history.entries ++ answered answer =
    c.tell.ensures ∙ ap (λ l. l ++ answered answer) c.in_ok-reserve.ensures.entries in
    rw (← c.self.view_is) (
      ap (λ o. refused_give_up o c.args.op) at.gets ∙ ap refused_answer c.in-Ok.ensures.answer,
      record {
        proxy = p;
        answer = answer;
        home = at;
        gives = c.in-Ok.ensures.answer;
        tells = refl;
        becomes = same_moved w c.args.op.proxy _ _ _ _ c.in-Ok.ensures.state history;
      },
      refl,
    )
