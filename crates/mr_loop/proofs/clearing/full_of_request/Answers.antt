use Rattle.std.proofs.Common.{◌≡◌, ap, ◌∙◌}
use Rattle.mr_text.specs.declared.request.Request.TheVariants as asked
use Rattle.mr_phases.specs.Schedule.{hop_of, phase_of}
use Rattle.mr_phases.specs.Sides.{read_side_of}
use Rattle.mr_pools.specs.Routing.{RoutingView}
use Rattle.mr_proxy.specs.Issue.{next_op, used_reading}
use Rattle.mr_loop.specs.steps.Clearing.{full_of_keys}
use Rattle.mr_loop.proofs.ClearLemmas.{get_same}
use Rattle.mr_loop.proofs.clearing.full_of_request.Goals as goal

pub returns-in-Get : goal.returns-in-Get
returns-in-Get c =
    let judgement = c.judge-judged.ensures.judgement in
    let schedule = judgement.schedule ∙ c.schedule.ensures in
    let reading = judgement.reading ∙ c.used_reading-used.ensures in
    let hop : c.hop-hop.result ≡ hop_of c.args.core.now.schedule (used_reading c.args.core.now.last c.args.reading) = cc (c.hop-hop.ensures.hop, schedule, reading) in
    let side : c.read_side.result ≡ read_side_of (phase_of c.args.core.now.schedule (used_reading c.args.core.now.last c.args.reading)) =
    cc (c.read_side.ensures, schedule, reading) in
    let asks : c.args.request.now ≡ asked.Get c.as_slice.result.now = cc (c.in-Get.is, c.as_slice.ensures.keys) in
    c.full_of_keys.ensures
    ∙ ap (λ (r : RoutingView). full_of_keys c.args.most r c.pool_number-pool.result c.as_slice.result.now c.args.links.now) c.routing-routing.ensures
    ∙ get_same c.args.most c.args.core.now.routing c.args.core.now.schedule (next_op c.args.core.now) (used_reading c.args.core.now.last c.args.reading)
    c.hop-hop.result c.pool_number-pool.result c.read_side.result c.as_slice.result.now c.args.request.now c.args.links.now hop side c.pool_number-pool.ensures asks
