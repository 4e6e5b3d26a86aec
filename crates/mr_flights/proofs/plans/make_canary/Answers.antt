use Rattle.std.proofs.Common.{◌∙◌, ℕ, ap}
use Rattle.mr_pools.specs.Routing.{RoutingView}
use Rattle.mr_probes.specs.Choosing.{chosen_below, looked_at}
use Rattle.mr_flights.proofs.plans.make_canary.Goals as goal

pub returns-in-Ok : goal.returns-in-Ok
returns-in-Ok c =
    let prefix = c.args.values.now.prefix.now in
    let run = c.args.run in
    let count = c.min-count.result in
    record {
      plan = c.plan_of.result;
      is_plan = c.plan_of.ensures.plan;
      keys = ap (λ keys. keys.items) c.plan_of.ensures.keys ∙ c.in_ok-chosen.ensures.0
          ∙ ap (λ (r : RoutingView). chosen_below r prefix run count (looked_at count)) c.routing.ensures.routing
          ∙ ap (λ (n : ℕ). chosen_below c.args.config.now.routing prefix run n (looked_at n)) c.min-count.ensures;
      fresh = c.in-Ok.ensures;
    }
