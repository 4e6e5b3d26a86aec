use Rattle.std.proofs.Common.{rules, ◌≡◌, min, fold}
use Rattle.mr_phases.specs.Schedule.{Hop}
use Rattle.mr_phases.proofs.LeastLemmas.{least_folded}
use Rattle.mr_phases.proofs.schedule.Schedule.least_interval.Goals as goal

pub returns-clause-least : goal.returns-clause-least
returns-clause-least c =
    let ran : c.fold.result ≡ fold (λ least (hop : Hop). min least hop.interval) c.interval.result c.as_slice-hops.result.now = search rules in
    let least = least_folded c.args.self.now c.as_slice-hops.ensures.valid.begins in
    cc
