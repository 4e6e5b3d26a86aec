use Rattle.std.proofs.Common.{◌≡◌, ◌<◌, get_or, length, sym, ◌∙◌, subst}
use Rattle.std.proofs.lemmas.Option.{slice_get-get_or}
use Rattle.mr_phases.specs.Schedule.{Hop, hop_of, phase_in}
use Rattle.mr_phases.proofs.WalkLemmas.{phase_of_hop}
use Rattle.mr_phases.proofs.schedule.Schedule.phase_at.Goals as goal

pub returns-clause-phase : goal.returns-clause-phase
returns-clause-phase c =
    let hops = c.args.self.now in
    let none : Hop = record { start = 0; interval = 0 } in
    let read : c.phase.result ≡ phase_in (get_or hops (hop_of hops c.args.now) none) c.args.now = cc in
    let within : hop_of hops c.args.now < length hops = subst (λ n. n < length hops) c.hop_at.ensures.hop c.hop_at.ensures.within in
    let there = slice_get-get_or hops (hop_of hops c.args.now) none within in
    read ∙ sym (phase_of_hop hops c.args.now (get_or hops (hop_of hops c.args.now) none) there)
