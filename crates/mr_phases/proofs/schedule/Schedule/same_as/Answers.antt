use Rattle.std.proofs.Common.{◌≡◌, Bool, nat_eq, ◌&&◌, ap}
use Rattle.std.specs.Bool.{Decides}
use Rattle.std.specs.Cmp.Lexicographic.{pointwise}
use Rattle.std.proofs.lemmas.Bool.Decides.{Decides-and, Decides-eqb}
use Rattle.std.proofs.lemmas.Slice.Eq.{slice_eq-Decides}
use Rattle.mr_phases.specs.Schedule.{Hop}
use Rattle.mr_phases.proofs.schedule.Schedule.same_as.Goals as goal

abbrev same_hop : Hop → Hop → Bool
same_hop a b = nat_eq a.start b.start && nat_eq a.interval b.interval

same_hop-Decides : (a b : Hop) → Decides (same_hop a b) (a ≡ b)
same_hop-Decides a b =
    let both = Decides-and (nat_eq a.start b.start) (nat_eq a.interval b.interval) (Decides-eqb a.start b.start) (Decides-eqb a.interval b.interval) in
    (λ e. let fields = both.0 e in λ i. record { start = fields.0 i; interval = fields.1 i }, λ e. both.1 (ap (λ (h : Hop). h.start) e, ap (λ (h : Hop). h.interval) e))

pub returns : goal.returns
returns c =
    let same : c.eq.result ≡ pointwise same_hop c.args.self.now c.args.other.now = cc in
    slice_eq-Decides same_hop-Decides c.args.self.now c.args.other.now c.eq.result same
