-- The fields of a schedule, back from its hops.
use Rattle.std.specs.Prelude.{◌≡◌, ◌-◌, List, ◌++◌, length, take, replicate}
use mathlib.Core.Path.{ap, sym, ◌∙◌}
use lib.ListN.{length-take, take-append-drop}
use Rattle.mr_phases.specs.Schedule.{Hop, most_hops}
use Rattle.mr_phases.specs.Filled.{IsFilled, no_hop}
use Rattle.mr_phases.specs.declared.schedule.Schedule.TheInside.{Inside}

-- the fields of a schedule of these hops: behind them come hops that don't count, up to four
abbrev pub fields_of : List Hop → Inside
fields_of hops = record { hops = hops ++ replicate (most_hops - length hops) no_hop; count = length hops }

-- fields that are filled are those of the hops that count
pub fields_back : (s : Inside) → IsFilled s.hops s.count → fields_of (take s.count s.hops) ≡ s
fields_back s h =
    let counted : length (take s.count s.hops) ≡ s.count = length-take s.count s.hops ∙ h.within in
    let whole : take s.count s.hops ++ replicate (most_hops - length (take s.count s.hops)) no_hop ≡ s.hops =
    ap (λ n. take s.count s.hops ++ replicate (most_hops - n) no_hop) counted
    ∙ ap (λ (l : List Hop). take s.count s.hops ++ l) (sym h.blank) ∙ take-append-drop s.count s.hops in
    λ i. record { hops = whole i; count = counted i }
