-- What a judgement says.
use Rattle.std.specs.Prelude.{◌≡◌, ℕ, List}
use Rattle.mr_phases.specs.declared.phase_name.PhaseName.{PhaseName}
use Rattle.mr_phases.specs.declared.phase_name.PhaseName.TheVariants.{OldOnly, BothReadOld, BothReadNew, NewOnly}
use Rattle.mr_phases.specs.declared.judged.Judged.{Judged}
use Rattle.mr_phases.specs.declared.judged.Judged.TheVariants as judged
use Rattle.mr_phases.specs.Schedule.{Hop, phase_of}
use Rattle.mr_phases.specs.Reading.{Reading}

-- the phase that the variant names
abbrev pub name_of : Judged → PhaseName
name_of (judged.OldOnly r) = OldOnly
name_of (judged.BothReadOld r) = BothReadOld
name_of (judged.BothReadNew r) = BothReadNew
name_of (judged.NewOnly r) = NewOnly

-- the reading that the variant holds, with its hops
abbrev pub held_reading : Judged → Reading
held_reading (judged.OldOnly r) = r
held_reading (judged.BothReadOld r) = r
held_reading (judged.BothReadNew r) = r
held_reading (judged.NewOnly r) = r

-- the reading that was judged
abbrev pub reading_of : Judged → ℕ
reading_of j = (held_reading j).reading

-- the schedule by which it was judged
abbrev pub hops_of : Judged → List Hop
hops_of j = (held_reading j).hops

-- the judgement of this reading in this schedule: these three make up the whole of it
pub record IsJudgement (hops : List Hop) (now : ℕ) (j : Judged) : Type 0 where
  pub name : name_of j ≡ phase_of hops now
  pub reading : reading_of j ≡ now
  pub schedule : hops_of j ≡ hops
