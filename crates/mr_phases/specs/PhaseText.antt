-- How a phase is printed.
use Rattle.std.specs.Prelude.{ℕ, List, codes}
use Rattle.mr_phases.specs.declared.phase_name.PhaseName.{PhaseName}
use Rattle.mr_phases.specs.declared.phase_name.PhaseName.TheVariants.{OldOnly, BothReadOld, BothReadNew, NewOnly}

-- the printed name of each phase
abbrev pub phase_text : PhaseName → List ℕ
phase_text OldOnly = codes "old-only"
phase_text BothReadOld = codes "both-read-old"
phase_text BothReadNew = codes "both-read-new"
phase_text NewOnly = codes "new-only"
