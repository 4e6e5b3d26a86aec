-- What requests come to.
use Rattle.std.specs.Prelude.{Bool, true}
use Rattle.mr_sightings.specs.Trouble.{is_error}
use Rattle.mr_sightings.specs.declared.outcome.Outcome.{Outcome}
use Rattle.mr_sightings.specs.declared.outcome.Outcome.TheVariants.{Hit, Miss, Stored, Acknowledged, Failed}

-- whether a proxy answered
abbrev pub is_answer : Outcome → Bool
is_answer Hit = true
is_answer Miss = true
is_answer Stored = true
is_answer Acknowledged = true
is_answer (Failed trouble) = is_error trouble
