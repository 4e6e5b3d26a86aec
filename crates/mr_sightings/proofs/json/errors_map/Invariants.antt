use Rattle.std.proofs.Common.{◌≡◌, drop}
use Rattle.serde_json.specs.Data.{no_members}
use Rattle.serde_json.specs.View.{members_view}
use Rattle.mr_sightings.specs.Json.{with_errors}
use Rattle.mr_sightings.proofs.json.errors_map.Given as goal

abbrev pub invariant-loop-reason : goal.invariant-loop-reason
invariant-loop-reason l = with_errors (drop l.reason-index l.reasons) l.troubles (members_view l.map.entries) ≡ with_errors l.reasons l.troubles no_members
