use Rattle.std.proofs.Common.{◌≡◌, drop}
use Rattle.serde_json.specs.Data.{no_members}
use Rattle.serde_json.specs.View.{members_view}
use Rattle.mr_sightings.specs.Json.{members_json}
use Rattle.mr_sightings.proofs.json.map_of.Given as goal

abbrev pub invariant-loop-name : goal.invariant-loop-name
invariant-loop-name l = members_json (drop l.name-index l.members) (members_view l.map.entries) ≡ members_json l.members no_members
