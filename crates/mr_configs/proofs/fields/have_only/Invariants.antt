use Rattle.std.proofs.Common.{◌≡◌, map}
use Rattle.serde_json.specs.View.{members_view}
use Rattle.mr_configs.specs.Fields.{have_only}
use Rattle.mr_configs.proofs.fields.have_only.Given as goal

abbrev pub invariant-loop-key : goal.invariant-loop-key
invariant-loop-key l =
    (goal.iterator-loop-key).can_next l.key-iterator ×
    (goal.iterator-loop-key).is_finite l.key-iterator ×
    (have_only (map (λ known. known.now) l.keys) (members_view l.members.entries)
    ≡ have_only (map (λ known. known.now) l.keys) (members_view l.key-iterator))
