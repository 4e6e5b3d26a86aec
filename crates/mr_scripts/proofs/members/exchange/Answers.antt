use Rattle.std.proofs.Common.{◌≡◌, string_bytes, ap, ◌∙◌, option_map, rules}
use Rattle.serde_json.specs.Data.{put}
use Rattle.serde_json.specs.Find.{get_member}
use Rattle.serde_json.specs.View.{view, members_view}
use Rattle.serde_json.proofs.Views.{members_view-insert_entry, view-lookup}
use Rattle.mr_scripts.proofs.members.exchange.Goals as goal

pub returns-clause-members : goal.returns-clause-members
returns-clause-members c =
    let old = c.args.members.now.entries in
    let copied : string_bytes c.in_ok-name.name ≡ c.args.key.now = search rules in
    ap members_view c.in_ok-insert.ensures.entries ∙ members_view-insert_entry old c.in_ok-name.name c.args.value
    ∙ ap (λ k. put k (view c.args.value) (members_view old)) copied

pub returns-clause-held : goal.returns-clause-held
returns-clause-held c =
    let old = c.args.members.now.entries in
    let copied : string_bytes c.in_ok-name.name ≡ c.args.key.now = search rules in
    ap (option_map view) c.in_ok-insert.ensures.old ∙ view-lookup (string_bytes c.in_ok-name.name) old
    ∙ ap (λ k. get_member k (members_view old)) copied
