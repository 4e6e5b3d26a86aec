use Rattle.std.proofs.Common.{◌≡◌, ◌∙◌, ◌||◌, [], ap, cond, true, subst, unwrap_or, rules}
use Rattle.std.specs.Str.{bytes_eq}
use Rattle.serde_json.specs.Find.{as_str}
use Rattle.serde_json.specs.View.{view}
use Rattle.mr_configs.specs.Fields.{Text, is_one_of}
use Rattle.mr_configs.specs.Pools.{names_in}
use Rattle.mr_scripts.specs.steps.HomeIndex.{has_name}
use Rattle.mr_scripts.proofs.HomeIndexLemmas.{name_added, name_moved}
use Rattle.mr_scripts.proofs.ListLemmas.{turn}
use Rattle.mr_scripts.proofs.homes.add_names.Goals as goal

pub loop-value-preserved : goal.loop-value-preserved
loop-value-preserved c name =
    let first : Text = unwrap_or (as_str (view c.value-item.result)) [] in
    let is : c.unwrap_or.result.now ≡ first = search rules in
    let added = name_added c.unwrap_or.result.now c.loop-value.index c.insert.new.self c.in_ok-insert.ensures.updates name in
    let added : has_name c.insert.new.self name ≡ cond (bytes_eq first name) true (has_name c.loop-value.index name) =
    subst (λ text. has_name c.insert.new.self name ≡ cond (bytes_eq text name) true (has_name c.loop-value.index name)) is added in
    c.loop-value.invariant name
    ∙ ap (λ left. is_one_of (names_in left) name || has_name c.loop-value.index name) (turn view c.args.values.now c.loop-value.value-index _ c.loop-value-test.true c.value-item.is)
    ∙ name_moved first _ name _ _ added
