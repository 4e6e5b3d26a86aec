use Rattle.std.proofs.Common.{◌≡◌, ◌∙◌, ◌||◌, ap, rules, subst, sym}
use Rattle.serde_json.specs.View.{view}
use Rattle.mr_configs.specs.Fields.{Text}
use Rattle.mr_scripts.specs.Homes.{config_at, pools_at, values_name}
use Rattle.mr_scripts.specs.steps.HomeIndex.{has_name}
use Rattle.mr_scripts.specs.Setups.{pools_name}
use Rattle.mr_scripts.proofs.HomeIndexLemmas.{proxy_moved, twice, kept}
use Rattle.mr_scripts.proofs.ListLemmas.{turn}
use Rattle.mr_scripts.proofs.homes.index_of_nodes.Goals as goal
use Rattle.mr_scripts.proofs.homes.index_of_nodes.Goals.{in-Some+in_ok-add_nodes-in-Some, in-None, in-None-2+in_ok-add_nodes-in-None-2}

pub loop-proxy-preserved : goal.loop-proxy-preserved
loop-proxy-preserved c =
    let common = view c.args.common.now in
    let proxy = view c.proxy-item.result in
    let old = has_name c.loop-proxy.index in
    let new = has_name c.match-get.index in
    let so_far = λ (name : Text). c.loop-proxy.invariant.0 name
    ∙ ap (λ left. values_name common left name || old name)
    (turn view c.args.proxies.now c.loop-proxy.proxy-index _ c.loop-proxy-test.true c.proxy-item.is) in
    elim c.match-get.branch [
      | in-Some+in_ok-add_nodes-in-Some w ↦
          let is : config_at common proxy ≡ view w.in-Some.own.now = search rules in
          let added = λ (name : Text). ap (λ index. has_name index name) w.index-is ∙ w.in_ok-add_nodes-in-Some.ensures name in (
            λ name. so_far name ∙ proxy_moved _ _ _ _ (added name ∙ ap (λ config. pools_name (pools_at config) name || old name) (sym is)),
            λ has name. kept (pools_name (pools_at common) name) _ (old name) (new name) (c.loop-proxy.invariant.1 (sym w.has_common-is ∙ has) name) (added name),
          )
      | in-None w ↦
          let is : config_at common proxy ≡ common = search rules in
          let had = c.loop-proxy.invariant.1 w.if-has_common.true in (
            λ name. so_far name ∙ proxy_moved _ _ _ _ (ap (λ index. has_name index name) w.index-is ∙ sym (had name) ∙ ap (λ config. pools_name (pools_at config) name || old name) (sym is)),
            λ has name. subst (λ index. (pools_name (pools_at common) name || has_name index name) ≡ has_name index name) (sym w.index-is) (had name),
          )
      | in-None-2+in_ok-add_nodes-in-None-2 w ↦
          let is : config_at common proxy ≡ common = search rules in
          let added = λ (name : Text). ap (λ index. has_name index name) w.index-is ∙ w.in_ok-add_nodes-in-None-2.ensures name in (
            λ name. so_far name ∙ proxy_moved _ _ _ _ (added name ∙ ap (λ config. pools_name (pools_at config) name || old name) (sym is)),
            λ has name. twice (pools_name (pools_at common) name) (old name) (new name) (added name),
          )
    ]
