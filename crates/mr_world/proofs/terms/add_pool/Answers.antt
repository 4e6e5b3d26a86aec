use Rattle.std.proofs.Common.{◌∙◌, ◌||◌, true, cond, bytes_eq, take, sym, ap}
use Rattle.std.proofs.lemmas.List.Folds.{list_any_more}
use Rattle.mr_world.specs.Terms.{is_in, is_among}
use Rattle.mr_world.proofs.TermLemmas.{name_added, or_added}
use Rattle.mr_world.proofs.terms.add_pool.Goals as goal

pub loop-name-preserved : goal.loop-name-preserved
loop-name-preserved c = λ q.
    let items = c.names-name-items.result.now in
    let place = c.loop-name.name-index in
    let name = c.name-item.result in
    let first = is_among c.args.names.now q in
    let so_far = is_in (take place items) q in
    let added = name_added c.as_str.result.now c.loop-name.names c.insert.new.self c.in_ok-insert.ensures.updates q in
    added ∙ ap (λ bytes. cond (bytes_eq bytes q) true (is_among c.loop-name.names q)) c.as_str.ensures
    ∙ ap (cond (bytes_eq name q) true) (c.loop-name.invariant q) ∙ or_added first so_far (bytes_eq name q)
    ∙ ap (λ n. first || (so_far || bytes_eq n q)) c.name-item.is
    ∙ ap (λ b. first || b) (sym (list_any_more (λ other. bytes_eq other q) items place name c.loop-name-test.true))
