use Rattle.std.proofs.Common.{◌≡◌, ◌∙◌, [], ap, length, replicate, vec_len}
use Rattle.std.proofs.lemmas.List.{length-replicate}
use Rattle.mr_canary.specs.steps.Watched.{fresh_watched, kept_of}
use Rattle.mr_canary.proofs.KeysLemmas.{fresh_kept, judge_is}
use Rattle.mr_canary.proofs.RequestLemmas.{nothing_known}
use Rattle.mr_canary.proofs.judge.Judge.new.Goals as goal

pub invariant_of-result : goal.invariant_of-result
invariant_of-result c = rw (c.new-2.ensures, c.in_ok-fresh_keys.ensures) (nothing_known c.new.result c.args.room c.args.keys c.new.ensures.empty)

pub returns-clause-ok : goal.returns-clause-ok
returns-clause-ok c =
    let items : c.in_ok-fresh_keys.field-0.items ≡ replicate c.args.keys fresh_watched = c.in_ok-fresh_keys.ensures in
    let many : vec_len c.in_ok-fresh_keys.field-0 ≡ c.args.keys = c.in_ok-fresh_keys.field-0.ok.0 ∙ ap length items ∙ length-replicate c.args.keys fresh_watched in
    judge_is c.new-2.result [] (vec_len c.in_ok-fresh_keys.field-0) c.args.keys c.args.room (kept_of c.in_ok-fresh_keys.field-0.items) (replicate c.args.keys 0)
    c.new-2.ensures many (ap kept_of items ∙ fresh_kept c.args.keys)
