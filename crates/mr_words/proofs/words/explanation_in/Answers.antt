use Rattle.std.proofs.Common.{◌∙◌, sym, codes}
use Rattle.clap.proofs.WalkLemmas.{first_value-rows, one_text-rows}
use Rattle.clap.specs.Words.{found_of, rows_of}
use Rattle.mr_words.proofs.WordLemmas.{explanation_read, no_explanation_read, number_missing, number_read, text_missing}
use Rattle.mr_words.proofs.words.explanation_in.Goals as goal

pub returns-clause-found : goal.returns-clause-found
returns-clause-found c =
    let f = found_of c.args.matches.now in
    let number = number_read _ _ c.in_ok-get_one.ensures.none (λ t is. (c.in_ok-get_one.ensures.value t is).0) in
    explanation_read (rows_of f) c.in_ok-get_str.field-0.now number.0 c.in_ok-get_one.field-0 c.find_explanation.result
    (c.in_ok-get_str.ensures ∙ first_value-rows f (codes "layer")) (sym (sym (one_text-rows f (codes "number")) ∙ number.1)) number.2
    c.find_explanation.ensures.found

pub returns-clause-missing : goal.returns-clause-missing
returns-clause-missing c =
    let f = found_of c.args.matches.now in
    let number = number_read _ _ c.in_ok-get_one.ensures.none (λ t is. (c.in_ok-get_one.ensures.value t is).0) in
    no_explanation_read (rows_of f) c.in_ok-get_str.field-0.now number.0 c.in_ok-get_one.field-0 c.find_explanation.result
    (c.in_ok-get_str.ensures ∙ first_value-rows f (codes "layer")) (sym (sym (one_text-rows f (codes "number")) ∙ number.1)) number.2
    c.find_explanation.ensures.found

pub returns-in_err-get_str-clause-missing : goal.returns-in_err-get_str-clause-missing
returns-in_err-get_str-clause-missing c =
    rw c.from_residual.ensures
    (λ explanation has. text_missing _ _ (c.in_err-get_str.ensures ∙ first_value-rows (found_of c.args.matches.now) (codes "layer")) has.layer_is)

pub returns-in_err-get_one-clause-missing : goal.returns-in_err-get_one-clause-missing
returns-in_err-get_one-clause-missing c =
    rw c.from_residual-in_err-get_one.ensures
    (λ explanation has. number_missing _ (λ t is. (c.in_err-get_one.ensures.value t is).1.0) has.number explanation.number
    (one_text-rows (found_of c.args.matches.now) (codes "number") ∙ has.number_row) has.number_is)
