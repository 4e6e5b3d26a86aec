use Rattle.std.proofs.Common.{◌≡◌, codes, Ok, None}
use Rattle.clap.specs.Words.{app_of, new_app}
use Rattle.mr_words.specs.Command.{at_rule, planned_file_rule, said_number_rule, said_rule}
use Rattle.mr_words.proofs.CommandLemmas.{option_added}
use Rattle.mr_words.proofs.plan_words.plan_command.Goals as goal

pub returns : goal.returns
returns c =
    let plan : app_of c.after_help-plan.result ≡ new_app (codes "plan") =
    rw (c.after_help-plan.ensures, c.override_usage.ensures, c.about.ensures) c.new.ensures.app in
    let file = option_added _ (Ok c.after_help-plan.result) _ (new_app (codes "plan")) planned_file_rule c.with_option-plan.ensures c.file_option.ensures.local plan c.file_option.ensures.rule in
    let at = option_added _ _ _ _ at_rule c.with_option-plan-2.ensures c.at_option.ensures.local file c.at_option.ensures.rule in
    let old = option_added _ _ _ _ (said_rule (codes "old") None) c.with_option-plan-3.ensures c.said-old.ensures.local at c.said-old.ensures.rule in
    let new = option_added _ _ _ _ (said_rule (codes "new") None) c.with_option-plan-4.ensures c.said-new.ensures.local old c.said-new.ensures.rule in
    let start = option_added _ _ _ _ (said_number_rule (codes "start")) c.with_option-plan-5.ensures c.said_number-start.ensures.local new c.said_number-start.ensures.rule in
    let interval = option_added _ _ _ _ (said_number_rule (codes "interval")) c.with_option-plan-6.ensures c.said_number-interval.ensures.local start c.said_number-interval.ensures.rule in
    let hash = option_added _ _ _ _ (said_rule (codes "hash") None) c.with_option-plan-7.ensures c.said-hash.ensures.local interval c.said-hash.ensures.rule in
    option_added _ _ _ _ (said_number_rule (codes "second")) c.with_option.ensures c.said_number-second.ensures.local hash c.said_number-second.ensures.rule
