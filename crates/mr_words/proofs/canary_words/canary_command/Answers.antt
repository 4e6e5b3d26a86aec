use Rattle.std.proofs.Common.{◌≡◌, codes, Ok}
use Rattle.clap.specs.Words.{app_of, new_app}
use Rattle.mr_words.specs.Command.{config_rule, flag_rule, number_between_rule, prefix_rule, proxies_rule}
use Rattle.mr_words.proofs.CommandLemmas.{option_added}
use Rattle.mr_words.proofs.canary_words.canary_command.Goals as goal

pub returns : goal.returns
returns c =
    let start : app_of c.after_help-canary.result ≡ new_app (codes "canary") = rw (c.after_help-canary.ensures, c.about.ensures) c.new.ensures.app in
    let config = option_added _ (Ok c.after_help-canary.result) _ (new_app (codes "canary")) config_rule c.with_option-canary.ensures
    c.config_option.ensures.local start c.config_option.ensures.rule in
    let seconds = option_added _ _ _ _ (number_between_rule (codes "seconds") 1 18446744073709551615) c.with_option-canary-2.ensures
    c.seconds_option.ensures.local config c.seconds_option.ensures.rule in
    let until = option_added _ _ _ _ (flag_rule (codes "until-migrated")) c.with_option-canary-3.ensures c.until_migrated_flag.ensures.local seconds
    c.until_migrated_flag.ensures.rule in
    let clients = option_added _ _ _ _ (number_between_rule (codes "clients") 1 64) c.with_option-canary-4.ensures c.clients_option.ensures.local until
    c.clients_option.ensures.rule in
    let keys = option_added _ _ _ _ (number_between_rule (codes "keys") 1 65536) c.with_option-canary-5.ensures c.keys_option.ensures.local clients
    c.keys_option.ensures.rule in
    let rate = option_added _ _ _ _ (number_between_rule (codes "rate") 1 100000) c.with_option-canary-6.ensures c.rate_option.ensures.local keys
    c.rate_option.ensures.rule in
    let prefix = option_added _ _ _ _ prefix_rule c.with_option-canary-7.ensures c.prefix_option.ensures.local rate c.prefix_option.ensures.rule in
    let json = option_added _ _ _ _ (flag_rule (codes "json")) c.with_option-canary-8.ensures c.flag-json.ensures.local prefix c.flag-json.ensures.rule in
    option_added _ _ _ _ proxies_rule c.with_option.ensures c.proxies.ensures.local json c.proxies.ensures.rule
