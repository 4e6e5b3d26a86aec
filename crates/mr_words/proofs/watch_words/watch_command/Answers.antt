use Rattle.std.proofs.Common.{◌≡◌, codes, Ok}
use Rattle.clap.specs.Words.{app_of, new_app}
use Rattle.mr_words.specs.Command.{address_rule, config_rule, flag_rule}
use Rattle.mr_words.proofs.CommandLemmas.{option_added}
use Rattle.mr_words.proofs.watch_words.watch_command.Goals as goal

pub returns : goal.returns
returns c =
    let start : app_of c.after_help-watch.result ≡ new_app (codes "watch") = rw (c.after_help-watch.ensures, c.about.ensures) c.new.ensures.app in
    let config = option_added _ (Ok c.after_help-watch.result) _ (new_app (codes "watch")) config_rule c.with_option-watch.ensures c.config_option.ensures.local start
    c.config_option.ensures.rule in
    let once = option_added _ _ _ _ (flag_rule (codes "once")) c.with_option-watch-2.ensures c.flag-once.ensures.local config c.flag-once.ensures.rule in
    let json = option_added _ _ _ _ (flag_rule (codes "json")) c.with_option-watch-3.ensures c.flag-json.ensures.local once c.flag-json.ensures.rule in
    option_added _ _ _ _ address_rule c.with_option.ensures c.addresses.ensures.local json c.addresses.ensures.rule
