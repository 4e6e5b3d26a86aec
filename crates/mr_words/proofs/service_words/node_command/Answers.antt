use Rattle.std.proofs.Common.{◌≡◌, codes, Ok}
use Rattle.clap.specs.Words.{app_of, new_app}
use Rattle.mr_words.specs.Command.{flag_rule, forever_rule, listen_rule, loops_rule, max_clients_rule, metrics_rule, number_rule}
use Rattle.mr_words.proofs.CommandLemmas.{option_added}
use Rattle.mr_words.proofs.service_words.node_command.Goals as goal

pub returns : goal.returns
returns c =
    let start : app_of c.after_help-node.result ≡ new_app (codes "node") = rw (c.after_help-node.ensures, c.about.ensures) c.new.ensures.app in
    let listen = option_added _ (Ok c.after_help-node.result) _ (new_app (codes "node")) listen_rule c.with_option-node.ensures c.listen_option.ensures.local start
    c.listen_option.ensures.rule in
    let capacity = option_added _ _ _ _ (number_rule (codes "capacity")) c.with_option-node-2.ensures c.number_option-capacity.ensures.local listen
    c.number_option-capacity.ensures.rule in
    let clients = option_added _ _ _ _ (number_rule (codes "clients")) c.with_option-node-3.ensures c.clients_option.ensures.local capacity
    c.clients_option.ensures.rule in
    let turns = option_added _ _ _ _ (number_rule (codes "turns")) c.with_option-node-4.ensures c.turns_option.ensures.local clients c.turns_option.ensures.rule in
    let idle = option_added _ _ _ _ (number_rule (codes "idle-timeout")) c.with_option-node-5.ensures c.idle_timeout_option.ensures.local turns
    c.idle_timeout_option.ensures.rule in
    let metrics = option_added _ _ _ _ metrics_rule c.with_option-node-6.ensures c.metrics_option.ensures.local idle
    c.metrics_option.ensures.rule in
    let forever = option_added _ _ _ _ forever_rule c.with_option-node-7.ensures c.forever_flag.ensures.local metrics c.forever_flag.ensures.rule in
    let loops = option_added _ _ _ _ loops_rule c.with_option-node-8.ensures c.loops_option.ensures.local forever c.loops_option.ensures.rule in
    let most = option_added _ _ _ _ max_clients_rule c.with_option-node-9.ensures c.max_clients_option.ensures.local loops
    c.max_clients_option.ensures.rule in
    option_added _ _ _ _ (flag_rule (codes "quiet")) c.with_option.ensures c.quiet_flag.ensures.local most c.quiet_flag.ensures.rule
