use Rattle.std.proofs.Common.{◌≡◌, ap, true, codes, refl, Ok}
use Rattle.clap.specs.Words.{App, app_of, new_app}
use Rattle.mr_words.specs.Command.{canary_app, check_app, draw_app, explain_app, node_app, plan_app, proxy_app, run_app, timeline_app, upgrade_app, watch_app}
use Rattle.mr_words.proofs.CommandLemmas.{command_added}
use Rattle.mr_words.proofs.words.program.Goals as goal

pub returns : goal.returns
returns c =
    let none : app_of c.after_help.result ≡ new_app (codes "migctl") =
    rw (c.after_help.ensures, c.about.ensures, c.in_ok-named.ensures.0) c.new.ensures.app in
    let one = command_added _ (Ok c.after_help.result) _ (new_app (codes "migctl")) plan_app c.with_command-program.ensures c.plan_command.ensures refl none in
    let two = command_added _ _ _ _ timeline_app c.with_command-program-2.ensures c.timeline_command.ensures refl one in
    let three = command_added _ _ _ _ run_app c.with_command-program-3.ensures c.run_command.ensures refl two in
    let four = command_added _ _ _ _ check_app c.with_command-program-4.ensures c.check_command.ensures refl three in
    let five = command_added _ _ _ _ draw_app c.with_command-program-5.ensures c.draw_command.ensures refl four in
    let six = command_added _ _ _ _ upgrade_app c.with_command-program-6.ensures c.upgrade_command.ensures refl five in
    let seven = command_added _ _ _ _ node_app c.with_command-program-7.ensures c.node_command.ensures refl six in
    let eight = command_added _ _ _ _ proxy_app c.with_command-program-8.ensures c.proxy_command.ensures refl seven in
    let nine = command_added _ _ _ _ watch_app c.with_command-program-9.ensures c.watch_command.ensures refl eight in
    let ten = command_added _ _ _ _ canary_app c.with_command-program-10.ensures c.canary_command.ensures refl nine in
    let eleven = command_added (Ok c.in_ok-program.program) _ _ _ explain_app c.in_ok-program.ensures c.explain_command.ensures refl ten in
    rw (c.arg_required_else_help.ensures, c.subcommand_required.ensures, c.no_binary_name.ensures, c.version.ensures)
    (ap (λ (a : App). record a { top = record a.top { has_version = true; no_binary_name = true; subcommand_required = true; arg_required_else_help = true } }) eleven)
