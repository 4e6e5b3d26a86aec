-- What a command is once its options are added.
use Rattle.std.proofs.Common.{◌≡◌, ◌∙◌, ap, ap₂, true, false, Result, Ok, Err}
use Rattle.std.specs.Prelude.{IfOk, IsOkAnd}
use Rattle.clap.specs.Words.{AddsArg, AddsSubcommand, App, Rule, app_of, rule_of, with_rule, with_subcommand}
use Rattle.clap.specs.declared.builder.arg.Arg.{Arg}
use Rattle.clap.specs.declared.builder.command.Command.{Command}
use Rattle.mr_words.proofs.WordLemmas.{third_is_false}

-- one more option, unless memory is refused
pub option_added : {E : Type 0} (whole old : Result Command E) (arg : Arg) (app : App) (rule : Rule)
    → IfOk whole (λ whole. IsOkAnd old (λ old. AddsArg old arg whole)) → arg.global ≡ false → IfOk old (λ command. app_of command ≡ app) → rule_of arg ≡ rule
    → IfOk whole (λ command. app_of command ≡ with_rule app rule)
option_added (Ok whole) (Ok old) arg app rule adds local old_is rule_is = adds.shape local ∙ ap₂ with_rule old_is rule_is
option_added (Ok whole) (Err error) arg app rule adds local old_is rule_is = absurd adds
option_added (Err error) old arg app rule adds local old_is rule_is = tt

-- one more command, unless memory is refused
pub command_added : {E : Type 0} (whole old made : Result Command E) (start app : App)
    → IfOk whole (λ whole. IsOkAnd old (λ old. IsOkAnd made (λ made. AddsSubcommand old made whole))) → IfOk made (λ command. app_of command ≡ app)
    → app.top.is_plain ≡ true → IfOk old (λ command. app_of command ≡ start) → IfOk whole (λ command. app_of command ≡ with_subcommand start app.top)
command_added (Ok whole) (Ok old) (Ok made) start app adds is plain old_is =
    adds.shape (third_is_false _ _ _ _ (ap (λ (a : App). a.top.is_plain) is ∙ plain)) ∙ ap₂ with_subcommand old_is (ap (λ (a : App). a.top) is)
command_added (Ok whole) (Ok old) (Err error) start app adds is plain old_is = absurd adds
command_added (Ok whole) (Err error) made start app adds is plain old_is = absurd adds
command_added (Err error) old made start app adds is plain old_is = tt
