use Rattle.std.proofs.Common.{◌≡◌, ◌∙◌, ap, subst, true, map, List, [], Err, Ok}
use Rattle.std.specs.Borrow.{Bor}
use Rattle.clap.specs.Faults.{is_simple_and_free}
use Rattle.clap.specs.Kinds.{HasKind}
use Rattle.clap.specs.Words.{App, Text, fault_of, is_simple, subcommand_of}
use Rattle.mr_words.proofs.ReadLemmas.{reads_as, reads_version, simple, simple_and_free, words_fail, words_refused, words_say, words_say_nothing}
use Rattle.mr_words.specs.Words.{FindsCommand, Found, ReadsWords}
use Rattle.mr_words.specs.declared.words.WordsFault.TheVariants.{Wrong}
use Rattle.mr_words.proofs.words.read_words.Goals as goal

pub returns-in_err-matches : goal.returns-in_err-matches
returns-in_err-matches c =
    let is = c.in_ok-program.ensures in
    let words : List Text = map (λ (word : Bor Text). word.now) c.args.words.now in
    let kinds = subst (λ (a : App). is_simple_and_free a ≡ true → HasKind (fault_of a words) c.in_err-matches.field-0.0) is c.in_err-matches.ensures.kinds in
    let read : ReadsWords words c.from_residual-in_err-matches.result =
    words_refused words c.in_err-matches.field-0.0 _ (kinds simple_and_free) c.from_residual-in_err-matches.ensures.1 in
    record { exactly = read; plainly = reads_as words _ read; version = reads_version words _ read }

pub returns-in-Some : goal.returns-in-Some
returns-in-Some c =
    let is = c.in_ok-program.ensures in
    let words : List Text = map (λ (word : Bor Text). word.now) c.args.words.now in
    let kinds = subst (λ (a : App). is_simple_and_free a ≡ true → fault_of a words ≡ []) is c.in_ok-matches.ensures.kinds in
    let found = (c.in_ok-matches.ensures.ok.2 (ap is_simple is ∙ simple)).1 ∙ ap (λ (a : App). subcommand_of a words) is in
    let read : ReadsWords words (Ok c.in-Some.wanted) =
    words_say words _ (λ (o : Found). FindsCommand o c.in-Some.wanted) (kinds simple_and_free) found (rw c.in-Some.is at c.in_ok-wanted.ensures) in
    record { exactly = read; plainly = reads_as words (Ok c.in-Some.wanted) read; version = reads_version words (Ok c.in-Some.wanted) read }

pub returns : goal.returns
returns c =
    let is = c.in_ok-program.ensures in
    let words : List Text = map (λ (word : Bor Text). word.now) c.args.words.now in
    let found = (c.in_ok-matches.ensures.ok.2 (ap is_simple is ∙ simple)).1 ∙ ap (λ (a : App). subcommand_of a words) is in
    let kinds = subst (λ (a : App). is_simple_and_free a ≡ true → fault_of a words ≡ []) is c.in_ok-matches.ensures.kinds in
    let none = rw c.in-None.is at c.in_ok-wanted.ensures in
    let read : ReadsWords words (Err (Wrong c.in_ok-error-in-None.error)) = words_say_nothing words _ (kinds simple_and_free) found none.0 none.1 in
    record { exactly = read; plainly = reads_as words (Err (Wrong c.in_ok-error-in-None.error)) read; version = reads_version words (Err (Wrong c.in_ok-error-in-None.error)) read }

pub returns-in_err-wanted : goal.returns-in_err-wanted
returns-in_err-wanted c =
    let is = c.in_ok-program.ensures in
    let words : List Text = map (λ (word : Bor Text). word.now) c.args.words.now in
    let kinds = subst (λ (a : App). is_simple_and_free a ≡ true → fault_of a words ≡ []) is c.in_ok-matches.ensures.kinds in
    let found = (c.in_ok-matches.ensures.ok.2 (ap is_simple is ∙ simple)).1 ∙ ap (λ (a : App). subcommand_of a words) is in
    let read : ReadsWords words c.from_residual-in_err-wanted.result =
    words_fail words _ c.in_err-wanted.field-0.0 _ (kinds simple_and_free) found c.in_err-wanted.ensures c.from_residual-in_err-wanted.ensures.1 in
    record { exactly = read; plainly = reads_as words _ read; version = reads_version words _ read }
