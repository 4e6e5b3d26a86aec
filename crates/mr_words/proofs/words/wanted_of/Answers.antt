use Rattle.std.proofs.Common.{◌∙◌, codes, refl, sym}
use Rattle.clap.proofs.WalkLemmas.{first_value-rows}
use Rattle.clap.specs.Words.{found_of}
use Rattle.mr_words.proofs.WordLemmas.{canary_not_found, explanation_not_found, node_not_found, plan_not_found, proxy_not_found, sub_row, watch_not_found}
use Rattle.mr_words.proofs.words.wanted_of.Goals as goal

pub returns-in-None : goal.returns-in-None
returns-in-None c =
    let found = sub_row c.args.matches.now _ _ (c.in-Some.ensures.found.0 refl) c.in-Some.ensures.rows in
    let nothing = plan_not_found c.args.matches.now _ found c.in-None.ensures.missing in
    (nothing.no_command, nothing.no_readings)

pub returns-in-Some-subcommand_matches-2 : goal.returns-in-Some-subcommand_matches-2
returns-in-Some-subcommand_matches-2 c =
    let found = c.in-Some-subcommand_matches-2.ensures in (
      _,
      sub_row c.args.matches.now _ _ (found.found.0 refl) found.rows,
      sym (c.get_str.ensures ∙ first_value-rows (found_of c.in-Some-subcommand_matches-2.found.now) (codes "file")),
    )

pub returns-in-Some-subcommand_matches-3 : goal.returns-in-Some-subcommand_matches-3
returns-in-Some-subcommand_matches-3 c =
    let found = c.in-Some-subcommand_matches-3.ensures in (
      _,
      sub_row c.args.matches.now _ _ (found.found.0 refl) found.rows,
      sym (c.get_str-in-Some-subcommand_matches-3.ensures ∙ first_value-rows (found_of c.in-Some-subcommand_matches-3.found.now) (codes "file")),
    )

pub returns-in-Some-subcommand_matches-4 : goal.returns-in-Some-subcommand_matches-4
returns-in-Some-subcommand_matches-4 c =
    let found = c.in-Some-subcommand_matches-4.ensures in (
      _,
      sub_row c.args.matches.now _ _ (found.found.0 refl) found.rows,
      sym (c.get_str-in-Some-subcommand_matches-4.ensures ∙ first_value-rows (found_of c.in-Some-subcommand_matches-4.found.now) (codes "file")),
    )

pub returns-in-Some-subcommand_matches-5 : goal.returns-in-Some-subcommand_matches-5
returns-in-Some-subcommand_matches-5 c =
    let found = c.in-Some-subcommand_matches-5.ensures in (
      _,
      sub_row c.args.matches.now _ _ (found.found.0 refl) found.rows,
      sym (c.get_str-in-Some-subcommand_matches-5.ensures ∙ first_value-rows (found_of c.in-Some-subcommand_matches-5.found.now) (codes "file")),
    )

pub returns-in-None-node_values : goal.returns-in-None-node_values
returns-in-None-node_values c =
    let found =
    sub_row c.args.matches.now _ _ (c.in-Some-subcommand_matches-6.ensures.found.0 refl) c.in-Some-subcommand_matches-6.ensures.rows in
    let nothing = node_not_found c.args.matches.now _ found c.in-None-node_values.ensures.missing in
    (nothing.no_command, nothing.no_readings)

pub returns-in-None-proxy_values : goal.returns-in-None-proxy_values
returns-in-None-proxy_values c =
    let found =
    sub_row c.args.matches.now _ _ (c.in-Some-subcommand_matches-7.ensures.found.0 refl) c.in-Some-subcommand_matches-7.ensures.rows in
    let nothing = proxy_not_found c.args.matches.now _ found c.in-None-proxy_values.ensures.missing in
    (nothing.no_command, nothing.no_readings)

pub returns-in-None-3 : goal.returns-in-None-3
returns-in-None-3 c =
    let found =
    sub_row c.args.matches.now _ _ (c.in-Some-subcommand_matches-8.ensures.found.0 refl) c.in-Some-subcommand_matches-8.ensures.rows in
    let nothing = watch_not_found c.args.matches.now _ found (rw c.in-None-3.is at c.in_ok-values-2.ensures) in
    (nothing.no_command, nothing.no_readings)

pub returns-in-None-4 : goal.returns-in-None-4
returns-in-None-4 c =
    let found =
    sub_row c.args.matches.now _ _ (c.in-Some-subcommand_matches-9.ensures.found.0 refl) c.in-Some-subcommand_matches-9.ensures.rows in
    let nothing = canary_not_found c.args.matches.now _ found (rw c.in-None-4.is at c.in_ok-values-3.ensures) in
    (nothing.no_command, nothing.no_readings)

pub returns-in-None-explanation_in : goal.returns-in-None-explanation_in
returns-in-None-explanation_in c =
    let found =
    sub_row c.args.matches.now _ _ (c.in-Some-subcommand_matches-10.ensures.found.0 refl) c.in-Some-subcommand_matches-10.ensures.rows in
    let nothing = explanation_not_found c.args.matches.now _ found c.in-None-explanation_in.ensures.missing in
    (nothing.no_command, nothing.no_readings)
