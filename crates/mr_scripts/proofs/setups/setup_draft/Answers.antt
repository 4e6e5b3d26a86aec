use Rattle.std.proofs.Common.{rules}
use Rattle.mr_configs.specs.Draft.{config_drafted}
use Rattle.mr_scripts.proofs.setups.setup_draft.Goals as goal

pub returns-in-Err-check_homes-clause-refused : goal.returns-in-Err-check_homes-clause-refused
returns-in-Err-check_homes-clause-refused c =
    let bad = c.in-Err-check_homes.ensures.refused (config_drafted c.in-Ok.common) c.in-Ok.ensures.config in
    search (rules, bad)
