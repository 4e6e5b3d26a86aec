use Rattle.mr_scripts.specs.Upgrade.{with_digits}
use Rattle.mr_scripts.proofs.MemberLemmas.{each_alike}
use Rattle.mr_scripts.proofs.upgrade.upgraded_held.Goals as goal

pub returns-in_ok-each_with_digits-in-Array : goal.returns-in_ok-each_with_digits-in-Array
returns-in_ok-each_with_digits-in-Array c =
    each_alike with_digits c.args.held c.in-Array.values c.in_ok-each_with_digits-in-Array.field-0 c.in-Array.is c.in_ok-each_with_digits-in-Array.ensures
