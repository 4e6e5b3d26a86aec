use Rattle.mr_scripts.specs.Upgrade.{upgraded_event}
use Rattle.mr_scripts.proofs.MemberLemmas.{each_alike}
use Rattle.mr_scripts.proofs.upgrade.upgraded_events.Goals as goal

pub returns-in_ok-each_upgraded_event-in-Array : goal.returns-in_ok-each_upgraded_event-in-Array
returns-in_ok-each_upgraded_event-in-Array c =
    each_alike upgraded_event c.args.events c.in-Array.values c.in_ok-each_upgraded_event-in-Array.field-0 c.in-Array.is
    c.in_ok-each_upgraded_event-in-Array.ensures
