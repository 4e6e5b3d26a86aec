use Rattle.mr_scripts.proofs.MemberLemmas.{nothing_there, something_held, left_alike}
use Rattle.mr_scripts.proofs.members.without_member.Goals as goal

pub returns-then-not-contains_key-clause-held : goal.returns-then-not-contains_key-clause-held
returns-then-not-contains_key-clause-held c =
    nothing_there c.args.key.now c.args.value c.in-Object.members c.in-Object.is c.if-not-contains_key.ensures

pub returns-clause-others : goal.returns-clause-others
returns-clause-others c =
    left_alike c.args.key.now c.in_ok-held.held c.args.value c.in-Object.members c.exchange.new.members c.in-Object.is
    c.in_ok-held.ensures.members c.in_ok-held.ensures.held
    (something_held c.args.key.now c.in-Object.members.entries c.if-not-contains_key.ensures)
