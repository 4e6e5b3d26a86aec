use Rattle.mr_servers.proofs.SoloLemmas.{one_more_given}
use Rattle.mr_servers.proofs.solo.addresses_of.Goals as goal

pub loop-text-preserved : goal.loop-text-preserved
loop-text-preserved c =
    one_more_given (λ text. text.now) c.args.texts.now c.loop-text.text-index _ c.loop-text.addresses.items c.push.new.self.items
    c.node_address.result c.loop-text.invariant c.node_address.ensures c.in_ok-push.ensures.items c.loop-text-test.true
