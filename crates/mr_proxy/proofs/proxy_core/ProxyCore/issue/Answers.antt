use Rattle.std.proofs.Common.{rules}
use Rattle.mr_proxy.specs.contracts.proxy_core.ProxyCore.{the_view}
use Rattle.mr_proxy.proofs.TakeLemmas.{sent_open, issued_sound, issued_legs, issued_nodes}
use Rattle.mr_proxy.proofs.proxy_core.ProxyCore.issue.Goals as goal

pub new-requires-clause-sent : goal.new-requires-clause-sent
new-requires-clause-sent c = sent_open _ _ c.into_parts-slots.ensures.slots

pub invariant_of-self-2 : goal.invariant_of-self-2
invariant_of-self-2 c =
    issued_sound (the_view c.self.inside) c.args.self.now _ c.args.reading c.args.request c.self.view_is (search rules) c.in-Ok.ensures.legs c.requires c.self.invariant

pub returns-clause-has_leg : goal.returns-clause-has_leg
returns-clause-has_leg c =
    issued_legs c.args.self.now c.args.reading c.args.request c.into_parts-slots.result.1.items (search rules) c.in-Ok.ensures.legs c.requires

pub returns-clause-nodes : goal.returns-clause-nodes
returns-clause-nodes c =
    issued_nodes (the_view c.self.inside) c.args.self.now c.args.reading c.args.request c.into_parts-slots.result.1.items c.self.view_is (search rules) c.self.invariant (search rules)
