use Rattle.mr_loop.proofs.SoundLemmas.{all_sound_fresh}
use Rattle.mr_loop.proofs.node.node_loop.NodeLoop.on_client_left.Goals as goal

pub invariant_of-self : goal.invariant_of-self
invariant_of-self g c = all_sound_fresh c.self.inside.clients.items c.args.client c.new.result c.self.invariant c.new.ensures
