use Rattle.mr_loop.proofs.SoundLemmas.{all_sound_grown}
use Rattle.mr_loop.proofs.node.node_loop.NodeLoop.add_place.Goals as goal

pub invariant_of-self-2 : goal.invariant_of-self-2
invariant_of-self-2 g c = all_sound_grown c.self.inside.clients.items c.push.new.self.items c.new.result c.self.invariant c.new.ensures c.in_ok-push.ensures.items
