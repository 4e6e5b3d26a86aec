use Rattle.std.proofs.Common.{◌≡◌, ◌<◌, length, Some, refl}
use Rattle.std.specs.Prelude.{slice_get}
use Rattle.std.proofs.lemmas.Option.{slice_get_read}
use Rattle.mr_loop.proofs.SoundLemmas.{all_sound_set, sound_at}
use Rattle.mr_loop.proofs.node.node_loop.NodeLoop.on_client_written.Goals as goal

pub invariant_of-self : goal.invariant_of-self
invariant_of-self g c =
    let within : c.args.client < length c.self.inside.clients.items = rw (← c.self.view_is) at c.requires.client in
    let there : slice_get c.self.inside.clients.items c.args.client ≡ Some c.index_mut.result.now = slice_get_read _ _ _ _ refl within c.index_mut.ensures.value in
    all_sound_set c.self.inside.clients.items c.args.client (record c.index_mut.result.now { out = c.advance.new.self }) c.self.invariant
    (sound_at c.self.inside.clients.items c.args.client c.index_mut.result.now c.self.invariant there)

pub returns : goal.returns
returns g c =
    let within : c.args.client < length c.self.inside.clients.items = rw (← c.self.view_is) at c.requires.client in
    rw (← c.self.view_is) (record {
      was = c.index_mut.result.now;
      there = slice_get_read _ _ _ _ refl within c.index_mut.ensures.value;
      becomes = rw c.advance.ensures refl;
    })
