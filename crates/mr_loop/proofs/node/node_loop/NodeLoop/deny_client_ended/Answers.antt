use Rattle.std.proofs.Common.{◌≡◌, ◌<◌, length, Some, refl}
use Rattle.std.specs.Prelude.{slice_get}
use Rattle.std.proofs.lemmas.Option.{slice_get_read}
use Rattle.mr_loop.specs.node.Serving.{seat}
use Rattle.mr_loop.proofs.NoReadingLemmas.{serves_without}
use Rattle.mr_loop.proofs.SoundLemmas.{all_sound_set, sound_at, sound_ended}
use Rattle.mr_loop.proofs.node.node_loop.NodeLoop.deny_client_ended.Goals as goal

pub serve_on-requires : goal.serve_on-requires
serve_on-requires g c =
    let within : c.args.client < length c.self.inside.clients.items = rw (← c.self.view_is) at c.requires in
    let there : slice_get c.self.inside.clients.items c.args.client ≡ Some c.index_mut-asking.result.now = slice_get_read _ _ _ _ refl within c.index_mut-asking.ensures.value in
    sound_ended c.index_mut-asking.result.now.inbox c.end.new.self
    (sound_at c.self.inside.clients.items c.args.client c.index_mut-asking.result.now c.self.invariant there) c.end.ensures

pub invariant_of-self : goal.invariant_of-self
invariant_of-self g c =
    all_sound_set c.self.inside.clients.items c.args.client c.serve_on.new.client c.self.invariant c.serve_on.ensures.sound

pub returns : goal.returns
returns g c =
    let within : c.args.client < length c.self.inside.clients.items = rw (← c.self.view_is) at c.requires in
    rw (← c.self.view_is) (record {
      was = c.index_mut-asking.result.now;
      ended = c.end.new.self;
      after = seat c.self.inside.cache c.serve_on.new.client c.serve_on.new.counts;
      there = slice_get_read _ _ _ _ refl within c.index_mut-asking.ensures.value;
      ends = c.end.ensures;
      serves = serves_without c.self.inside.cache _ _ _ _ _ _ _ _ c.serve_on.ensures.serves;
      becomes = refl;
    })
