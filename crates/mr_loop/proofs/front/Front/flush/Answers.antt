use Rattle.std.proofs.Common.{◌≡◌, ◌<◌, Some, length, refl, arith}
use Rattle.std.specs.Prelude.{slice_get}
use Rattle.std.proofs.lemmas.Option.{slice_get_read}
use Rattle.mr_loop.proofs.FlushLemmas.{front_part, front_flushed, on_ok, on_err}
use Rattle.mr_loop.proofs.front.Front.flush.Goals as goal

pub returns-clause-flushed : goal.returns-clause-flushed
returns-clause-flushed c =
    let within : c.args.client < length c.self.inside.clients.items = omega (arith, c.self.inside.clients.ok.0) in
    let there : slice_get c.self.inside.clients.items c.args.client ≡ Some c.index_mut.result.now = slice_get_read _ _ _ _ refl within c.index_mut.ensures.value in
    rw (← c.self.view_is, c.flush.ensures.core)
    (on_ok c.flush.result c.flush.ensures.flushed (λ same.
    front_flushed c.self.inside.core c.self.inside.clients.items c.self.inside.touched.items c.self.inside.counts c.args.client c.index_mut.result.now c.flush.new.self there same))

pub returns-clause-in_part : goal.returns-clause-in_part
returns-clause-in_part c =
    let within : c.args.client < length c.self.inside.clients.items = omega (arith, c.self.inside.clients.ok.0) in
    let there : slice_get c.self.inside.clients.items c.args.client ≡ Some c.index_mut.result.now = slice_get_read _ _ _ _ refl within c.index_mut.ensures.value in
    rw (← c.self.view_is, c.flush.ensures.core)
    (on_err c.flush.result c.flush.ensures.in_part (λ same.
    front_part c.self.inside.core c.self.inside.clients.items c.self.inside.touched.items c.self.inside.counts c.args.client c.index_mut.result.now c.flush.new.self there same))
