use Rattle.std.proofs.Common.{◌≡◌, ◌<◌, length, refl, sym, ◌∙◌}
use Rattle.std.proofs.lemmas.Option.{slice_get_read}
use Rattle.mr_loop.proofs.KeptLemmas.{places, kept_bytes}
use Rattle.mr_loop.proofs.proxy_loop.ProxyLoop.on_link_bytes.Goals as goal

pub returns : goal.returns
returns c =
    let within : c.args.node < length c.self.inside.links.items = rw (← c.self.view_is) at c.requires in
    rw (← c.self.view_is) (record {
      link = c.index_mut.result.now;
      link' = c.take_bytes.new.self;
      front' = c.take_bytes.new.front;
      there = slice_get_read _ _ _ _ refl within c.index_mut.ensures.value;
      takes = c.take_bytes.ensures;
      becomes = refl;
    })

pub invariant_of-self : goal.invariant_of-self
invariant_of-self c =
    let kept : places c.take_bytes.new.front ≡ places c.self.inside.front =
    kept_bytes c.args.now c.args.piece.now c.index_mut.result.now c.self.inside.front c.take_bytes.result c.take_bytes.new.self c.take_bytes.new.front c.take_bytes.ensures in
    let same : length c.self.inside.inboxes.items ≡ length c.self.inside.front.clients = c.self.invariant in
    let is : length c.self.inside.inboxes.items ≡ length c.take_bytes.new.front.clients = same ∙ sym kept in
    is
