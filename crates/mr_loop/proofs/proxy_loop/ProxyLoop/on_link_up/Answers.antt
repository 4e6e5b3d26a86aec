use Rattle.std.proofs.Common.{◌≡◌, ℕ, ◌<◌, true, length, refl, sym, ap, ◌∙◌}
use Rattle.std.proofs.lemmas.Option.{slice_get_read}
use Rattle.mr_loop.specs.declared.link.Link.{Link}
use Rattle.mr_loop.specs.Events.{FrontView}
use Rattle.mr_loop.specs.Links.{up_link}
use Rattle.mr_loop.specs.LoopView.{LoopView, with_link}
use Rattle.mr_loop.proofs.KeptLemmas.{places, kept_break}
use Rattle.mr_loop.proofs.proxy_loop.ProxyLoop.on_link_up.Goals as goal

pub invariant_of-self : goal.invariant_of-self
invariant_of-self c =
    let kept : places c.break_off.new.front ≡ places c.self.inside.front =
    kept_break c.args.now c.index_mut-link.result.now c.self.inside.front c.break_off.new.self c.break_off.new.front c.break_off.ensures in
    let same : length c.self.inside.inboxes.items ≡ length c.self.inside.front.clients = c.self.invariant in
    let is : length c.self.inside.inboxes.items ≡ length c.break_off.new.front.clients = same ∙ sym kept in
    is

abbrev the_loop : LoopView → FrontView → ℕ → Link → LoopView
the_loop l front node link = with_link l front node link

pub returns : goal.returns
returns c =
    let within : c.args.node < length c.self.inside.links.items = rw (← c.self.view_is) at c.requires in
    let old : LoopView = record {
      front = c.self.inside.front;
      inboxes = c.self.inside.inboxes.items;
      links = c.self.inside.links.items;
      limits = c.self.inside.limits;
      client_counts = c.self.inside.client_counts;
    } in
    rw (← c.self.view_is) (record {
      link = c.index_mut-link.result.now;
      link' = c.break_off.new.self;
      front' = c.break_off.new.front;
      there = slice_get_read _ _ _ _ refl within c.index_mut-link.ensures.value;
      breaks = c.break_off.ensures;
      becomes = ap (λ (l : Link). the_loop old c.break_off.new.front c.args.node (record l { is_up = true })) c.break_off.ensures.down
          ∙ ap (λ (l : Link). the_loop old c.break_off.new.front c.args.node (up_link l.counts)) (sym c.break_off.ensures.down);
    })
