use Rattle.std.proofs.Common.{◌≡◌, List, ◌<◌, length, refl, sym, subst, ap, ◌∙◌, slice_set, arith}
use Rattle.std.proofs.lemmas.Option.{slice_get_read}
use Rattle.std.proofs.lemmas.List.{with_items_is, length-set}
use Rattle.mr_loop.specs.declared.asker.Asker.{Asker}
use Rattle.mr_loop.specs.declared.asker.Limits.{Limits}
use Rattle.mr_counting.specs.declared.client_counts.ClientCounts.{ClientCounts}
use Rattle.mr_loop.specs.declared.inbox.Inbox.{Inbox}
use Rattle.mr_loop.specs.declared.link.Link.{Link}
use Rattle.mr_loop.specs.Asking.{AsksOn}
use Rattle.mr_loop.specs.Events.{FrontView}
use Rattle.mr_loop.specs.LoopView.{LoopView}
use Rattle.mr_loop.specs.steps.Asking.{asking}
use Rattle.mr_loop.proofs.KeptLemmas.{places, kept_asks}
use Rattle.mr_loop.proofs.proxy_loop.ProxyLoop.on_client_ended.Goals as goal

abbrev the_loop : FrontView → List Inbox → List Link → Limits → ClientCounts → LoopView
the_loop front inboxes links limits counts =
    record { front = front; inboxes = inboxes; links = links; limits = limits; client_counts = counts }

pub returns : goal.returns
returns c =
    let here : c.args.client < length c.self.inside.front.clients = rw (← c.self.view_is) at c.requires in
    let same : length c.self.inside.inboxes.items ≡ length c.self.inside.front.clients = c.self.invariant in
    let within : c.args.client < length c.self.inside.inboxes.items = omega (arith, here, same) in
    let asker : Asker = record { client = c.args.client; reading = c.args.reading; now = c.args.now; limits = c.self.inside.limits } in
    let Q : List Link → Type 0 = λ links. AsksOn asker c.ask_on.result (asking c.end.new.self c.self.inside.front links c.self.inside.client_counts) (asking c.ask_on.new.inbox c.ask_on.new.front c.ask_on.new.links c.ask_on.new.counts) in
    rw (← c.self.view_is) (record {
      inbox = c.index_mut-inbox.result.now;
      ended = c.end.new.self;
      inbox' = c.ask_on.new.inbox;
      front' = c.ask_on.new.front;
      links' = c.ask_on.new.links;
      counts' = c.ask_on.new.counts;
      there = slice_get_read _ _ _ _ refl within c.index_mut-inbox.ensures.value;
      ends = c.end.ensures;
      asks = subst Q c.deref_mut.ensures.value c.ask_on.ensures;
      becomes = ap (λ links. the_loop c.ask_on.new.front (slice_set c.self.inside.inboxes.items c.args.client c.ask_on.new.inbox) links c.self.inside.limits c.ask_on.new.counts)
          (with_items_is c.self.inside.links c.ask_on.new.links (c.ask_on.auto.links ∙ c.deref_mut.ensures.len));
    })

pub invariant_of-self : goal.invariant_of-self
invariant_of-self c =
    let asker : Asker = record { client = c.args.client; reading = c.args.reading; now = c.args.now; limits = c.self.inside.limits } in
    let kept : places c.ask_on.new.front ≡ places c.self.inside.front =
    kept_asks asker c.ask_on.result (asking c.end.new.self c.self.inside.front c.deref_mut.result.now c.self.inside.client_counts)
    (asking c.ask_on.new.inbox c.ask_on.new.front c.ask_on.new.links c.ask_on.new.counts) c.ask_on.ensures in
    let same : length c.self.inside.inboxes.items ≡ length c.self.inside.front.clients = c.self.invariant in
    let is : length (slice_set c.self.inside.inboxes.items c.args.client c.ask_on.new.inbox) ≡ length c.ask_on.new.front.clients =
    length-set c.self.inside.inboxes.items c.args.client c.ask_on.new.inbox ∙ same ∙ sym kept in
    is
