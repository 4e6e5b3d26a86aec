use Rattle.std.proofs.Common.{◌≡◌, ◌<◌, length, refl, sym, ◌∙◌, slice_set, arith}
use Rattle.std.proofs.lemmas.Option.{slice_get_read}
use Rattle.std.proofs.lemmas.List.{length-set}
use Rattle.mr_loop.specs.NoReading.{denying}
use Rattle.mr_loop.proofs.KeptLemmas.{places}
use Rattle.mr_loop.proofs.NoReadingLemmas.{kept_denying}
use Rattle.mr_loop.proofs.proxy_loop.ProxyLoop.deny_client_bytes.Goals as goal

pub returns-in-Ok-clause-denied : goal.returns-in-Ok-clause-denied
returns-in-Ok-clause-denied c =
    let here : c.args.client < length c.self.inside.front.clients = rw (← c.self.view_is) at c.requires in
    let same : length c.self.inside.inboxes.items ≡ length c.self.inside.front.clients = c.self.invariant in
    let within : c.args.client < length c.self.inside.inboxes.items = omega (arith, here, same) in
    rw (← c.self.view_is) (record {
      inbox = c.index_mut-inbox.result.now;
      fed = c.feed.new.self;
      after = denying c.deny_on.new.inbox c.deny_on.new.front c.deny_on.new.counts;
      there = slice_get_read _ _ _ _ refl within c.index_mut-inbox.ensures.value;
      takes = c.in-Ok.ensures.taken;
      denies = c.deny_on.ensures;
      becomes = refl;
    })

pub invariant_of-self : goal.invariant_of-self
invariant_of-self c =
    let kept : places c.deny_on.new.front ≡ places c.self.inside.front =
    kept_denying c.self.inside.limits c.args.client c.deny_on.result (denying c.feed.new.self c.self.inside.front c.self.inside.client_counts)
    (denying c.deny_on.new.inbox c.deny_on.new.front c.deny_on.new.counts) c.deny_on.ensures in
    let same : length c.self.inside.inboxes.items ≡ length c.self.inside.front.clients = c.self.invariant in
    let is : length (slice_set c.self.inside.inboxes.items c.args.client c.deny_on.new.inbox) ≡ length c.deny_on.new.front.clients =
    length-set c.self.inside.inboxes.items c.args.client c.deny_on.new.inbox ∙ same ∙ sym kept in
    is
