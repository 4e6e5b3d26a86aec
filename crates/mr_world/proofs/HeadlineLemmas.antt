-- A fleet is secured at the beginning, and so after every run.
use Rattle.std.proofs.Common.{◌≡◌, ℕ, ◌+◌, ◌<◌, ◌⊎◌, IsTrue, List, [], ◌∷◌, length, map, All, get_or, slice_get, Some, None, sym, ap, subst, ◌∙◌, inl, inr, arith}
use Rattle.std.proofs.lemmas.Bool.{cases_order}
use Rattle.std.proofs.lemmas.Option.{get_or_from_slice_get, slice_get-get_or}
use Rattle.mr_text.specs.declared.request.Request.TheVariants as request
use Rattle.mr_text.specs.declared.reply.Reply.TheVariants.{Items}
use Rattle.mr_clock.specs.Clocks.{NeverGoesBack, StayWithin}
use Rattle.mr_clock.specs.Readings.{ReadingsView, AreWithin, Tick}
use Rattle.mr_history.specs.declared.entry.Author.TheVariants.{Beginning}
use Rattle.mr_history.specs.declared.entry.Entry.{Entry}
use Rattle.mr_history.specs.declared.entry.Entry.TheVariants as entry
use Rattle.mr_history.specs.Places.{At}
use Rattle.mr_node.specs.CacheStep.{Datum, Holds, contents_of}
use Rattle.mr_phases.specs.Schedule.{Hop, IsSchedule}
use Rattle.mr_pools.specs.Names.{name_at}
use Rattle.mr_pools.specs.Routing.{RoutingView, IsRouting, pool_of, place_of}
use Rattle.mr_proxy.specs.ProxyView.{ProxyView, fresh_proxy}
use Rattle.mr_proxy.specs.Sheets.{HaveAsManyHops}
use Rattle.mr_proxy.specs.Sound.{IsSound}
use Rattle.mr_world.specs.declared.event.Event.{Event}
use Rattle.mr_world.specs.declared.message.Message.{Message}
use Rattle.mr_world.specs.declared.node.Node.{Node}
use Rattle.mr_world.specs.declared.setup.HeldItem.{HeldItem}
use Rattle.mr_world.specs.declared.setup.ProxySetup.{ProxySetup}
use Rattle.mr_world.specs.Ground.{IsHeld, home_of}
use Rattle.mr_world.specs.Ground.IsSource.{from_beginning}
use Rattle.mr_world.specs.Grounded.{IsGrounded, StaysSecured}
use Rattle.mr_world.specs.Headline.{AllHold, IsPlan, PremisesHold}
use Rattle.mr_world.specs.Lists.{Has}
use Rattle.mr_world.specs.Premises.{premises_of, ticks_of, PremisesAtFirst, PremisesAfter}
use Rattle.mr_world.specs.Setup.{SetupView, held_entry, AllAlike, IsNewPoolEmpty, MovesTo, least_interval_of, Begins}
use Rattle.mr_world.specs.WorldView.{WorldView}
use Rattle.mr_world.proofs.Lists.{at_within, has_none, has_map, get_mapped}
use Rattle.mr_world.proofs.StartLemmas.{proxy_from}
use Rattle.mr_world.proofs.HeldLemmas.{CacheLaw, held_at_first, least_below}
use Rattle.mr_world.proofs.DeliveredLemmas.{has_home}

-- at the beginning

held_entries : (items : List HeldItem) (e : Entry) (place : ℕ) → At (map held_entry items) place e → (item : HeldItem) × (e ≡ held_entry item)
held_entries items e place at = let (item, has, is) = has_map held_entry items (record { place = place; there = at }) in (item, is)

same_plan : (proxies : List ProxySetup) (m n : ℕ) (p q : ProxySetup) → AllAlike proxies → slice_get proxies m ≡ Some p → slice_get proxies n ≡ Some q
    → (p.routing ≡ q.routing) × (p.schedule ≡ q.schedule)
same_plan proxies m n p q alike at at' =
    let a = get_or_from_slice_get proxies m p p at in
    let b = get_or_from_slice_get proxies n q p at' in
    let below : m < length proxies = at_within (record { gets = at }) in
    let below' : n < length proxies = at_within (record { gets = at' }) in
    elim (cases_order m n) [
      | inl same ↦
          let is : Some p ≡ Some q = sym at ∙ ap (slice_get proxies) same ∙ at' in
          let equal : p ≡ q = cc in
          (ap (λ (x : ProxySetup). x.routing) equal, ap (λ (x : ProxySetup). x.schedule) equal)
      | inr differ ↦ elim differ [
        | inl less ↦
            let both = alike m n p less below' in
            (ap (λ (x : ProxySetup). x.routing) (sym a) ∙ both.0 ∙ ap (λ (x : ProxySetup). x.routing) b, ap (λ (x : ProxySetup). x.schedule) (sym a) ∙ both.1 ∙ ap (λ (x : ProxySetup). x.schedule) b)
        | inr less ↦
            let both = alike n m p less below in
            (ap (λ (x : ProxySetup). x.routing) (sym a) ∙ sym (both.0) ∙ ap (λ (x : ProxySetup). x.routing) b, ap (λ (x : ProxySetup). x.schedule) (sym a) ∙ sym (both.1) ∙ ap (λ (x : ProxySetup). x.schedule) b)
      ]
    ]

all_at : {X : Type 0} (P : X → Type 0) (xs : List X) (i : ℕ) (x : X) → All P xs → slice_get xs i ≡ Some x → P x
all_at P xs i x all e = subst P (get_or_from_slice_get xs i x x e) (all i x (at_within (record { gets = e })))

zero_or_more : (pool : ℕ) → (pool ≡ 0) ⊎ (0 < pool)
zero_or_more pool = grind arith

module _ (cache : CacheLaw) (setup : SetupView) (w : WorldView) (b : Begins setup w) (plans : All (λ proxy. IsPlan proxy.routing proxy.schedule) w.proxies) where
  nothing_sent : {P : Type 0} (m : Message) → Has w.sent m → P
  nothing_sent m has = has_none (subst (λ l. Has l m) b.sent has)

  -- what is held was in the first pool
  held_first : IsNewPoolEmpty setup → (place : ℕ) (proxy : ProxySetup) → slice_get setup.proxies place ≡ Some proxy → IsPlan proxy.routing proxy.schedule → (pool : ℕ) (node : Node) (key : List ℕ) (datum : Datum)
      → pool < length proxy.routing.pools → At w.nodes (home_of w.nodes proxy.routing pool key) node → Holds (contents_of node.cache.items) key datum
      → IsHeld w.sent w.history pool (record { key = key; flags = datum.flags; block = datum.block })
  held_first empty place proxy at plan pool node key datum below there holds =
      let routing = proxy.routing in
      let name = name_at routing pool (place_of routing.hash (pool_of routing pool) key) in
      let was = held_at_first cache setup name node key datum (subst (λ l. At l (home_of l routing pool key) node) b.nodes there) holds in
      let index = was.has.place in
      let stored : At (map held_entry setup.held) index (held_entry was.item) = record { gets = get_mapped held_entry setup.held index was.item was.has.there.gets } in
      let flags : was.item.flags ≡ datum.flags = ap (λ (d : Datum). d.flags) (sym was.is) in
      let block : was.item.block ≡ datum.block = ap (λ (d : Datum). d.block) (sym was.is) in
      let is : held_entry was.item ≡ entry.Stored Beginning key datum.flags datum.block =
      ap (λ k. entry.Stored Beginning k was.item.flags was.item.block) was.of_key ∙ ap (λ f. entry.Stored Beginning key f was.item.block) flags
      ∙ ap (λ x. entry.Stored Beginning key datum.flags x) block in
      let home = has_home routing pool key plan.sound below in
      let names = pool_of routing pool in
      let index_there = place_of routing.hash names key in
      let named : get_or names index_there was.item.node ≡ name = get_or_from_slice_get names index_there name was.item.node (slice_get-get_or names index_there [] home.within) in
      record {
        by = Beginning;
        place = index;
        stored = subst (λ l. At l index (entry.Stored Beginning key datum.flags datum.block)) (sym b.history) (subst (At (map held_entry setup.held) index) is stored);
        source = from_beginning (elim (zero_or_more pool) [
          | inl first ↦ first
          | inr later ↦
              absurd (all_at (λ (x : ProxySetup). ¬ MovesTo x.routing was.item.node) setup.proxies place proxy
              (all_at (λ (x : HeldItem). All (λ (y : ProxySetup). ¬ MovesTo y.routing x.node) setup.proxies) setup.held index was.item empty was.has.there.gets) at
              (record {
                pool = pool;
                later = later;
                has = record { there = below; names = (index_there, home.within, named ∙ sym was.at_node) };
              }))
        ]);
        unremoved = λ m gone has same removed. nothing_sent m has;
      }

  first_grounded : IsNewPoolEmpty setup → (place : ℕ) (proxy : ProxySetup) → slice_get setup.proxies place ≡ Some proxy → IsPlan proxy.routing proxy.schedule → IsGrounded proxy.routing proxy.schedule w
  first_grounded empty place proxy at plan = record {
    plan = plan;
    least = (let is = b.least in let below = least_below setup.proxies place proxy at in omega arith);
    pools = λ m has. nothing_sent m has;
    goes = λ m has. nothing_sent m has;
    reached = λ by item pool n c sent clock. nothing_sent sent.message sent.has;
    reach_down = λ d key noreply issue n c issued clock. (let (item, is) = held_entries setup.held (entry.Issued d issued.proxy (request.Delete key noreply)) issue (subst (λ l. At l issue (entry.Issued d issued.proxy (request.Delete key noreply))) b.history issued.there) in cc);
    sets_later = λ by d item stored pool place issue key noreply sent at issued. nothing_sent sent.message sent.has;
    gets_later = λ m key has is. nothing_sent m has;
    held = λ pool node key datum below there holds. held_first empty place proxy at plan pool node key datum below there holds;
    fresh = λ m flags block c. nothing_sent m (record { place = c.from; there = c.was_sent });
  }

  first_proxy : (n : ℕ) (p : ProxyView) → At w.proxies n p → (proxy : ProxySetup) × (slice_get setup.proxies n ≡ Some proxy) × (p ≡ fresh_proxy (0 + n) 0 proxy.routing proxy.schedule proxy.room)
  first_proxy n p there = proxy_from 0 setup.proxies n p (subst (λ l. slice_get l n ≡ Some p) b.proxies there.gets)

  pub begin_secured : StaysSecured w
  begin_secured hold =
      let alike = b.same.0 hold.same in
      let empty = b.new_empty.0 hold.new_empty in
      record {
        alike = λ m n p q at at'.
            let (one, there, is) = first_proxy m p at in
            let (other, there', is') = first_proxy n q at' in
            let same = same_plan setup.proxies m n one other alike there there' in (
              ap (λ (x : ProxyView). x.routing) is ∙ same.0 ∙ ap (λ (x : ProxyView). x.routing) (sym is'),
              ap (λ (x : ProxyView). x.schedule) is ∙ same.1 ∙ ap (λ (x : ProxyView). x.schedule) (sym is'),
            );
        past = λ n p reading last at clock is.
            let (proxy, there, fresh) = first_proxy n p at in
            let none : None ≡ Some last = ap (λ (x : ProxyView). x.last) (sym fresh) ∙ is in
            cc;
        safe = λ get item issue answer index hit.
            let (held, is) = held_entries setup.held (entry.Answered get (Items hit.items)) answer (subst (λ l. At l answer (entry.Answered get (Items hit.items))) b.history hit.answered) in
            cc;
        grounded = λ n p at.
            let (proxy, there, is) = first_proxy n p at in
            let plan = subst (λ (x : ProxyView). IsPlan x.routing x.schedule) is (all_at (λ (x : ProxyView). IsPlan x.routing x.schedule) w.proxies n p plans at.gets) in
            subst (λ (x : ProxyView). IsGrounded x.routing x.schedule w) (sym is) (first_grounded empty n proxy there plan);
      }

-- proxies of plans are sound, and have those plans
module _ (setup : SetupView) (w : WorldView) (b : Begins setup w) (plans : All (λ proxy. IsPlan proxy.routing proxy.schedule) setup.proxies) where
  pub begin_plans : All (λ proxy. IsPlan proxy.routing proxy.schedule) w.proxies
  begin_plans k d below =
      let (proxy, there, is) = proxy_from 0 setup.proxies k (get_or w.proxies k d) (ap (λ l. slice_get l k) (sym b.proxies) ∙ slice_get-get_or w.proxies k d below) in
      subst (λ (x : ProxyView). IsPlan x.routing x.schedule) (sym is) (all_at (λ (x : ProxySetup). IsPlan x.routing x.schedule) setup.proxies k proxy plans there)

  pub begin_sound : ((number incarnation : ℕ) (routing : RoutingView) (hops : List Hop) (room : ℕ) → IsRouting routing → IsSchedule hops → HaveAsManyHops routing hops → IsSound (fresh_proxy number incarnation routing hops room))
      → All IsSound w.proxies
  begin_sound law k d below =
      let (proxy, there, is) = proxy_from 0 setup.proxies k (get_or w.proxies k d) (ap (λ l. slice_get l k) (sym b.proxies) ∙ slice_get-get_or w.proxies k d below) in
      let plan = all_at (λ (x : ProxySetup). IsPlan x.routing x.schedule) setup.proxies k proxy plans there in
      subst IsSound (sym is) (law (0 + k) 0 proxy.routing proxy.schedule proxy.room plan.sound plan.schedule plan.chain)

within_now : (most : ℕ) (readings : List ℕ) (ticks : List Tick) → StayWithin most readings ticks → AreWithin most readings
within_now most readings [] within = within
within_now most readings (tick ∷ ticks) within = within.0

-- the premises of the setup and the events are those that the fleet tells in the end
pub premises_told : (setup : SetupView) (first last : WorldView) (events : List Event) → Begins setup first → PremisesAtFirst setup (premises_of first)
    → PremisesAfter first events (premises_of last) → PremisesHold setup events → AllHold (premises_of last)
premises_told setup first last events b at_first after hold =
    let standing : first.readings.standing ≡ map (λ proxy. proxy.reading) setup.proxies = ap (λ (r : ReadingsView). r.standing) b.readings in
    record {
      same = subst IsTrue (sym after.same) (at_first.same.1 hold.same);
      new_empty = subst IsTrue (sym after.new_empty) (at_first.new_empty.1 hold.new_empty);
      forward = after.forward.1 (at_first.forward, subst (λ r. NeverGoesBack r (ticks_of events)) (sym standing) hold.forward);
      near = after.near.1 (
        at_first.near.1 (within_now (least_interval_of setup.proxies) (map (λ proxy. proxy.reading) setup.proxies) (ticks_of events) hold.near),
        subst (λ r. StayWithin first.terms.least r (ticks_of events)) (sym standing)
            (subst (λ n. StayWithin n (map (λ proxy. proxy.reading) setup.proxies) (ticks_of events)) (sym b.least) hold.near),
      );
    }

-- and those that it tells are the premises of the setup and the events
pub premises_meant : (setup : SetupView) (first last : WorldView) (events : List Event) → Begins setup first → PremisesAtFirst setup (premises_of first)
    → PremisesAfter first events (premises_of last) → AllHold (premises_of last) → PremisesHold setup events
premises_meant setup first last events b at_first after hold =
    let standing : first.readings.standing ≡ map (λ proxy. proxy.reading) setup.proxies = ap (λ (r : ReadingsView). r.standing) b.readings in
    let forward = after.forward.0 hold.forward in
    let near = after.near.0 hold.near in
    record {
      same = at_first.same.0 (subst IsTrue after.same hold.same);
      new_empty = at_first.new_empty.0 (subst IsTrue after.new_empty hold.new_empty);
      forward = subst (λ r. NeverGoesBack r (ticks_of events)) standing forward.1;
      near = subst (λ n. StayWithin n (map (λ proxy. proxy.reading) setup.proxies) (ticks_of events)) b.least
          (subst (λ r. StayWithin first.terms.least r (ticks_of events)) standing near.1);
    }
