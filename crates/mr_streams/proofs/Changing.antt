-- One proxy changes, or one node, or a connection is made: what else a fleet that mirrors streams keeps.
use Rattle.std.proofs.Common.{◌≡◌, ◌≢◌, ℕ, ◌==◌, ◌&&◌, ◌⊎◌, inl, inr, Bool, true, false, not, List, [], ◌∷◌, ◌++◌, slice_get, slice_set, Option, Some, None, refl, sym, ap, ◌∙◌, subst, eq-eqb}
use Rattle.std.specs.Prelude.{bytes_eq, if◌then◌else◌}
use Rattle.std.proofs.lemmas.List.Folds.{position_or_len-set}
use Rattle.std.proofs.lemmas.Option.{get_or_from_slice_get}
use Rattle.mr_clock.specs.Readings.{ReadingsView}
use Rattle.mr_history.specs.Places.{At}
use Rattle.mr_history.specs.declared.entry.Entry.{Entry}
use Rattle.mr_node.specs.Recency.{CacheView}
use Rattle.mr_proxy.specs.ProxyView.{ProxyView}
use Rattle.mr_loop.specs.Links.{is_up_at, is_up_in}
use Rattle.mr_loop.specs.LoopView.{LoopView}
use Rattle.mr_loop.specs.declared.link.Link.{Link}
use Rattle.mr_loop.specs.declared.node.client.NodeClient.{NodeClient}
use Rattle.mr_loop.specs.declared.sent_legs.SentLeg.{SentLeg}
use Rattle.mr_world.specs.Headline.{IsPlan}
use Rattle.mr_world.specs.Positions.{node_number}
use Rattle.mr_world.specs.WorldView.{WorldView}
use Rattle.mr_world.specs.declared.message.Delivery.{Delivery}
use Rattle.mr_world.specs.declared.message.Message.{Message}
use Rattle.mr_world.specs.declared.node.Node.{Node}
use Rattle.mr_streams.specs.Flows.{AreOf}
use Rattle.mr_streams.specs.Kept.{AreTellable}
use Rattle.mr_streams.specs.OneNode.{holding}
use Rattle.mr_streams.specs.OneProxy.{IsKin}
use Rattle.mr_streams.specs.Refines.{Tells}
use Rattle.mr_streams.specs.Steps.{names_of, left_if_down}
use Rattle.mr_streams.specs.StreamsView.{Connection}
use Rattle.mr_streams.proofs.Lists.{at_set, at_written, at_elsewhere, at_one, at_last, same_or_not}
use Rattle.mr_streams.proofs.Mirrors.{Mirrors, FlowsOf, IsHere, IsAtHome, flows_left}

-- a connection stands where another one stood: between the same ends, unless one of them is gone
pub record IsLike (old new : Connection) : Type 0 where
  pub proxy : new.proxy ≡ old.proxy
  pub link : new.link ≡ old.link
  pub node : new.node ≡ old.node
  pub place : (place : ℕ) → new.place ≡ Some place → old.place ≡ Some place
  pub here : new.is_left ≡ false → old.is_left ≡ false

pub record StandsFor (olds : List Connection) (number : ℕ) (new : Connection) : Type 0 where
  pub old : Connection
  pub there : At olds number old
  pub like : IsLike old new

home_like : (cores : List ProxyView) (nodes : List Node) (p : ℕ) (core core' : ProxyView) (old new : Connection) → At cores p core → IsKin core core' → IsLike old new
    → IsAtHome cores nodes old → IsAtHome (slice_set cores p core') nodes new
home_like cores nodes p core core' old new there kin like h =
    elim (same_or_not new.proxy p) [
      | inl same ↦ (
          let one : core ≡ h.core = at_one there (subst (λ n. At cores n h.core) (sym like.proxy ∙ same) h.home) in
          record {
            core = core';
            name = h.name;
            home = subst (λ n. At (slice_set cores p core') n core') (sym same) (at_written core' there);
            named = subst (λ r. At (names_of r) new.link h.name) (ap (λ (c : ProxyView). c.routing) (sym one) ∙ sym kin.routing)
                (subst (λ n. At (names_of h.core.routing) n h.name) (sym like.link) h.named);
            numbered = like.node ∙ h.numbered;
          })
      | inr other ↦ record {
        core = h.core;
        name = h.name;
        home = at_elsewhere core' other (subst (λ n. At cores n h.core) (sym like.proxy) h.home);
        named = subst (λ n. At (names_of h.core.routing) n h.name) (sym like.link) h.named;
        numbered = like.node ∙ h.numbered;
      }
    ]

-- one proxy changes, and with it the connections over its links
pub loop_mirrors : (w w' : WorldView) (readings : ReadingsView) (cores : List ProxyView) (lines : List (List Link)) (nodes : List Node) (seats : List (List NodeClient))
    (connections connections' : List Connection) (history history' : List Entry) (p : ℕ) (core core' : ProxyView) (links' : List Link)
    → Mirrors w readings cores lines nodes seats connections history → At cores p core → IsKin core core'
    → w'.readings ≡ w.readings → w'.proxies ≡ slice_set w.proxies p core' → w'.nodes ≡ w.nodes → Tells w'.history history'
    → ((place : ℕ) (link : Link) → At links' place link → AreOf p link.legs)
    → ((i : ℕ) (c : Connection) → At connections' i c → StandsFor connections i c)
    → ((i : ℕ) (c : Connection) → At connections' i c → FlowsOf w'.sent w'.replies (slice_set lines p links') seats c)
    → Mirrors w' readings (slice_set cores p core') (slice_set lines p links') nodes seats connections' history'
loop_mirrors w w' readings cores lines nodes seats connections connections' history history' p core core' links' m there kin clocks proxies same tells own stands flows = record {
  readings_are = clocks ∙ m.readings_are;
  cores_are = proxies ∙ ap (λ c. slice_set c p core') m.cores_are;
  nodes_are = same ∙ m.nodes_are;
  tells = tells;
  tellable = m.tellable;
  named = m.named;
  numbers = λ number c h. elim (at_set cores p core' h) [
    | inl e ↦ ap (λ (x : ProxyView). x.number) e.1 ∙ kin.number ∙ m.numbers p core there ∙ sym e.0
    | inr e ↦ m.numbers number c e.1
  ];
  plans = λ number c h. elim (at_set cores p core' h) [
    | inl e ↦ subst (λ (x : ProxyView). IsPlan x.routing x.schedule) (sym e.1)
        (subst (λ s. IsPlan core'.routing s) (sym kin.schedule) (subst (λ r. IsPlan r core.schedule) (sym kin.routing) (m.plans p core there)))
    | inr e ↦ m.plans number c e.1
  ];
  own = λ number place links link h k. elim (at_set lines p links' h) [
    | inl e ↦ subst (λ n. AreOf n link.legs) (sym e.0) (own place link (subst (λ l. At l place link) e.1 k))
    | inr e ↦ m.own number place links link e.1 k
  ];
  flows = flows;
  homes = λ i c h. (let s = stands i c h in home_like cores nodes p core core' s.old c there kin s.like (m.homes i s.old s.there));
  one_link = λ i j c d h k left right e f. (let s = stands i c h in let t = stands j d k in
      m.one_link i j s.old t.old s.there t.there (s.like.here left) (t.like.here right) (sym s.like.proxy ∙ e ∙ t.like.proxy) (sym s.like.link ∙ f ∙ t.like.link));
  one_place = λ i j place c d h k e f same_node. (let s = stands i c h in let t = stands j d k in
      m.one_place i j place s.old t.old s.there t.there (s.like.place place e) (t.like.place place f) (sym s.like.node ∙ same_node ∙ t.like.node));
}

pub numbered_still : (nodes : List Node) (n : ℕ) (old new : Node) (name : List ℕ) → slice_get nodes n ≡ Some old → new.name ≡ old.name → node_number (slice_set nodes n new) name ≡ node_number nodes name
numbered_still nodes n old new name e same =
    position_or_len-set (λ (node : Node). bytes_eq node.name name) nodes n new old
    (ap (λ (b : List ℕ). bytes_eq b name) (same ∙ ap (λ (y : Node). y.name) (sym (get_or_from_slice_get nodes n old old e))))

-- one node changes, and with it the connections to it
pub node_mirrors : (w w' : WorldView) (readings : ReadingsView) (cores : List ProxyView) (lines : List (List Link)) (nodes : List Node) (seats seats' : List (List NodeClient))
    (connections connections' : List Connection) (history history' : List Entry) (n : ℕ) (name : List ℕ) (cache cache' : CacheView)
    → Mirrors w readings cores lines nodes seats connections history → At nodes n (holding name cache) → AreTellable cache'.items
    → w'.readings ≡ w.readings → w'.proxies ≡ w.proxies → w'.nodes ≡ slice_set w.nodes n (holding name cache') → Tells w'.history history'
    → ((i : ℕ) (c : Connection) → At connections' i c → StandsFor connections i c)
    → ((i : ℕ) (c : Connection) → At connections' i c → FlowsOf w'.sent w'.replies lines seats' c)
    → Mirrors w' readings cores lines (slice_set nodes n (holding name cache')) seats' connections' history'
node_mirrors w w' readings cores lines nodes seats seats' connections connections' history history' n name cache cache' m there kept clocks proxies changed tells stands flows = record {
  readings_are = clocks ∙ m.readings_are;
  cores_are = proxies ∙ m.cores_are;
  nodes_are = changed ∙ ap (λ x. slice_set x n (holding name cache')) m.nodes_are;
  tells = tells;
  tellable = λ number node h. elim (at_set nodes n (holding name cache') h) [
    | inl e ↦ subst (λ (x : Node). AreTellable x.cache.items) (sym e.1) kept
    | inr e ↦ m.tellable number node e.1
  ];
  named = λ number node h. elim (at_set nodes n (holding name cache') h) [
    | inl e ↦ ap (λ (x : Node). node_number (slice_set nodes n (holding name cache')) x.name) e.1
        ∙ numbered_still nodes n (holding name cache) (holding name cache') name there.gets refl ∙ m.named n (holding name cache) there ∙ sym e.0
    | inr e ↦ numbered_still nodes n (holding name cache) (holding name cache') node.name there.gets refl ∙ m.named number node e.1
  ];
  numbers = m.numbers;
  plans = m.plans;
  own = m.own;
  flows = flows;
  homes = λ i c h. (let s = stands i c h in let old = m.homes i s.old s.there in record {
    core = old.core;
    name = old.name;
    home = subst (λ k. At cores k old.core) (sym s.like.proxy) old.home;
    named = subst (λ k. At (names_of old.core.routing) k old.name) (sym s.like.link) old.named;
    numbered = s.like.node ∙ old.numbered ∙ sym (numbered_still nodes n (holding name cache) (holding name cache') old.name there.gets refl);
  });
  one_link = λ i j c d h k left right e f. (let s = stands i c h in let t = stands j d k in
      m.one_link i j s.old t.old s.there t.there (s.like.here left) (t.like.here right) (sym s.like.proxy ∙ e ∙ t.like.proxy) (sym s.like.link ∙ f ∙ t.like.link));
  one_place = λ i j place c d h k e f same_node. (let s = stands i c h in let t = stands j d k in
      m.one_place i j place s.old t.old s.there t.there (s.like.place place e) (t.like.place place f) (sym s.like.node ∙ same_node ∙ t.like.node));
}

-- a connection is made
pub made_mirrors : (w : WorldView) (readings : ReadingsView) (cores : List ProxyView) (lines : List (List Link)) (nodes : List Node) (seats : List (List NodeClient))
    (connections : List Connection) (history : List Entry) (new : Connection) → Mirrors w readings cores lines nodes seats connections history
    → FlowsOf w.sent w.replies lines seats new → IsAtHome cores nodes new
    → ((i : ℕ) (c : Connection) → At connections i c → c.is_left ≡ false → c.proxy ≡ new.proxy → c.link ≡ new.link → ⊥)
    → ((i place : ℕ) (c : Connection) → At connections i c → c.place ≡ Some place → new.place ≡ Some place → c.node ≡ new.node → ⊥)
    → Mirrors w readings cores lines nodes seats (connections ++ new ∷ []) history
made_mirrors w readings cores lines nodes seats connections history new m flows home no_link no_place = record {
  readings_are = m.readings_are;
  cores_are = m.cores_are;
  nodes_are = m.nodes_are;
  tells = m.tells;
  tellable = m.tellable;
  named = m.named;
  numbers = m.numbers;
  plans = m.plans;
  own = m.own;
  flows = λ i c h. elim (at_last connections new h) [
    | inl old ↦ m.flows i c old
    | inr last ↦ subst (λ x. FlowsOf w.sent w.replies lines seats x) (sym last.1) flows
  ];
  homes = λ i c h. elim (at_last connections new h) [
    | inl old ↦ m.homes i c old
    | inr last ↦ subst (λ x. IsAtHome cores nodes x) (sym last.1) home
  ];
  one_link = λ i j c d h k left right e f. elim (at_last connections new h) [
    | inl old ↦ elim (at_last connections new k) [
      | inl other ↦ m.one_link i j c d old other left right e f
      | inr last ↦ absurd (no_link i c old left (e ∙ ap (λ (x : Connection). x.proxy) last.1) (f ∙ ap (λ (x : Connection). x.link) last.1))
    ]
    | inr first ↦ elim (at_last connections new k) [
      | inl other ↦ absurd (no_link j d other right (sym e ∙ ap (λ (x : Connection). x.proxy) first.1) (sym f ∙ ap (λ (x : Connection). x.link) first.1))
      | inr last ↦ first.0 ∙ sym last.0
    ]
  ];
  one_place = λ i j place c d h k e f same_node. elim (at_last connections new h) [
    | inl old ↦ elim (at_last connections new k) [
      | inl other ↦ m.one_place i j place c d old other e f same_node
      | inr last ↦ absurd (no_place i place c old e (ap (λ (x : Connection). x.place) (sym last.1) ∙ f) (same_node ∙ ap (λ (x : Connection). x.node) last.1))
    ]
    | inr first ↦ elim (at_last connections new k) [
      | inl other ↦ absurd (no_place j place d other f (ap (λ (x : Connection). x.place) (sym first.1) ∙ e) (sym same_node ∙ ap (λ (x : Connection). x.node) first.1))
      | inr last ↦ first.0 ∙ sym last.0
    ]
  ];
}

-- a link is as it was, where it is up
abbrev pub IsSameLink : List Link → List Link → ℕ → Type 0
IsSameLink links links' n = (link link' : Link) → At links n link → At links' n link' → link.is_up ≡ true → link'.is_up ≡ true
    → (link'.legs ≡ link.legs) × (link'.reader.kept ≡ link.reader.kept) × (link'.out ≡ link.out)

-- the link of a number that is up
pub up_there : (o : Option Link) (links : List Link) (n : ℕ) → slice_get links n ≡ o → is_up_in o ≡ true → (link : Link) × At links n link × (link.is_up ≡ true)
up_there None links n e up = absurd (let no : false ≡ true = up in cc)
up_there (Some link) links n e up = (link, record { gets = e }, up)

pub up_at : (links : List Link) (n : ℕ) → is_up_at links n ≡ true → (link : Link) × At links n link × (link.is_up ≡ true)
up_at links n up = up_there (slice_get links n) links n refl up

pub here_elsewhere : (lines : List (List Link)) (p : ℕ) (links' : List Link) (c : Connection) (legs : List SentLeg) (front out : List ℕ) → c.proxy ≢ p
    → IsHere lines c legs front out → IsHere (slice_set lines p links') c legs front out
here_elsewhere lines p links' c legs front out other h = record {
  links = h.links;
  link = h.link;
  home = at_elsewhere links' other h.home;
  there = h.there;
  is_up = h.is_up;
  legs_are = h.legs_are;
  kept = h.kept;
  out_is = h.out_is;
}

here_still : (lines : List (List Link)) (p : ℕ) (links links' : List Link) (c : Connection) (legs : List SentLeg) (front out : List ℕ) → At lines p links → c.proxy ≡ p
    → IsSameLink links links' c.link → is_up_at links' c.link ≡ true → IsHere lines c legs front out → IsHere (slice_set lines p links') c legs front out
here_still lines p links links' c legs front out there same still up h =
    let own : links ≡ h.links = at_one there (subst (λ n. At lines n h.links) same h.home) in
    let new = up_at links' c.link up in
    let is = still h.link new.0 (subst (λ l. At l c.link h.link) (sym own) h.there) new.1 h.is_up new.2 in
    record {
      links = links';
      link = new.0;
      home = subst (λ n. At (slice_set lines p links') n links') (sym same) (at_written links' there);
      there = new.1;
      is_up = new.2;
      legs_are = is.0 ∙ h.legs_are;
      kept = is.1 ∙ h.kept;
      out_is = is.2 ∙ h.out_is;
    }

chosen : (P : Connection → Type 0) (b : Bool) (c : Connection) → (b ≡ true → P (record c { is_left = true })) → (b ≡ false → P c) → P (if b then record c { is_left = true } else c)
chosen P true c gone stays = gone refl
chosen P false c gone stays = stays refl

not_down : (p k : ℕ) (up : Bool) → ((k == p) && not up) ≡ false → k ≡ p → up ≡ true
not_down p k true e same = refl
not_down p k false e same = absurd (let yes : (k == p) ≡ true = eq-eqb k p same in let no : true ≡ false = ap (λ b. b && true) (sym yes) ∙ e in cc)

-- what is so of a connection whose proxy's end is gone, and of one that is as it was while its link is up, is so of it after a step of a loop
pub unless_down : (P : Connection → Type 0) (p : ℕ) (loop : LoopView) (c : Connection) → P (record c { is_left = true })
    → ((c.proxy ≢ p) ⊎ ((c.proxy ≡ p) × (is_up_at loop.links c.link ≡ true)) → P c) → P (left_if_down p loop c)
unless_down P p loop c left here =
    chosen P ((c.proxy == p) && not (is_up_at loop.links c.link)) c (λ e. left) (λ e. here (elim (same_or_not c.proxy p) [
      | inl same ↦ inr (same, not_down p c.proxy (is_up_at loop.links c.link) e same)
      | inr other ↦ inl other
    ]))

-- a connection whose link is as it was, or is down
pub moved_flow : (messages : List Message) (deliveries : List Delivery) (lines : List (List Link)) (seats : List (List NodeClient)) (p : ℕ) (loop loop' : LoopView) (c : Connection)
    → At lines p loop.links → FlowsOf messages deliveries lines seats c → (c.is_left ≡ false → c.proxy ≡ p → IsSameLink loop.links loop'.links c.link)
    → FlowsOf messages deliveries (slice_set lines p loop'.links) seats (left_if_down p loop' c)
moved_flow messages deliveries lines seats p loop loop' c there h still =
    let lines' : List (List Link) = slice_set lines p loop'.links in
    unless_down (λ x. FlowsOf messages deliveries lines' seats x) p loop' c (flows_left messages deliveries lines lines' seats c h) (λ where'. record {
      returning = h.returning;
      going = h.going;
      front = h.front;
      tail = h.tail;
      kept = h.kept;
      out = h.out;
      is_deaf = h.is_deaf;
      busy = h.busy;
      here = λ hears. elim where' [
        | inl other ↦ here_elsewhere lines p loop'.links c (h.returning ++ h.going) h.front h.out other (h.here hears)
        | inr same ↦ here_still lines p loop.links loop'.links c (h.returning ++ h.going) h.front h.out there same.0 (still hears same.0) same.1 (h.here hears)
      ];
      opens = h.opens;
    })

left_like : (c : Connection) → IsLike c (record c { is_left = true })
left_like c = record { proxy = refl; link = refl; node = refl; place = λ place e. e; here = λ e. absurd (let no : true ≡ false = e in cc) }

pub same_like : (c : Connection) → IsLike c c
same_like c = record { proxy = refl; link = refl; node = refl; place = λ place e. e; here = λ e. e }

pub down_like : (p : ℕ) (loop : LoopView) (c : Connection) → IsLike c (left_if_down p loop c)
down_like p loop c = unless_down (λ x. IsLike c x) p loop c (left_like c) (λ _. same_like c)

pub like_on : (a b c : Connection) → IsLike a b → IsLike b c → IsLike a c
like_on a b c h k = record {
  proxy = k.proxy ∙ h.proxy;
  link = k.link ∙ h.link;
  node = k.node ∙ h.node;
  place = λ place e. h.place place (k.place place e);
  here = λ e. h.here (k.here e);
}
