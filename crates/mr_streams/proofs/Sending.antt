-- Legs that go over links are messages that are sent.
use Rattle.std.proofs.Common.{◌≡◌, ℕ, inl, inr, Bool, true, false, List, [], ◌∷◌, ◌++◌, slice_get, slice_set, Option, Some, None, if◌then◌else◌, refl, sym, ap, ◌∙◌, subst, append_assoc}
use Rattle.std.specs.List.{flat_map, AllByRecursion}
use Rattle.std.proofs.lemmas.Grind.{flat_map-append}
use Rattle.std.proofs.lemmas.List.{append-nil, set-set}
use Rattle.mr_history.specs.Places.{At}
use Rattle.mr_pools.specs.Routing.{RoutingView}
use Rattle.mr_proxy.specs.declared.sheet.LegSheet.{LegSheet}
use Rattle.mr_loop.specs.Counts.{leg_unsent}
use Rattle.mr_loop.specs.Links.{all_sent, after_sending, each_sent, legs_of, link_of, sent_over, sent_over_in, text_of, travelling, with_leg}
use Rattle.mr_loop.proofs.TravelLemmas.{one_link}
use Rattle.mr_loop.specs.declared.asker.Asker.{Asker}
use Rattle.mr_loop.specs.declared.link.Link.{Link}
use Rattle.mr_loop.specs.declared.node.client.NodeClient.{NodeClient}
use Rattle.mr_loop.specs.declared.sent_legs.SentLeg.{SentLeg}
use Rattle.mr_world.specs.declared.message.Delivery.{Delivery}
use Rattle.mr_world.specs.declared.message.Message.{Message}
use Rattle.mr_streams.specs.Flows.{AreOf, AreRequests, IsGoing, IsMessage, SheetsAreOf}
use Rattle.mr_streams.specs.StreamsView.{Connection}
use Rattle.mr_streams.proofs.Changing.{here_elsewhere}
use Rattle.mr_streams.proofs.Connecting.{here_kept}
use Rattle.mr_streams.proofs.Lists.{at_one, at_written, same_or_not, written_back}
use Rattle.mr_streams.proofs.LoopEvents.{own_set}
use Rattle.mr_streams.proofs.Mirrors.{FlowsOf, IsHere}
use Rattle.mr_streams.proofs.Taking.{own_both}
use Rattle.mr_streams.proofs.Travels.{FitTogether, IsReadableSheet, IsTravelling, all_behind, all_travel, travel_valid}

going_more : (messages : List Message) (node : ℕ) (legs : List SentLeg) (sent : SentLeg) → AllByRecursion (IsGoing messages node) legs → IsGoing messages node sent
    → AllByRecursion (IsGoing messages node) (legs ++ sent ∷ [])
going_more messages node [] sent all one = (one, all)
going_more messages node (leg ∷ legs) sent all one = (all.0, going_more messages node legs sent all.1 one)

requests_more : (messages : List Message) (node : ℕ) (legs : List SentLeg) (sent : SentLeg) (bytes : List ℕ) → AreRequests messages node legs bytes → IsGoing messages node sent
    → AreRequests messages node (legs ++ sent ∷ []) (bytes ++ text_of sent)
requests_more messages node legs sent bytes h one = record {
  texts = ap (λ x. x ++ text_of sent) h.texts ∙ ap (λ x. flat_map text_of legs ++ x) (sym (append-nil (text_of sent))) ∙ sym (flat_map-append text_of legs (sent ∷ []));
  sent = going_more messages node legs sent h.sent one;
}

-- a connection over whose link no leg goes
module _ (messages : List Message) (deliveries : List Delivery) (lines : List (List Link)) (seats : List (List NodeClient)) (p : ℕ) (links : List Link) (c : Connection) where
  -- its flows where the links of its proxy are these
  abbrev FlowsBy : List Link → Type 0
  FlowsBy links' = FlowsOf messages deliveries (slice_set lines p links') seats c

  abbrev other_link : (links' : List Link) → FlowsOf messages deliveries lines seats c
      → ((legs : List SentLeg) (front out : List ℕ) → IsHere lines c legs front out → IsHere (slice_set lines p links') c legs front out) → FlowsBy links'
  other_link links' h same = record {
    returning = h.returning;
    going = h.going;
    front = h.front;
    tail = h.tail;
    kept = h.kept;
    out = h.out;
    is_deaf = h.is_deaf;
    busy = h.busy;
    here = λ e. same (h.returning ++ h.going) h.front h.out (h.here e);
    opens = h.opens;
  }

  -- a leg goes over its link
  one_leg : (link : Link) (sent : SentLeg) → At lines p links → At links c.link link → c.proxy ≡ p → c.is_left ≡ false → link.is_up ≡ true → IsGoing messages c.node sent
      → FlowsOf messages deliveries lines seats c → FlowsBy (slice_set links c.link (with_leg sent link))
  one_leg link sent there link_there same here up going h =
      let old = h.here here in
      let links_are : links ≡ old.links = at_one there (subst (λ n. At lines n old.links) same old.home) in
      let one : link ≡ old.link = at_one link_there (subst (λ x. At x c.link old.link) (sym links_are) old.there) in
      let new : Link = with_leg sent link in
      let links' : List Link = slice_set links c.link new in
      let text : List ℕ = text_of sent in
      let texts : (h.kept ++ (c.forth ++ h.out)) ++ text ≡ h.kept ++ (c.forth ++ (h.out ++ text)) =
      append_assoc h.kept (c.forth ++ h.out) text ∙ ap (λ x. h.kept ++ x) (append_assoc c.forth h.out text) in
      record {
        returning = h.returning;
        going = h.going ++ sent ∷ [];
        front = h.front;
        tail = h.tail;
        kept = h.kept;
        out = h.out ++ text;
        is_deaf = h.is_deaf;
        busy = record {
          replies = h.busy.replies;
          requests = λ hears. subst (λ x. AreRequests messages c.node (h.going ++ sent ∷ []) x) texts
              (requests_more messages c.node h.going sent (h.kept ++ (c.forth ++ h.out)) (h.busy.requests hears) going);
        };
        here = λ _. record {
          links = links';
          link = new;
          home = subst (λ n. At (slice_set lines p links') n links') (sym same) (at_written links' there);
          there = at_written new link_there;
          is_up = up;
          legs_are = ap (λ x. x ++ sent ∷ []) (ap (λ (x : Link). x.legs) one ∙ old.legs_are) ∙ append_assoc h.returning h.going (sent ∷ []);
          kept = ap (λ (x : Link). x.reader.kept) one ∙ old.kept;
          out_is = ap (λ x. x ++ text) (ap (λ (x : Link). x.out) one ∙ old.out_is);
        };
        opens = h.opens;
      }

  -- a connection that its proxy has left
  vacant : (links' : List Link) → c.is_left ≡ true → FlowsOf messages deliveries lines seats c → FlowsBy links'
  vacant links' left h = record {
    returning = h.returning;
    going = h.going;
    front = h.front;
    tail = h.tail;
    kept = h.kept;
    out = h.out;
    is_deaf = h.is_deaf;
    busy = h.busy;
    here = λ e. absurd (let no : true ≡ false = sym left ∙ e in cc);
    opens = h.opens;
  }

  -- the link of the connection is that of the leg
  own_leg : (is_up : Bool) (link : Link) (sent : SentLeg) → link.is_up ≡ is_up → At lines p links → At links c.link link → c.proxy ≡ p → c.is_left ≡ false
      → IsGoing messages c.node sent → FlowsOf messages deliveries lines seats c
      → FlowsBy (slice_set links c.link (if is_up then with_leg sent link else record link { counts = leg_unsent sent link.counts }))
  own_leg true link sent up there link_there same here going h = one_leg link sent there link_there same here up going h
  own_leg false link sent up there link_there same here going h =
      let old = h.here here in
      let links_are : links ≡ old.links = at_one there (subst (λ n. At lines n old.links) same old.home) in
      let one : link ≡ old.link = at_one link_there (subst (λ x. At x c.link old.link) (sym links_are) old.there) in
      absurd (let no : false ≡ true = sym up ∙ ap (λ (x : Link). x.is_up) one ∙ old.is_up in cc)

  -- a leg goes over its link, if that is up
  leg_over : (number : ℕ) (link : Link) (sent : SentLeg) → At lines p links → At links number link
      → (c.is_left ≡ false → c.proxy ≡ p → c.link ≡ number → IsGoing messages c.node sent) → (left : Bool) → c.is_left ≡ left
      → FlowsOf messages deliveries lines seats c → FlowsBy (slice_set links number (after_sending sent link))
  leg_over number link sent there link_there goes true left h = vacant (slice_set links number (after_sending sent link)) left h
  leg_over number link sent there link_there goes false left h =
      let new : Link = after_sending sent link in
      elim (same_or_not c.proxy p) [
        | inl same ↦ elim (same_or_not c.link number) [
          | inl own ↦ subst (λ n. FlowsBy (slice_set links n new)) own
              (own_leg link.is_up link sent refl there (subst (λ n. At links n link) (sym own) link_there) same left (goes left same own) h)
          | inr other ↦ other_link (slice_set links number new) h (λ legs front out old. here_kept lines p number links new c legs front out there same other old)
        ]
        | inr other ↦ other_link (slice_set links number new) h (λ legs front out old. here_elsewhere lines p (slice_set links number new) c legs front out other old)
      ]

  leg_over_in : (o : Option Link) (number : ℕ) (sent : SentLeg) → slice_get links number ≡ o → At lines p links
      → (c.is_left ≡ false → c.proxy ≡ p → c.link ≡ number → IsGoing messages c.node sent)
      → FlowsOf messages deliveries lines seats c → FlowsBy (sent_over_in o number sent links)
  leg_over_in None number sent e there goes h = subst (λ l. FlowsOf messages deliveries l seats c) (sym (written_back there)) h
  leg_over_in (Some link) number sent e there goes h = leg_over number link sent there (record { gets = e }) goes c.is_left refl h

-- over this link the message of a leg goes to this connection's node
abbrev pub GoesHome : List Message → ℕ → RoutingView → Connection → LegSheet → Type 0
GoesHome messages p routing c sheet = c.is_left ≡ false → c.proxy ≡ p → c.link ≡ link_of routing sheet → IsMessage messages c.node sheet

-- so do those of all that travel together
abbrev GoHome : List Message → ℕ → RoutingView → Connection → SentLeg → Type 0
GoHome messages p routing c sent = c.is_left ≡ false → c.proxy ≡ p → c.link ≡ link_of routing sent.leg → AllByRecursion (IsMessage messages c.node) (legs_of sent)

go_together : (messages : List Message) (p : ℕ) (routing : RoutingView) (c : Connection) (asker : Asker) (sheets : List LegSheet) → AllByRecursion (GoesHome messages p routing c) sheets
    → AllByRecursion (GoHome messages p routing c) (travelling asker [] sheets)
go_together messages p routing c asker sheets goes =
    all_travel (GoesHome messages p routing c) (GoHome messages p routing c) asker (λ sheet one here same link. (one here same link, tt))
    (λ sheet sent one all e here same link. (
    let first = all here same link in
    (first.0, all_behind (IsMessage messages c.node) sent.others sheet first.1 (one here same (link ∙ sym (one_link routing sheet sent.leg e))))))
    sheets [] goes tt

-- each goes over its link
each_over : (sents : List SentLeg) (messages : List Message) (deliveries : List Delivery) (lines : List (List Link)) (seats : List (List NodeClient)) (p : ℕ) (links : List Link) (c : Connection)
    (routing : RoutingView) → At lines p links → AllByRecursion (GoHome messages p routing c) sents → AllByRecursion IsTravelling sents → FlowsOf messages deliveries lines seats c
    → FlowsOf messages deliveries (slice_set lines p (each_sent routing sents links)) seats c
each_over [] messages deliveries lines seats p links c routing there goes valid h =
    subst (λ l. FlowsOf messages deliveries l seats c) (sym (written_back there)) h
each_over (sent ∷ sents) messages deliveries lines seats p links c routing there goes valid h =
    let number : ℕ = link_of routing sent.leg in
    let between : List Link = sent_over number sent links in
    let first = leg_over_in messages deliveries lines seats p links c (slice_get links number) number sent refl there
    (λ here same link. record { there = goes.0 here same link; gets = valid.0.gets; valid = valid.0.valid }) h in
    let next = each_over sents messages deliveries (slice_set lines p between) seats p between c routing (at_written between there) goes.1 valid.1 first in
    subst (λ l. FlowsOf messages deliveries l seats c) (set-set lines p between (each_sent routing sents between)) next

-- all legs go over their links
pub legs_over : (sheets : List LegSheet) (messages : List Message) (deliveries : List Delivery) (lines : List (List Link)) (seats : List (List NodeClient)) (p : ℕ) (links : List Link) (c : Connection)
    (asker : Asker) (routing : RoutingView) → At lines p links → AllByRecursion (GoesHome messages p routing c) sheets → AllByRecursion IsReadableSheet sheets → FitTogether sheets
    → FlowsOf messages deliveries lines seats c → FlowsOf messages deliveries (slice_set lines p (all_sent asker routing sheets links)) seats c
legs_over sheets messages deliveries lines seats p links c asker routing there goes valid fits h =
    each_over (travelling asker [] sheets) messages deliveries lines seats p links c routing there (go_together messages p routing c asker sheets goes) (travel_valid asker sheets valid fits) h

-- each leg of a link is of this proxy then
own_sent : (p : ℕ) (sent : SentLeg) (link : Link) (is_up : Bool) → SheetsAreOf p (legs_of sent) → AreOf p link.legs
    → AreOf p (if is_up then with_leg sent link else record link { counts = leg_unsent sent link.counts }).legs
own_sent p sent link true one own = own_both p link.legs (sent ∷ []) own (one, tt)
own_sent p sent link false one own = own

own_over_in : (o : Option Link) (p number : ℕ) (sent : SentLeg) (links : List Link) → slice_get links number ≡ o → SheetsAreOf p (legs_of sent)
    → ((place : ℕ) (link : Link) → At links place link → AreOf p link.legs) → (place : ℕ) (link : Link) → At (sent_over_in o number sent links) place link → AreOf p link.legs
own_over_in None p number sent links e one own = own
own_over_in (Some link) p number sent links e one own =
    own_set p links number (after_sending sent link) own (own_sent p sent link link.is_up one (own number link (record { gets = e })))

own_each : (sents : List SentLeg) (p : ℕ) (routing : RoutingView) (links : List Link) → AreOf p sents → ((place : ℕ) (link : Link) → At links place link → AreOf p link.legs)
    → (place : ℕ) (link : Link) → At (each_sent routing sents links) place link → AreOf p link.legs
own_each [] p routing links one own = own
own_each (sent ∷ sents) p routing links one own =
    own_each sents p routing (sent_over (link_of routing sent.leg) sent links) one.1
    (own_over_in (slice_get links (link_of routing sent.leg)) p (link_of routing sent.leg) sent links refl one.0 own)

own_together : (p : ℕ) (asker : Asker) (sheets : List LegSheet) → SheetsAreOf p sheets → AreOf p (travelling asker [] sheets)
own_together p asker sheets own =
    all_travel (λ (sheet : LegSheet). sheet.id.op.proxy ≡ p) (λ (sent : SentLeg). SheetsAreOf p (legs_of sent)) asker (λ sheet one. (one, tt))
    (λ sheet sent one all e. (all.0, all_behind (λ (s : LegSheet). s.id.op.proxy ≡ p) sent.others sheet all.1 one)) sheets [] own tt

pub own_all_sent : (sheets : List LegSheet) (p : ℕ) (asker : Asker) (routing : RoutingView) (links : List Link) → SheetsAreOf p sheets
    → ((place : ℕ) (link : Link) → At links place link → AreOf p link.legs)
    → (place : ℕ) (link : Link) → At (all_sent asker routing sheets links) place link → AreOf p link.legs
own_all_sent sheets p asker routing links one own = own_each (travelling asker [] sheets) p routing links (own_together p asker sheets one) own
