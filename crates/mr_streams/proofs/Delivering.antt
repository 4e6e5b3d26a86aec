-- A node's exchanges are messages that are delivered, in their order.
use Rattle.std.proofs.Common.{◌≡◌, ℕ, inl, inr, List, [], ◌∷◌, ◌++◌, true, length, slice_set, flat_map, refl, sym, ap, ◌∙◌, subst, append_assoc}
use Rattle.std.specs.List.{AllByRecursion}
use Rattle.std.proofs.lemmas.List.{append-nil, set-set}
use Rattle.mr_text.specs.Canonical.{canonical_reply}
use Rattle.mr_text.specs.declared.reply.Reply.{Reply}
use Rattle.mr_text.specs.declared.request.Request.{Request}
use Rattle.mr_text.specs.declared.reply.Reply.TheVariants.{Items, Stored, Deleted, NotFound, Error, ClientError, ServerError}
use Rattle.mr_history.specs.Places.{At}
use Rattle.mr_history.specs.declared.entry.Author.{Author}
use Rattle.mr_history.specs.declared.entry.Author.TheVariants.{By}
use Rattle.mr_history.specs.declared.entry.Entry.{Entry}
use Rattle.mr_join.specs.declared.leg_reply.LegReply.{LegReply}
use Rattle.mr_node.specs.Output.{Exchange, output_of, text_of_exchange}
use Rattle.mr_node.specs.Output.Exchange.{Asked}
use Rattle.mr_node.specs.Recency.{CacheView, RecencyStep}
use Rattle.mr_node.specs.declared.command.NodeCommand.{NodeCommand}
use Rattle.mr_node.specs.declared.command.NodeCommand.TheVariants.{Get, Set, Delete}
use Rattle.mr_proxy.specs.NodeReplies.{IsAnswer}
use Rattle.mr_proxy.specs.NodeRequests.{request_for, request_with}
use Rattle.mr_proxy.specs.declared.sheet.LegSheet.{LegSheet}
use Rattle.mr_loop.specs.Links.{is_get, legs_of}
use Rattle.mr_loop.specs.Returning.{Answers}
use Rattle.mr_loop.specs.declared.sent_legs.SentLeg.{SentLeg}
use Rattle.mr_loop.specs.node.Serving.{AsksOnce}
use Rattle.mr_world.specs.Steps.{performed}
use Rattle.mr_world.specs.WorldView.{WorldView}
use Rattle.mr_world.specs.declared.event.Event.TheVariants.{Deliver}
use Rattle.mr_world.specs.declared.message.Delivery.{Delivery}
use Rattle.mr_world.specs.declared.message.Message.{Message}
use Rattle.mr_world.specs.declared.note.Note.TheVariants as note
use Rattle.mr_streams.specs.Entries.{stored_by}
use Rattle.mr_streams.specs.Fleet.{FleetEvent, ticks_of}
use Rattle.mr_streams.specs.Flows.{AreGets, AreReplies, AreRequests, IsError, IsGoing, IsMessage, WasAnswered, WasDelivered, WereDelivered, request_of}
use Rattle.mr_streams.specs.Kept.{AreTellable}
use Rattle.mr_streams.specs.OneNode.{ServesSo, holding}
use Rattle.mr_streams.specs.Refines.{Tells}
use Rattle.mr_streams.specs.StreamsView.{node_does}
use Rattle.mr_streams.proofs.Exchanges.{RequestLaws, AsksAll, SpellsAll, first_exchange, text_told}
use Rattle.mr_streams.proofs.Fronts.{has_left}
use Rattle.mr_streams.proofs.Lists.{at_left, at_new, at_written, written_back}
use Rattle.mr_streams.proofs.Performing.{PerformsSent, request_many, request_one, sent_performed}
use Rattle.mr_streams.proofs.Runs.{run_append, ticks_append}
use Rattle.mr_streams.proofs.Together.{AllGets, PerformsAll, get_is}

-- what was delivered stays so
were_still : (messages : List Message) (deliveries more : List Delivery) (sheets : List LegSheet) (said : List LegReply) → WereDelivered messages deliveries sheets said
    → WereDelivered messages (deliveries ++ more) sheets said
were_still messages deliveries more [] said were = were
were_still messages deliveries more (sheet ∷ sheets) [] were = were
were_still messages deliveries more (sheet ∷ sheets) (one ∷ said) were = (
  (let d = were.0 in record { message = d.message; number = d.number; from = d.from; there = d.there; of_leg = d.of_leg; replied = at_left more d.replied }),
  were_still messages deliveries more sheets said were.1,
)

pub answered_still : (messages : List Message) (deliveries more : List Delivery) (sent : SentLeg) (reply : Reply) → WasAnswered messages deliveries sent reply
    → WasAnswered messages (deliveries ++ more) sent reply
answered_still messages deliveries more sent reply was =
    elim was [
      | inl d ↦ inl (record { said = d.said; answers = d.answers; delivered = were_still messages deliveries more (legs_of sent) d.said d.delivered })
      | inr e ↦ inr e
    ]

pub replies_still : (messages : List Message) (deliveries more : List Delivery) (legs : List SentLeg) (bytes : List ℕ) → AreReplies messages deliveries legs bytes
    → AreReplies messages (deliveries ++ more) legs bytes
replies_still messages deliveries more [] bytes h = h
replies_still messages deliveries more (sent ∷ legs) bytes h =
    (h.0, h.1, answered_still messages deliveries more sent h.0 h.2, h.3, h.4, replies_still messages deliveries more legs h.1 h.5)

-- replies behind replies
pub replies_both : (messages : List Message) (deliveries : List Delivery) (legs others : List SentLeg) (bytes later : List ℕ) → AreReplies messages deliveries legs bytes
    → AreReplies messages deliveries others later → AreReplies messages deliveries (legs ++ others) (bytes ++ later)
replies_both messages deliveries [] others bytes later h k = subst (λ b. AreReplies messages deliveries others (b ++ later)) (sym h) k
replies_both messages deliveries (sent ∷ legs) others bytes later h k = (
  h.0,
  h.1 ++ later,
  h.2,
  h.3,
  ap (λ b. b ++ later) h.4 ∙ append_assoc (canonical_reply h.0) h.1 later,
  replies_both messages deliveries legs others h.1 later h.5 k,
)

-- nothing happens
abbrev pub serves_nothing : (w : WorldView) (number : ℕ) (name : List ℕ) (cache : CacheView) (heard heard' : List Entry) → At w.nodes number (holding name cache) → heard' ≡ heard
    → ServesSo w number name cache heard heard'
serves_nothing w number name cache heard heard' there same = record {
  world = w;
  events = [];
  run = refl;
  nodes = sym (written_back there);
  proxies = refl;
  sent = refl;
  readings = refl;
  more = [];
  replies = sym (append-nil w.replies);
  tells = λ t. subst (λ h. Tells w.history h) (sym same) t;
  grows = λ x h. h;
  ticks = refl;
}

-- the history is so by another word
abbrev pub serves_to : (w : WorldView) (number : ℕ) (name : List ℕ) (cache : CacheView) (a b c : List Entry) → b ≡ c → ServesSo w number name cache a b → ServesSo w number name cache a c
serves_to w number name cache a b c e h = record {
  world = h.world;
  events = h.events;
  run = h.run;
  nodes = h.nodes;
  proxies = h.proxies;
  sent = h.sent;
  readings = h.readings;
  more = h.more;
  replies = h.replies;
  tells = λ t. subst (λ x. Tells h.world.history x) e (h.tells t);
  grows = h.grows;
  ticks = h.ticks;
}

-- one run behind the other
abbrev pub serves_on : (w : WorldView) (number : ℕ) (name : List ℕ) (cache last : CacheView) (a b c : List Entry) (h : ServesSo w number name cache a b)
    → ServesSo h.world number name last b c → ServesSo w number name last a c
serves_on w number name cache last a b c h k = record {
  world = k.world;
  events = h.events ++ k.events;
  run = run_append h.events k.events w h.world k.world h.run k.run;
  nodes = k.nodes ∙ ap (λ n. slice_set n number (holding name last)) h.nodes ∙ set-set w.nodes number (holding name cache) (holding name last);
  proxies = k.proxies ∙ h.proxies;
  sent = k.sent ∙ h.sent;
  readings = k.readings ∙ h.readings;
  more = h.more ++ k.more;
  replies = k.replies ∙ ap (λ r. r ++ k.more) h.replies ∙ append_assoc w.replies h.more k.more;
  tells = λ t. k.tells (h.tells t);
  grows = λ x has. k.grows x (h.grows x has);
  ticks = ticks_append h.events k.events ∙ ap (λ t. t ++ ticks_of k.events) h.ticks ∙ k.ticks;
}

tells_nothing : (w heard gains : List Entry) → gains ≡ [] → Tells w heard → Tells (w ++ []) (heard ++ gains)
tells_nothing w heard gains e t =
    subst (λ x. Tells x (heard ++ gains)) (sym (append-nil w)) (subst (λ g. Tells w (heard ++ g)) (sym e) (subst (λ x. Tells w x) (sym (append-nil heard)) t))

-- what a node did is told of in both histories
tells_done : (by : Author) (w heard first : List Entry) (sheet : LegSheet) (command : NodeCommand) (told : Reply) (said : LegReply)
    → first ≡ stored_by by (Asked (request_for command) told) → IsAnswer command told said → (IsError told → ⊥)
    → Tells w heard → Tells (w ++ performed sheet command) (heard ++ first)
tells_done by w heard first sheet (Get key) told said gains answers fine t = tells_nothing w heard first gains t
tells_done by w heard first sheet (Set key flags exptime block) Stored said gains answers fine t =
    subst (λ g. Tells (w ++ performed sheet (Set key flags exptime block)) (heard ++ g)) (sym gains) (Tells.stores (By sheet.id.op) by key flags block t)
tells_done by w heard first sheet (Set key flags exptime block) (Items items) said gains answers fine t = absurd answers
tells_done by w heard first sheet (Set key flags exptime block) Deleted said gains answers fine t = absurd answers
tells_done by w heard first sheet (Set key flags exptime block) NotFound said gains answers fine t = absurd answers
tells_done by w heard first sheet (Set key flags exptime block) Error said gains answers fine t = absurd (fine tt)
tells_done by w heard first sheet (Set key flags exptime block) (ClientError cause) said gains answers fine t = absurd (fine tt)
tells_done by w heard first sheet (Set key flags exptime block) (ServerError cause) said gains answers fine t = absurd (fine tt)
tells_done by w heard first sheet (Delete key) told said gains answers fine t =
    subst (λ x. Tells (w ++ performed sheet (Delete key)) x) (sym (ap (λ g. heard ++ g) gains ∙ append-nil heard)) (Tells.removes sheet.id.op sheet.side key t)

-- an error stores nothing
stores_none : (by : Author) (first : List Entry) (command : NodeCommand) (told : Reply) → first ≡ stored_by by (Asked (request_for command) told) → IsError told → first ≡ []
stores_none by first (Get key) told gains error = gains
stores_none by first (Set key flags exptime block) (Items items) gains error = absurd error
stores_none by first (Set key flags exptime block) Stored gains error = absurd error
stores_none by first (Set key flags exptime block) Deleted gains error = absurd error
stores_none by first (Set key flags exptime block) NotFound gains error = absurd error
stores_none by first (Set key flags exptime block) Error gains error = gains
stores_none by first (Set key flags exptime block) (ClientError cause) gains error = gains
stores_none by first (Set key flags exptime block) (ServerError cause) gains error = gains
stores_none by first (Delete key) told gains error = gains

-- one message is delivered
delivered : (w : WorldView) (number reading : ℕ) (name : List ℕ) (old new : CacheView) (sheet : LegSheet) (said : LegReply) (heard heard' : List Entry)
    → At w.nodes number (holding name old) → IsMessage w.sent number sheet → RecencyStep old reading sheet.command said new
    → (Tells w.history heard → Tells (w.history ++ performed sheet sheet.command) heard') → ServesSo w number name new heard heard'
delivered w number reading name old new sheet said heard heard' there going step tells =
    let delivery : Delivery = record { message = going.number; reply = said } in
    let world : WorldView = record w {
      nodes = slice_set w.nodes number (holding name new);
      replies = w.replies ++ delivery ∷ [];
      history = w.history ++ performed sheet sheet.command;
    } in
    record {
      world = world;
      events = FleetEvent.Happens (Deliver going.number reading) ∷ [];
      run = (
        world,
        (
          note.Performed (length w.replies),
          record {
            message = record { sheet = sheet; node = number };
            node = holding name old;
            reply = said;
            left = new;
            sent = going.there;
            there = there;
            step = step;
            tells = refl;
            becomes = refl;
          },
        ),
        refl,
      );
      nodes = refl;
      proxies = refl;
      sent = refl;
      readings = refl;
      more = delivery ∷ [];
      replies = refl;
      tells = tells;
      grows = λ x h. has_left (performed sheet sheet.command) h;
      ticks = refl;
    }

-- and this came back of it
was_delivered : (w : WorldView) (number : ℕ) (sheet : LegSheet) (said : LegReply) (going : IsMessage w.sent number sheet)
    → WasDelivered w.sent (w.replies ++ record { message = going.number; reply = said } ∷ []) sheet said
was_delivered w number sheet said going = record {
  message = record { sheet = sheet; node = number };
  number = length w.replies;
  from = going.number;
  there = going.there;
  of_leg = refl;
  replied = at_new w.replies (record { message = going.number; reply = said });
}

were_both : (messages : List Message) (deliveries more : List Delivery) (sheet : LegSheet) (sheets : List LegSheet) (one : LegReply) (said : List LegReply)
    → WasDelivered messages deliveries sheet one → WereDelivered messages (deliveries ++ more) sheets said → WereDelivered messages (deliveries ++ more) (sheet ∷ sheets) (one ∷ said)
were_both messages deliveries more sheet sheets one said d others = (
  record { message = d.message; number = d.number; from = d.from; there = d.there; of_leg = d.of_leg; replied = at_left more d.replied },
  others,
)

firsts : {X : Type 0} (P : X → Type 0) (xs ys : List X) → AllByRecursion P (xs ++ ys) → AllByRecursion P xs
firsts P [] ys all = tt
firsts P (x ∷ xs) ys all = (all.0, firsts P xs ys all.1)

-- gets that are delivered, one after the other
record GetsDelivered (w : WorldView) (number : ℕ) (name : List ℕ) (new : CacheView) (sheets : List LegSheet) (said : List LegReply) (heard : List Entry) : Type 0 where
  so : ServesSo w number name new heard heard
  were : WereDelivered w.sent (w.replies ++ so.more) sheets said

get_tells : (w heard : List Entry) (sheet : LegSheet) → is_get sheet.command ≡ true → Tells w heard → Tells (w ++ performed sheet sheet.command) heard
get_tells w heard sheet get t =
    subst (λ c. Tells (w ++ performed sheet c) heard) (get_is sheet.command get) (subst (λ x. Tells x heard) (sym (append-nil w)) t)

deliver_gets : (w : WorldView) (number reading : ℕ) (name : List ℕ) (sheets : List LegSheet) (said : List LegReply) (old new : CacheView) (heard : List Entry)
    → At w.nodes number (holding name old) → AllByRecursion (IsMessage w.sent number) sheets → AllGets sheets → PerformsAll old reading sheets said new
    → GetsDelivered w number name new sheets said heard
unfolding delivered
deliver_gets w number reading name [] said old new heard there going gets performs = record {
  so = serves_nothing w number name new heard heard (subst (λ c. At w.nodes number (holding name c)) (sym performs.1) there) refl;
  were = performs.0;
}
deliver_gets w number reading name (sheet ∷ sheets) [] old new heard there going gets performs = absurd performs
deliver_gets w number reading name (sheet ∷ sheets) (one ∷ said) old new heard there going gets performs =
    let middle : CacheView = performs.0 in
    let first = delivered w number reading name old middle sheet one heard heard there going.0 performs.1 (get_tells w.history heard sheet gets.0) in
    let there' : At first.world.nodes number (holding name middle) = at_written (holding name middle) there in
    let next = deliver_gets first.world number reading name sheets said middle new heard there' going.1 gets.1 performs.2 in
    let all = append_assoc w.replies first.more next.so.more in
    record {
      so = serves_on w number name middle new heard heard heard first next.so;
      were = subst (λ d. WereDelivered w.sent d (sheet ∷ sheets) (one ∷ said)) all
          (were_both w.sent (w.replies ++ first.more) next.so.more sheet sheets one said (was_delivered w number sheet one going.0) next.were);
    }

-- what one exchange does, and what is said of its legs
record ServedOne (messages : List Message) (deliveries : List Delivery) (w : WorldView) (number : ℕ) (name : List ℕ) (new : CacheView) (sent : SentLeg) (told : Reply) (heard heard' : List Entry) : Type 0 where
  so : ServesSo w number name new heard heard'
  was : WasAnswered messages (deliveries ++ so.more) sent told

-- a leg by itself
serve_alone : (by : Author) (w : WorldView) (number reading : ℕ) (name : List ℕ) (old new : CacheView) (client sent_at : ℕ) (sheet : LegSheet) (told : Reply) (said : List LegReply) (heard first : List Entry)
    → At w.nodes number (holding name old) → IsMessage w.sent number sheet → PerformsAll old reading (sheet ∷ []) said new → Answers sheet [] told said → (IsError told → ⊥)
    → first ≡ stored_by by (Asked (request_with sheet.command []) told)
    → ServedOne w.sent w.replies w number name new (record { client = client; sent_at = sent_at; leg = sheet; others = [] }) told heard (heard ++ first)
unfolding delivered
serve_alone by w number reading name old new client sent_at sheet told [] heard first there going performs answers fine gains = absurd performs
serve_alone by w number reading name old new client sent_at sheet told (one ∷ said) heard first there going performs answers fine gains =
    let middle : CacheView = performs.0 in
    let last : new ≡ middle = performs.2.1 in
    let own : answers.0 ≡ one = (let e : one ∷ said ≡ answers.0 ∷ [] = answers.2 in cc) in
    let step : RecencyStep old reading sheet.command one new = subst (λ c. RecencyStep old reading sheet.command one c) (sym last) performs.1 in
    let is : IsAnswer sheet.command told one = subst (λ r. IsAnswer sheet.command told r) own answers.1 in
    let gains' : first ≡ stored_by by (Asked (request_for sheet.command) told) = gains ∙ ap (λ r. stored_by by (Asked r told)) (request_one sheet.command) in
    record {
      so = delivered w number reading name old new sheet one heard (heard ++ first) there going step
          (tells_done by w.history heard first sheet sheet.command told one gains' is fine);
      was = inl (record { said = one ∷ said; answers = answers; delivered = (was_delivered w number sheet one going, performs.2.0) });
    }

gets_store_none : (by : Author) (first : LegSheet) (others : List LegSheet) (told : Reply) → is_get first.command ≡ true → stored_by by (Asked (request_with first.command others) told) ≡ []
gets_store_none by first others told get = ap (λ r. stored_by by (Asked r told)) (request_many first.command others get)

-- an error stores nothing
error_stores_none : (by : Author) (first : List Entry) (command : NodeCommand) (others : List LegSheet) (told : Reply) → first ≡ stored_by by (Asked (request_with command others) told)
    → IsError told → first ≡ []
error_stores_none by first (Get key) others told gains error = gains
error_stores_none by first (Set key flags exptime block) others told gains error = stores_none by first (Set key flags exptime block) told gains error
error_stores_none by first (Delete key) others told gains error = gains

serve_one : (by : Author) (w : WorldView) (number reading : ℕ) (name : List ℕ) (old new : CacheView) (client sent_at : ℕ) (leg : LegSheet) (others : List LegSheet) (told : Reply) (heard first : List Entry)
    → At w.nodes number (holding name old) → AllByRecursion (IsMessage w.sent number) (leg ∷ others) → AreGets leg others
    → PerformsSent old reading leg others told new → first ≡ stored_by by (Asked (request_with leg.command others) told)
    → ServedOne w.sent w.replies w number name new (record { client = client; sent_at = sent_at; leg = leg; others = others }) told heard (heard ++ first)
serve_one by w number reading name old new client sent_at leg [] told heard first there going gets (PerformsSent.did said performs answers fine) gains =
    serve_alone by w number reading name old new client sent_at leg told said heard first there going.0 performs answers fine gains
serve_one by w number reading name old new client sent_at leg (other ∷ others) told heard first there going gets (PerformsSent.did said performs answers fine) gains =
    let done = deliver_gets w number reading name (leg ∷ other ∷ others) said old new heard there going gets performs in
    let none : first ≡ [] = gains ∙ gets_store_none by leg (other ∷ others) told gets.0 in
    record {
      so = serves_to w number name new heard heard (heard ++ first) (sym (ap (λ g. heard ++ g) none ∙ append-nil heard)) done.so;
      was = inl (record { said = said; answers = answers; delivered = done.were });
    }
serve_one by w number reading name old new client sent_at leg others told heard first there going gets (PerformsSent.fails done later said splits looked performs error) gains =
    let some : AllByRecursion (IsMessage w.sent number) done = firsts (IsMessage w.sent number) done later (subst (λ l. AllByRecursion (IsMessage w.sent number) l) splits going) in
    let did = deliver_gets w number reading name done said old new heard there some looked performs in
    let none : first ≡ [] = error_stores_none by first leg.command others told gains error in
    record {
      so = serves_to w number name new heard heard (heard ++ first) (sym (ap (λ g. heard ++ g) none ∙ append-nil heard)) did.so;
      was = inr error;
    }

-- what exchanges do, one after the other
pub record ServedAll (messages : List Message) (deliveries : List Delivery) (w : WorldView) (number : ℕ) (name : List ℕ) (new : CacheView) (going : List SentLeg) (told more : List ℕ) (heard heard' : List Entry) : Type 0 where
  pub so : ServesSo w number name new heard heard'
  pub answered : List SentLeg
  pub left : List SentLeg
  pub splits : going ≡ answered ++ left
  pub replies : AreReplies messages (deliveries ++ so.more) answered told
  pub requests : AreRequests messages number left more
  pub kept : AreTellable new.items

asked_so : (reading : ℕ) (old new : CacheView) (exchange : Exchange) (request : Request) (told : Reply) → exchange ≡ Asked request told
    → AsksOnce node_does reading old exchange new → AsksOnce node_does reading old (Asked request told) new
asked_so reading old new exchange request told e h = subst (λ x. AsksOnce node_does reading old x new) e h

pub serve_all : RequestLaws → (by : Author) (exchanges : List Exchange) (messages : List Message) (deliveries : List Delivery) (w : WorldView) (number reading : ℕ) (name : List ℕ) (old new : CacheView)
    (going : List SentLeg) (bytes more : List ℕ) (heard : List Entry)
    → w.sent ≡ messages → w.replies ≡ deliveries → At w.nodes number (holding name old) → AreTellable old.items
    → AsksAll reading old exchanges new → SpellsAll bytes exchanges → AreRequests messages number going (bytes ++ more)
    → ServedAll messages deliveries w number name new going (output_of exchanges) more heard (heard ++ flat_map (stored_by by) exchanges)
serve_all laws by [] messages deliveries w number reading name old new going bytes more heard ws wr there kept asks spells requests = record {
  so = serves_nothing w number name new heard (heard ++ []) (subst (λ c. At w.nodes number (holding name c)) (sym asks) there) (append-nil heard);
  answered = [];
  left = going;
  splits = refl;
  replies = refl;
  requests = subst (λ b. AreRequests messages number going (b ++ more)) spells requests;
  kept = subst (λ c. AreTellable c.items) (sym asks) kept;
}
serve_all laws by (exchange ∷ exchanges) messages deliveries w number reading name old new going bytes more heard ws wr there kept asks spells requests =
    let cut = subst (λ b. AreRequests messages number going b) (ap (λ b. b ++ more) spells.3 ∙ append_assoc spells.0 spells.1 more) requests in
    let is = first_exchange laws (IsGoing messages number) (λ sent holds. holds.valid) going exchange spells.0 (spells.1 ++ more) spells.2 cut.texts cut.sent in
    let sent : SentLeg = is.sent in
    let once = asked_so reading old asks.0 exchange (request_of sent) is.told is.asks asks.1 in
    let done = sent_performed sent.leg sent.others old asks.0 reading once.0 is.told is.holds.gets is.holds.valid kept once.1 once.2 in
    let gained : List Entry = stored_by by exchange in
    let later : List Entry = flat_map (stored_by by) exchanges in
    let going' : AllByRecursion (IsMessage w.sent number) (legs_of sent) = subst (λ m. AllByRecursion (IsMessage m number) (legs_of sent)) (sym ws) is.holds.there in
    let first = serve_one by w number reading name old asks.0 sent.client sent.sent_at sent.leg sent.others is.told heard gained there going' is.holds.gets done.performs
    (ap (λ x. stored_by by x) is.asks) in
    let was : WasAnswered messages (deliveries ++ first.so.more) sent is.told =
    subst (λ m. WasAnswered m (deliveries ++ first.so.more) sent is.told) ws (subst (λ d. WasAnswered w.sent (d ++ first.so.more) sent is.told) wr first.was) in
    let so = first.so in
    let there' : At so.world.nodes number (holding name asks.0) = subst (λ n. At n number (holding name asks.0)) (sym so.nodes) (at_written (holding name asks.0) there) in
    let next = serve_all laws by exchanges messages (deliveries ++ so.more) so.world number reading name asks.0 new is.later spells.1 more (heard ++ gained)
    (so.sent ∙ ws) (so.replies ∙ ap (λ r. r ++ so.more) wr) there' done.kept asks.2 spells.4 (record { texts = is.texts; sent = is.all }) in
    let told : text_of_exchange exchange ≡ canonical_reply is.told = ap text_of_exchange is.asks ∙ text_told sent.leg.command sent.others is.told in
    let all = append_assoc deliveries so.more next.so.more in
    record {
      so = serves_to w number name new heard ((heard ++ gained) ++ later) (heard ++ (gained ++ later)) (append_assoc heard gained later)
          (serves_on w number name asks.0 new heard (heard ++ gained) ((heard ++ gained) ++ later) so next.so);
      answered = is.sent ∷ next.answered;
      left = next.left;
      splits = is.legs_are ∙ ap (λ l. is.sent ∷ l) next.splits;
      replies = (
        is.told,
        output_of exchanges,
        subst (λ d. WasAnswered messages d is.sent is.told) all (answered_still messages (deliveries ++ so.more) next.so.more is.sent is.told was),
        done.valid,
        ap (λ t. t ++ output_of exchanges) told,
        subst (λ d. AreReplies messages d next.answered (output_of exchanges)) all next.replies,
      );
      requests = next.requests;
      kept = next.kept;
    }
