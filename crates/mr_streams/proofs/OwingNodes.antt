-- What happens on the node's side of connections: no more is stored than isn't owed any more.
use Rattle.std.proofs.Common.{◌≡◌, ◌≢◌, ℕ, ◌+◌, ◌<◌, ◌≤◌, ◌⊎◌, inl, inr, true, false, List, [], ◌∷◌, ◌++◌, length, map, slice_set, drop, get_or, Option, Some, None, refl, sym, ap, ◌∙◌, subst, append_assoc, arith}
use Rattle.std.specs.List.{flat_map, AllByRecursion, sum_by}
use Rattle.std.proofs.lemmas.List.{map-set, length-map, length-set, get_or-set_same, get_or-set_other}
use Rattle.std.proofs.lemmas.List.Sums.{sum_by-cons, sum_by-append, sum_by-set}
use Rattle.std.proofs.lemmas.Option.{slice_get_within}
use Rattle.mr_text.specs.declared.reply.Reply.{Reply}
use Rattle.mr_text.specs.declared.reply.Reply.TheVariants.{Items, Stored, Deleted, NotFound, Error, ClientError, ServerError}
use Rattle.mr_history.specs.Places.{At}
use Rattle.mr_history.specs.declared.entry.Author.{Author}
use Rattle.mr_history.specs.declared.entry.Entry.{Entry}
use Rattle.mr_node.specs.Output.{Exchange}
use Rattle.mr_node.specs.Output.Exchange.{Asked}
use Rattle.mr_node.specs.Recency.{CacheView}
use Rattle.mr_node.specs.declared.command.NodeCommand.{NodeCommand}
use Rattle.mr_node.specs.declared.command.NodeCommand.TheVariants.{Get, Set, Delete}
use Rattle.mr_proxy.specs.NodeRequests.{request_with}
use Rattle.mr_proxy.specs.declared.sheet.LegSheet.{LegSheet}
use Rattle.mr_loop.specs.Links.{text_of}
use Rattle.mr_loop.specs.declared.inbox.Inbox.{Inbox}
use Rattle.mr_loop.specs.declared.link.Link.{Link}
use Rattle.mr_loop.specs.declared.node.client.NodeClient.{NodeClient}
use Rattle.mr_loop.specs.declared.node.serving.NodePause.{NodePause}
use Rattle.mr_loop.specs.declared.sent_legs.SentLeg.{SentLeg}
use Rattle.mr_loop.specs.node.NodeView.{NodeView, NodeBytes, NodeEnds, NodeWrote, with_seat, with_node_place, after_node_leaving, fresh_node, fresh_node_client}
use Rattle.mr_loop.specs.node.Serving.{Seat, ServesSome, IsOver, seat}
use Rattle.mr_world.specs.WorldView.{WorldView}
use Rattle.mr_streams.specs.Entries.{stored_by, stored_in}
use Rattle.mr_streams.specs.Steps.{NodeDoes, gone_from, with_node, with_connection, with_entries}
use Rattle.mr_streams.specs.StreamsView.{StreamsView, NodeEnd, Connection, node_does}
use Rattle.mr_streams.proofs.Exchanges.{RequestLaws, SpellsAll, spells_all, first_exchange}
use Rattle.mr_streams.proofs.Lists.{at_map, at_mapped, at_set, at_one, at_left, at_written}
use Rattle.mr_streams.proofs.Mirrors.{MirrorsStreams, ReadsOn, lines_of, seats_of}
use Rattle.mr_streams.proofs.NodeEvents.{takes_done, takes_all, without_node, gone_or_not}
use Rattle.mr_streams.proofs.Owing.{Picks, sets, sets_of_leg, stored_at, stored, Keeps, IsReadable, Carries, AreCarried, Owes, itself, total, within_more}

-- what is asked for legs that travel together stores no more than they set
stored_one : (is : Picks) (by : Author) (command : NodeCommand) (others : List LegSheet) (told : Reply)
    → sum_by (stored_at is) (stored_by by (Asked (request_with command others) told)) ≤ sets is (request_with command others)
stored_one is by (Get key) others told = omega arith
stored_one is by (Set key flags exptime block) others Stored = omega arith
stored_one is by (Set key flags exptime block) others (Items items) = omega arith
stored_one is by (Set key flags exptime block) others Deleted = omega arith
stored_one is by (Set key flags exptime block) others NotFound = omega arith
stored_one is by (Set key flags exptime block) others Error = omega arith
stored_one is by (Set key flags exptime block) others (ClientError cause) = omega arith
stored_one is by (Set key flags exptime block) others (ServerError cause) = omega arith
stored_one is by (Delete key) others told = omega arith

-- what was read are the texts of the first legs, the rest those of the others, and no more is stored than the first set
pub record AreOfLegs (is : Picks) (legs : List SentLeg) (rest : List ℕ) (gains : List Entry) : Type 0 where
  pub answered : List SentLeg
  pub left : List SentLeg
  pub splits : legs ≡ answered ++ left
  pub texts : rest ≡ flat_map text_of left
  pub readable : AllByRecursion IsReadable left
  pub few : sum_by (stored_at is) gains ≤ sum_by (sets_of_leg is) answered

-- exchanges that are read of the texts of legs are those of the first legs
pub exchanges_of_legs : RequestLaws → (is : Picks) (by : Author) (exchanges : List Exchange) (legs : List SentLeg) (read rest : List ℕ) → AllByRecursion IsReadable legs
    → SpellsAll read exchanges → read ++ rest ≡ flat_map text_of legs → AreOfLegs is legs rest (flat_map (stored_by by) exchanges)
exchanges_of_legs laws is by [] legs read rest all spells e =
    record { answered = []; left = legs; splits = refl; texts = ap (λ b. b ++ rest) (sym spells) ∙ e; readable = all; few = omega arith }
exchanges_of_legs laws is by (exchange ∷ exchanges) legs read rest all spells e =
    let cut : spells.0 ++ (spells.1 ++ rest) ≡ flat_map text_of legs = sym (append_assoc spells.0 spells.1 rest) ∙ ap (λ b. b ++ rest) (sym spells.3) ∙ e in
    let one = first_exchange laws IsReadable (λ sent holds. holds) legs exchange spells.0 (spells.1 ++ rest) spells.2 cut all in
    let next = exchanges_of_legs laws is by exchanges one.later spells.1 rest one.all spells.4 one.texts in
    let gained : List Entry = stored_by by exchange in
    let more : List Entry = flat_map (stored_by by) exchanges in
    let few : sum_by (stored_at is) gained ≤ sets_of_leg is one.sent =
    subst (λ x. sum_by (stored_at is) (stored_by by x) ≤ sets_of_leg is one.sent) (sym one.asks) (stored_one is by one.sent.leg.command one.sent.others one.told) in
    record {
      answered = one.sent ∷ next.answered;
      left = next.left;
      splits = one.legs_are ∙ ap (λ l. one.sent ∷ l) next.splits;
      texts = next.texts;
      readable = next.readable;
      few = (
          let stores = sum_by-append (stored_at is) gained more in
          let sets = sum_by-cons (sets_of_leg is) one.sent next.answered in
          let later = next.few in
          omega arith);
    }

-- the clients of a node change, but what stands at this place stood there before
pub keeps_before : (seats : List (List NodeClient)) (n : ℕ) (clients clients' : List NodeClient) (node : ℕ) (place : Option ℕ) (kept : List ℕ) → At seats n clients
    → (node ≡ n → (number : ℕ) → place ≡ Some number → (client : NodeClient) → At clients' number client → At clients number client)
    → Keeps (slice_set seats n clients') node place kept → Keeps seats node place kept
keeps_before seats n clients clients' node place kept there back k =
    elim (at_set seats n clients' k.home) [
      | inl e ↦ record {
        number = k.number;
        clients = clients;
        client = k.client;
        is_open = k.is_open;
        home = subst (λ i. At seats i clients) (sym e.0) there;
        there = back e.0 k.number k.is_open k.client (subst (λ x. At x k.number k.client) e.1 k.there);
        hears = k.hears;
        kept_is = k.kept_is;
      }
      | inr e ↦ record {
        number = k.number;
        clients = k.clients;
        client = k.client;
        is_open = k.is_open;
        home = e.1;
        there = k.there;
        hears = k.hears;
        kept_is = k.kept_is;
      }
    ]

pub stood_but : (clients : List NodeClient) (place other : ℕ) (client' client : NodeClient) → other ≢ place → At (slice_set clients place client') other client → At clients other client
stood_but clients place other client' client ne h = elim (at_set clients place client' h) [ inl e ↦ absurd (ne e.0) | inr e ↦ e.1 ]

-- what is on its way over a connection whose node keeps no more of it than before
carries_still : (is : Picks) (lines : List (List Link)) (seats seats' : List (List NodeClient)) (d : Connection) (most : ℕ)
    → ((kept : List ℕ) → Keeps seats' d.node d.place kept → Keeps seats d.node d.place kept) → Carries is lines seats d most → Carries is lines seats' d most
carries_still is lines seats seats' d most back h =
    record { legs = h.legs; out = h.out; readable = h.readable; few = h.few; texts = λ kept k. h.texts kept (back kept k); here = h.here }

-- a connection whose node's end is gone
carries_nothing : (is : Picks) (lines : List (List Link)) (seats seats' : List (List NodeClient)) (c : Connection) (most : ℕ) → Carries is lines seats c most → Carries is lines seats' (without_node c) most
carries_nothing is lines seats seats' c most h = record {
  legs = h.legs;
  out = h.out;
  readable = h.readable;
  few = h.few;
  texts = λ kept k. absurd (let no : None ≡ Some k.number = k.is_open in cc);
  here = h.here;
}

-- the client of a connection, where it was written
own_client : (seats : List (List NodeClient)) (node place : ℕ) (clients : List NodeClient) (was client' : NodeClient) (spot : Option ℕ) (kept : List ℕ) → At seats node clients → At clients place was
    → spot ≡ Some place → Keeps (slice_set seats node (slice_set clients place client')) node spot kept → (client'.inbox.is_done ≡ false) × (client'.inbox.reader.kept ≡ kept)
own_client seats node place clients was client' spot kept home there is_open k =
    let clients' : List NodeClient = slice_set clients place client' in
    let own : clients' ≡ k.clients = at_one (at_written clients' home) k.home in
    let number : k.number ≡ place = (let both : Some k.number ≡ Some place = sym k.is_open ∙ is_open in cc) in
    let is_there : At clients' place k.client = subst (λ i. At clients' i k.client) number (subst (λ x. At x k.number k.client) (sym own) k.there) in
    let one : client' ≡ k.client = at_one (at_written client' there) is_there in
    (ap (λ (x : NodeClient). x.inbox.is_done) one ∙ k.hears, ap (λ (x : NodeClient). x.inbox.reader.kept) one ∙ k.kept_is)

-- one connection changes, and the client at its place
module _ (is : Picks) (w : WorldView) (s : StreamsView) (number place : ℕ) (c c' : Connection) (end : NodeEnd) (client' : NodeClient) where
  abbrev seats_then : List (List NodeClient)
  seats_then = slice_set (seats_of s.nodes) c.node (slice_set end.loop.clients place client')

  carried_at_node : (owed : List ℕ) (most : ℕ) → MirrorsStreams w s → At s.connections number c → c.place ≡ Some place → At s.nodes c.node end → number < length owed
      → AreCarried is (lines_of s.loops) (seats_of s.nodes) s.connections owed → Carries is (lines_of s.loops) seats_then c' most
      → AreCarried is (lines_of s.loops) seats_then (slice_set s.connections number c') (slice_set owed number most)
  carried_at_node owed most m there is_open home within a new = record {
    as_many = length-set owed number most ∙ a.as_many ∙ sym (length-set s.connections number c');
    each = λ i d k. elim (at_set s.connections number c' k) [
      | inl e ↦ subst (λ x. Carries is (lines_of s.loops) seats_then x (get_or (slice_set owed number most) i 0)) (sym e.1)
          (subst (λ n. Carries is (lines_of s.loops) seats_then c' n)
          (sym (ap (λ n. get_or (slice_set owed number most) n 0) e.0 ∙ get_or-set_same owed number most 0 within)) new)
      | inr e ↦ subst (λ n. Carries is (lines_of s.loops) seats_then d n) (sym (get_or-set_other owed number i most 0 e.0))
          (carries_still is (lines_of s.loops) (seats_of s.nodes) seats_then d (get_or owed i 0)
          (λ kept. keeps_before (seats_of s.nodes) c.node end.loop.clients (slice_set end.loop.clients place client') d.node d.place kept
          (at_mapped (λ (x : NodeEnd). x.loop.clients) home)
          (λ same other is_at client. stood_but end.loop.clients place other client' client
          (λ same_place. e.0 (m.mirrors.one_place i number place d c e.1 there (is_at ∙ ap (λ x. Some x) same_place) is_open same))))
          (a.each i d e.1))
    ];
  }

  -- what is owed over it, and what is stored, is no more than was owed over it
  owes_changed : (first : ℕ) (loop' : NodeView CacheView) (gains : List Entry) (most : ℕ) (o : Owes is first s) → MirrorsStreams w s → At s.connections number c → c.place ≡ Some place
      → At s.nodes c.node end → loop'.clients ≡ slice_set end.loop.clients place client' → Carries is (lines_of s.loops) seats_then c' most
      → most + stored is gains ≤ get_or o.owed number 0 → Owes is first (with_entries gains (with_node c.node end loop' (with_connection number c' s)))
  owes_changed first loop' gains most o m there is_open home clients new few =
      let within : number < length o.owed = subst (λ n. number < n) (sym o.carried.as_many) (slice_get_within s.connections number c there.gets) in
      let end' : NodeEnd = record end { loop = loop' } in
      let seats : seats_of (slice_set s.nodes c.node end') ≡ seats_then =
      map-set (λ (x : NodeEnd). x.loop.clients) s.nodes c.node end' ∙ ap (λ x. slice_set (seats_of s.nodes) c.node x) clients in
      let owed' : List ℕ = slice_set o.owed number most in
      record {
        owed = owed';
        carried = subst (λ x. AreCarried is (lines_of s.loops) x (slice_set s.connections number c') owed') (sym seats)
            (carried_at_node o.owed most m there is_open home within o.carried new);
        within = within_more is first (total o.owed) (total owed') s.history gains o.within (let sum = sum_by-set itself o.owed number most 0 within in omega arith);
      }

-- a client of a connection that hears
keeps_was : (s : StreamsView) (place : ℕ) (c : Connection) (end : NodeEnd) (was : NodeClient) → c.place ≡ Some place → At s.nodes c.node end → At end.loop.clients place was
    → was.inbox.is_done ≡ false → Keeps (seats_of s.nodes) c.node c.place was.inbox.reader.kept
keeps_was s place c end was is_open home was_there hears = record {
  number = place;
  clients = end.loop.clients;
  client = was;
  is_open = is_open;
  home = at_mapped (λ (x : NodeEnd). x.loop.clients) home;
  there = was_there;
  hears = hears;
  kept_is = refl;
}

-- it reads on
reads_there : (w : WorldView) (s : StreamsView) (number place : ℕ) (c : Connection) (end : NodeEnd) (was : NodeClient) → MirrorsStreams w s → At s.connections number c → c.place ≡ Some place
    → At s.nodes c.node end → At end.loop.clients place was → was.inbox.is_done ≡ false → ReadsOn was c
reads_there w s number place c end was m there is_open home was_there hears =
    let f = m.mirrors.flows number c there in
    let o = f.opens place is_open in
    let seats_there : At (seats_of s.nodes) c.node end.loop.clients = at_mapped (λ (x : NodeEnd). x.loop.clients) home in
    let own : end.loop.clients ≡ o.clients = at_one seats_there o.home in
    let one : was ≡ o.client = at_one was_there (subst (λ x. At x place o.client) (sym own) o.there) in
    let deaf : was.inbox.is_done ≡ f.is_deaf = ap (λ (x : NodeClient). x.inbox.is_done) one ∙ o.deaf in
    subst (λ (x : NodeClient). ReadsOn x c) (sym one) (o.reads_on (sym deaf ∙ hears))

-- bytes leave a node
leaves_owing : (is : Picks) (first : ℕ) (w : WorldView) (s : StreamsView) (number place : ℕ) (c : Connection) (end : NodeEnd) (loop' : NodeView CacheView) (piece : List ℕ) → MirrorsStreams w s
    → At s.connections number c → c.place ≡ Some place → At s.nodes c.node end → NodeWrote place (length piece) end.loop loop' → Owes is first s
    → Owes is first (with_entries [] (with_node c.node end loop' (with_connection number (record c { back = c.back ++ piece }) s)))
leaves_owing is first w s number place c end loop' piece m there is_open home l o =
    let c' : Connection = record c { back = c.back ++ piece } in
    let client' : NodeClient = record l.was { out = drop (length piece) l.was.out } in
    let was_there : At end.loop.clients place l.was = record { gets = l.there } in
    let seats_there : At (seats_of s.nodes) c.node end.loop.clients = at_mapped (λ (x : NodeEnd). x.loop.clients) home in
    let most : ℕ = get_or o.owed number 0 in
    let h = o.carried.each number c there in
    let new : Carries is (lines_of s.loops) (slice_set (seats_of s.nodes) c.node (slice_set end.loop.clients place client')) c' most = record {
      legs = h.legs;
      out = h.out;
      readable = h.readable;
      few = h.few;
      texts = λ kept k. (let own = own_client (seats_of s.nodes) c.node place end.loop.clients l.was client' c.place kept seats_there was_there is_open k in
          subst (λ x. x ++ (c.forth ++ h.out) ≡ flat_map text_of h.legs) own.1
          (h.texts l.was.inbox.reader.kept (keeps_was s place c end l.was is_open home was_there own.0)));
      here = h.here;
    } in
    owes_changed is w s number place c c' end client' first loop' [] most o m there is_open home (ap (λ (x : NodeView CacheView). x.clients) l.becomes) new (omega arith)

-- a node serves what came over a connection, of which this is still on its way then
module _ (laws : RequestLaws) (is : Picks) (first : ℕ) (w : WorldView) (s : StreamsView) (number place now : ℕ) (c : Connection) (forth' : List ℕ) (end : NodeEnd) (was : NodeClient) (fed : Inbox) (after : Seat CacheView) (by : Author) where
  abbrev was_seat : Seat CacheView
  was_seat = seat end.loop.cache (record was { inbox = fed }) end.loop.counts

  abbrev seats_after : List (List NodeClient)
  seats_after = slice_set (seats_of s.nodes) c.node (slice_set end.loop.clients place after.client)

  abbrev now_forth : Connection
  now_forth = record c { forth = forth' }

  -- where nothing more is read nothing is stored
  over_owing : MirrorsStreams w s → At s.connections number c → c.place ≡ Some place → At s.nodes c.node end → At end.loop.clients place was → IsOver was_seat after → Owes is first s
      → Owes is first (with_entries [] (with_node c.node end (with_seat place after end.loop) (with_connection number now_forth s)))
  over_owing m there is_open home was_there over o =
      let seats_there : At (seats_of s.nodes) c.node end.loop.clients = at_mapped (λ (x : NodeEnd). x.loop.clients) home in
      let most : ℕ = get_or o.owed number 0 in
      let h = o.carried.each number c there in
      let deaf : after.client.inbox.is_done ≡ true = ap (λ (i : Inbox). i.is_done) over.same_inbox ∙ over.over in
      let new : Carries is (lines_of s.loops) seats_after now_forth most = record {
        legs = h.legs;
        out = h.out;
        readable = h.readable;
        few = h.few;
        texts = λ kept k. (let own = own_client (seats_of s.nodes) c.node place end.loop.clients was after.client c.place kept seats_there was_there is_open k in
            absurd (let no : true ≡ false = sym deaf ∙ own.0 in cc));
        here = h.here;
      } in
      owes_changed is w s number place c now_forth end after.client first (with_seat place after end.loop) [] most o m there is_open home refl new (omega arith)

  -- what is stored are sets of the legs whose texts were read
  some_owing : MirrorsStreams w s → At s.connections number c → c.place ≡ Some place → At s.nodes c.node end → At end.loop.clients place was → fed.is_done ≡ was.inbox.is_done
      → ((out : List ℕ) → ReadsOn was c → was.inbox.reader.kept ++ (c.forth ++ out) ≡ fed.reader.kept ++ (forth' ++ out))
      → (some : ServesSome node_does now end.loop.most_unread was_seat after) → Owes is first s
      → Owes is first (with_entries (flat_map (stored_by by) some.exchanges) (with_node c.node end (with_seat place after end.loop) (with_connection number now_forth s)))
  some_owing m there is_open home was_there same_done texts some o =
      let seats_there : At (seats_of s.nodes) c.node end.loop.clients = at_mapped (λ (x : NodeEnd). x.loop.clients) home in
      let h = o.carried.each number c there in
      let hears : was.inbox.is_done ≡ false = sym same_done ∙ some.is_open in
      let later : List ℕ = forth' ++ h.out in
      let cut : some.bytes ++ (some.rest ++ later) ≡ flat_map text_of h.legs =
      sym (append_assoc some.bytes some.rest later) ∙ ap (λ b. b ++ later) (sym some.splits) ∙ sym (texts h.out (reads_there w s number place c end was m there is_open home was_there hears))
      ∙ h.texts was.inbox.reader.kept (keeps_was s place c end was is_open home was_there hears) in
      let e = exchanges_of_legs laws is by some.exchanges h.legs some.bytes (some.rest ++ later) h.readable (spells_all some.bytes some.exchanges some.reads) cut in
      let gains : List Entry = flat_map (stored_by by) some.exchanges in
      let most : ℕ = sum_by (sets_of_leg is) e.left in
      let all : sum_by (sets_of_leg is) h.legs ≡ sum_by (sets_of_leg is) e.answered + most =
      ap (λ l. sum_by (sets_of_leg is) l) e.splits ∙ sum_by-append (sets_of_leg is) e.answered e.left in
      let new : Carries is (lines_of s.loops) seats_after now_forth most = record {
        legs = e.left;
        out = h.out;
        readable = e.readable;
        few = omega arith;
        texts = λ kept k. (let own = own_client (seats_of s.nodes) c.node place end.loop.clients was after.client c.place kept seats_there was_there is_open k in
            elim some.leaves [
              | inl stays ↦ ap (λ x. x ++ later) (sym own.1 ∙ stays.1.stands) ∙ e.texts
              | inr over ↦ absurd (let no : true ≡ false = sym over.0 ∙ own.0 in cc)
            ]);
        here = h.here;
      } in
      owes_changed is w s number place c now_forth end after.client first (with_seat place after end.loop) gains most o m there is_open home refl new
      (let few = e.few in let owed = h.few in omega arith)

  served_owing : MirrorsStreams w s → At s.connections number c → c.place ≡ Some place → At s.nodes c.node end → At end.loop.clients place was → fed.is_done ≡ was.inbox.is_done
      → ((out : List ℕ) → ReadsOn was c → was.inbox.reader.kept ++ (c.forth ++ out) ≡ fed.reader.kept ++ (forth' ++ out))
      → (serves : ServesSome node_does now end.loop.most_unread was_seat after ⊎ IsOver was_seat after) → Owes is first s
      → Owes is first (with_entries (stored_in by serves) (with_node c.node end (with_seat place after end.loop) (with_connection number now_forth s)))
  served_owing m there is_open home was_there same_done texts (inl some) o = some_owing m there is_open home was_there same_done texts some o
  served_owing m there is_open home was_there same_done texts (inr over) o = over_owing m there is_open home was_there over o

-- bytes reach a node
reaches_owing : RequestLaws → (is : Picks) (first : ℕ) (w : WorldView) (s : StreamsView) (number place now : ℕ) (c : Connection) (end : NodeEnd) (loop' : NodeView CacheView) (pause : NodePause) (by : Author) (piece rest : List ℕ)
    → MirrorsStreams w s → At s.connections number c → c.place ≡ Some place → At s.nodes c.node end → c.forth ≡ piece ++ rest → (step : NodeBytes node_does place now piece end.loop pause loop') → Owes is first s
    → Owes is first (with_entries (stored_in by step.serves.serves) (with_node c.node end loop' (with_connection number (record c { forth = rest }) s)))
reaches_owing laws is first w s number place now c end loop' pause by piece rest m there is_open home splits l o =
    subst (λ x. Owes is first (with_entries (stored_in by l.serves.serves) (with_node c.node end x (with_connection number (record c { forth = rest }) s)))) (sym l.becomes)
    (served_owing laws is first w s number place now c rest end l.was l.fed l.after by m there is_open home (record { gets = l.there })
    (takes_done piece l.was.inbox l.fed l.takes)
    (λ out r. ap (λ x. l.was.inbox.reader.kept ++ x) (ap (λ x. x ++ out) splits ∙ append_assoc piece rest out)
    ∙ sym (append_assoc l.was.inbox.reader.kept piece (rest ++ out)) ∙ ap (λ x. x ++ (rest ++ out)) (sym (takes_all piece rest l.was l.fed c l.takes splits r).0))
    l.serves.serves o)

-- a node reads that a connection ends
ends_owing : RequestLaws → (is : Picks) (first : ℕ) (w : WorldView) (s : StreamsView) (number place now : ℕ) (c : Connection) (end : NodeEnd) (loop' : NodeView CacheView) (pause : NodePause) (by : Author)
    → MirrorsStreams w s → At s.connections number c → c.place ≡ Some place → At s.nodes c.node end → (step : NodeEnds node_does place now end.loop pause loop') → Owes is first s
    → Owes is first (with_entries (stored_in by step.serves.serves) (with_node c.node end loop' (with_connection number c s)))
ends_owing laws is first w s number place now c end loop' pause by m there is_open home l o =
    subst (λ x. Owes is first (with_entries (stored_in by l.serves.serves) (with_node c.node end x (with_connection number c s)))) (sym l.becomes)
    (served_owing laws is first w s number place now c c.forth end l.was l.ended l.after by m there is_open home (record { gets = l.there })
    (ap (λ (i : Inbox). i.is_done) l.ends.becomes) (λ out r. ap (λ x. x ++ (c.forth ++ out)) (sym l.ends.reader.stands)) l.serves.serves o)

-- the node's end of a connection goes
goes_owing : (is : Picks) (first : ℕ) (w : WorldView) (s : StreamsView) (number place : ℕ) (c : Connection) (end : NodeEnd) → MirrorsStreams w s → At s.connections number c → c.place ≡ Some place
    → At s.nodes c.node end → Owes is first s
    → Owes is first (with_entries [] (with_node c.node end (after_node_leaving place end.loop) (with_connection number (without_node c) s)))
goes_owing is first w s number place c end m there is_open home o =
    let most : ℕ = get_or o.owed number 0 in
    let seats' : List (List NodeClient) = slice_set (seats_of s.nodes) c.node (slice_set end.loop.clients place fresh_node_client) in
    owes_changed is w s number place c (without_node c) end fresh_node_client first (after_node_leaving place end.loop) [] most o m there is_open home refl
    (carries_nothing is (lines_of s.loops) (seats_of s.nodes) seats' c most (o.carried.each number c there)) (omega arith)

-- whatever happens at the node's end of a connection: what is owed, and what was stored, is no more than was issued
pub owes_node : RequestLaws → (is : Picks) (first : ℕ) (w : WorldView) (s : StreamsView) (number place : ℕ) (c c' : Connection) (end : NodeEnd) (loop' : NodeView CacheView) (gains : List Entry)
    → MirrorsStreams w s → At s.connections number c → c.place ≡ Some place → At s.nodes c.node end → NodeDoes c place end.loop c' loop' gains → Owes is first s
    → Owes is first (with_entries gains (with_node c.node end loop' (with_connection number c' s)))
owes_node laws is first w s number place c c' end loop' gains m there is_open home (NodeDoes.reaches {pause = pause} by now piece rest splits step) o =
    reaches_owing laws is first w s number place now c end loop' pause by piece rest m there is_open home splits step o
owes_node laws is first w s number place c c' end loop' gains m there is_open home (NodeDoes.ends {pause = pause} by now is_left all_came step) o =
    ends_owing laws is first w s number place now c end loop' pause by m there is_open home step o
owes_node laws is first w s number place c c' end loop' gains m there is_open home (NodeDoes.leaves piece rest splits step) o =
    leaves_owing is first w s number place c end loop' piece m there is_open home step o
owes_node laws is first w s number place c c' end loop' gains m there is_open home NodeDoes.goes o =
    goes_owing is first w s number place c end m there is_open home o

-- a node has one more place
pub owes_node_place : (is : Picks) (first : ℕ) (w : WorldView) (s : StreamsView) (number : ℕ) (end : NodeEnd) → MirrorsStreams w s → At s.nodes number end → Owes is first s
    → Owes is first (with_node number end (with_node_place end.loop) s)
owes_node_place is first w s number end m home o =
    let clients' : List NodeClient = end.loop.clients ++ fresh_node_client ∷ [] in
    let end' : NodeEnd = record end { loop = with_node_place end.loop } in
    let seats_there : At (seats_of s.nodes) number end.loop.clients = at_mapped (λ (x : NodeEnd). x.loop.clients) home in
    let seats' : List (List NodeClient) = slice_set (seats_of s.nodes) number clients' in
    let seats : seats_of (slice_set s.nodes number end') ≡ seats' = map-set (λ (x : NodeEnd). x.loop.clients) s.nodes number end' in
    let carried : AreCarried is (lines_of s.loops) seats' s.connections o.owed = record {
      as_many = o.carried.as_many;
      each = λ i d k. carries_still is (lines_of s.loops) (seats_of s.nodes) seats' d (get_or o.owed i 0)
          (λ kept. keeps_before (seats_of s.nodes) number end.loop.clients clients' d.node d.place kept seats_there
          (λ same place is_at client there. (
          let f = (m.mirrors.flows i d k).opens place is_at in
          let own : end.loop.clients ≡ f.clients = at_one seats_there (subst (λ n. At (seats_of s.nodes) n f.clients) same f.home) in
          let stood : At end.loop.clients place f.client = subst (λ x. At x place f.client) (sym own) f.there in
          let one : f.client ≡ client = at_one (at_left (fresh_node_client ∷ []) stood) there in
          subst (λ x. At end.loop.clients place x) one stood)))
          (o.carried.each i d k);
    } in
    record { owed = o.owed; carried = subst (λ x. AreCarried is (lines_of s.loops) x s.connections o.owed) (sym seats) carried; within = o.within }

-- a node restarts
pub owes_node_restart : (is : Picks) (first : ℕ) (s : StreamsView) (number : ℕ) (end : NodeEnd) → At s.nodes number end → Owes is first s
    → Owes is first (record (with_node number end (fresh_node (record end.loop.cache { items = [] }) end.loop.most_unread) s) { connections = map (gone_from number) s.connections })
owes_node_restart is first s number end home o =
    let loop' : NodeView CacheView = fresh_node (record end.loop.cache { items = [] }) end.loop.most_unread in
    let end' : NodeEnd = record end { loop = loop' } in
    let seats_there : At (seats_of s.nodes) number end.loop.clients = at_mapped (λ (x : NodeEnd). x.loop.clients) home in
    let seats' : List (List NodeClient) = slice_set (seats_of s.nodes) number [] in
    let seats : seats_of (slice_set s.nodes number end') ≡ seats' = map-set (λ (x : NodeEnd). x.loop.clients) s.nodes number end' in
    let connections' : List Connection = map (gone_from number) s.connections in
    let carried : AreCarried is (lines_of s.loops) seats' connections' o.owed = record {
      as_many = o.carried.as_many ∙ sym (length-map s.connections (gone_from number));
      each = λ i d k. (let old = at_map (gone_from number) s.connections k in
          let most : ℕ = get_or o.owed i 0 in
          let h = o.carried.each i old.0 old.1 in
          subst (λ x. Carries is (lines_of s.loops) seats' x most) (sym old.2)
          (gone_or_not (λ x. Carries is (lines_of s.loops) seats' x most) number old.0
          (λ _. carries_nothing is (lines_of s.loops) (seats_of s.nodes) seats' old.0 most h)
          (λ other. carries_still is (lines_of s.loops) (seats_of s.nodes) seats' old.0 most
          (λ kept. keeps_before (seats_of s.nodes) number end.loop.clients [] old.0.node old.0.place kept seats_there (λ same. absurd (other same))) h)));
    } in
    record { owed = o.owed; carried = subst (λ x. AreCarried is (lines_of s.loops) x connections' o.owed) (sym seats) carried; within = o.within }
