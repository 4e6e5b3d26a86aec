-- What a node's loop has served of what a client sent, one thing after the other.
use Rattle.std.proofs.Common.{◌≡◌, ◌≢◌, ◌∙◌, ℕ, ◌≤◌, ◌⊎◌, inl, inr, List, [], ◌∷◌, ◌++◌, length, Bool, true, false, Option, Some, None, Result, Ok, Err, refl, sym, ap, subst, append_assoc}
use Rattle.std.specs.Prelude.{not, is_err, OnOk}
use Rattle.std.proofs.lemmas.List.{append-nil}
use Rattle.std.proofs.lemmas.Grind.{flat_map-append}
use Rattle.mr_text.specs.Requests.{SpellsRequest, RefusesRequest}
use Rattle.mr_text.specs.Stream.{BeginsWith, Becomes, FaultAt, skips_line}
use Rattle.mr_text.specs.TextError.{number_of_refusal}
use Rattle.mr_text.specs.declared.error.TextError.{TextError}
use Rattle.mr_text.specs.declared.error.TextError.TheVariants.{LineTooLong, BadKey, BadNumber, WrongWords, DataTooLong, BadDataEnd, UnknownCommand, Truncated, Closed, OutOfMemory}
use Rattle.mr_text.specs.declared.reply.Reply.{Reply}
use Rattle.mr_text.specs.declared.request.Request.{Request}
use Rattle.mr_text.specs.declared.request.Request.TheVariants.{Quit}
use Rattle.mr_node.specs.declared.ended.Ended.{Ended}
use Rattle.mr_node.specs.declared.ended.Ended.TheVariants as how
use Rattle.mr_node.specs.Output.{Exchange, IsServed, ReadsExchanges, SpellsExchange, output_of, reply_to_refusal, text_of_answer, text_of_exchange}
use Rattle.mr_node.specs.Output.Exchange.{Asked, Unknown}
use Rattle.mr_node.proofs.ServiceLemmas.{served_unless_quit, served_is_not_quit}
use Rattle.mr_loop.specs.declared.inbox.Fetched.TheVariants.{Came, NoMemory, Done}
use Rattle.mr_loop.specs.declared.inbox.Inbox.{Inbox}
use Rattle.mr_loop.specs.declared.inbox.Input.{Input}
use Rattle.mr_loop.specs.declared.inbox.Input.TheVariants as input
use Rattle.mr_loop.specs.declared.node.client.NodeClient.{NodeClient}
use Rattle.mr_loop.specs.declared.node.counts.ServedCounts.{ServedCounts}
use Rattle.mr_loop.specs.declared.node.serving.NodePause.TheVariants.{NeedsMemory, IsDone}
use Rattle.mr_loop.specs.Inboxes.{FetchIs, ReadsOne}
use Rattle.mr_loop.specs.node.Cache.{Does}
use Rattle.mr_loop.specs.node.Counts.{all_counted, exchange_counted}
use Rattle.mr_loop.specs.node.Serving.{AsksOnce, AsksInOrder, AreBegunWithin, EndsThere, LeavesSo, Seat, ServesSome, ServesOn, IsOver, IsReady, IsSound, seat, to_tell}
use Rattle.mr_loop.specs.steps.Serving.{ServesRequest, ServesRefusal, ServesInput}

-- a client that was told what was due, and has no more unread than the bound
pub is_ready : {E : Type 0} (most unread : ℕ) (client : NodeClient) (result : Result (Unit {0}) E) → false ≡ is_err result
    → OnOk result (client.due ≡ None) → unread ≡ length client.out → unread ≤ most → IsReady most client
is_ready most unread client (Ok x) told none count few = (none, rw (← count) few)
is_ready most unread client (Err e) told none count few = cc

-- the output of one more exchange
pub output_more : (exchanges : List Exchange) (exchange : Exchange)
    → output_of (exchanges ++ exchange ∷ []) ≡ output_of exchanges ++ text_of_exchange exchange
output_more exchanges exchange =
    flat_map-append text_of_exchange exchanges (exchange ∷ []) ∙ ap (λ (t : List ℕ). output_of exchanges ++ t) (append-nil (text_of_exchange exchange))

-- one more exchange is counted last
counted_more : (exchanges : List Exchange) (exchange : Exchange) (counts : ServedCounts)
    → all_counted (exchanges ++ exchange ∷ []) counts ≡ exchange_counted exchange (all_counted exchanges counts)
counted_more [] exchange counts = refl
counted_more (first ∷ later) exchange counts = counted_more later exchange (exchange_counted first counts)

-- what a client is to be told where nothing is due
pub told_ready : (client : NodeClient) → client.due ≡ None → to_tell client ≡ client.out
told_ready client none = ap (λ (a : Option Reply). client.out ++ text_of_answer a) none ∙ append-nil client.out

-- a request that comes was read
asked_next : (old new : Inbox) (request : Request) → old.held ≡ None → FetchIs old (Came (input.Asks request)) new
    → ReadsOne old (Ok (Some request)) false new × (request ≢ Quit)
asked_next old new request none (inl taken) = (let some = taken.held in let both : None ≡ Some (input.Asks request) = sym none ∙ some in cc)
asked_next old new request none (inr read) = read

-- a text that is refused was read
refused_next : (old new : Inbox) (refusal : TextError) → old.held ≡ None → FetchIs old (Came (input.Refused refusal)) new
    → ReadsOne old (Err refusal) (not (skips_line refusal)) new × (refusal ≢ Closed) × (refusal ≢ OutOfMemory)
refused_next old new refusal none (inl taken) = (let some = taken.held in let both : None ≡ Some (input.Refused refusal) = sym none ∙ some in cc)
refused_next old new refusal none (inr read) = read

-- an inbox after one reading
sound_read : (old new : Inbox) (rest : List ℕ) (closed : Bool) → IsSound old → new.held ≡ None → new.has_ended ≡ old.has_ended
    → Becomes new.reader rest old.reader.ended closed → (new.is_done ≡ false → closed ≡ false) → IsSound new
sound_read old new rest closed sound none same becomes is_open = record {
  none_held = none;
  is_open = λ e. becomes.is_closed ∙ is_open e;
  one_end = becomes.is_ended ∙ sound.one_end ∙ sym same;
}

module _ {C : Type 0} (does : Does C) (reading most : ℕ) (old : Seat C) where
  serves_none : old.client.inbox.is_done ≡ false → IsSound old.client.inbox → ServesSome does reading most old old
  serves_none is_open sound = record {
    exchanges = [];
    bytes = [];
    rest = old.client.inbox.reader.kept;
    answer = None;
    is_open = is_open;
    splits = refl;
    reads = ReadsExchanges.begins;
    asks = AsksInOrder.begins;
    within = AreBegunWithin.begins;
    tells = sym (append-nil (to_tell old.client));
    counted = refl;
    leaves = inl (is_open, record { stands = refl; is_ended = refl; is_closed = sound.is_open is_open }, refl);
    same_end = refl;
  }

  -- the same was served, and so much is left
  moved : (now new : Seat C) (some : ServesSome does reading most old now) → new.cache ≡ now.cache → to_tell new.client ≡ to_tell now.client
      → new.counts ≡ now.counts → LeavesSo old.client.inbox new.client.inbox some.rest some.answer
      → new.client.inbox.has_ended ≡ now.client.inbox.has_ended → ServesSome does reading most old new
  moved now new some cache tells counts leaves same_end = record {
    exchanges = some.exchanges;
    bytes = some.bytes;
    rest = some.rest;
    answer = some.answer;
    is_open = some.is_open;
    splits = some.splits;
    reads = some.reads;
    asks = subst (λ (c : C). AsksInOrder does reading old.cache some.exchanges c) (sym cache) some.asks;
    within = some.within;
    tells = tells ∙ some.tells;
    counted = counts ∙ some.counted;
    leaves = leaves;
    same_end = same_end ∙ some.same_end;
  }

  -- what was served so far
  pub record UnderWay (now : Seat C) : Type 0 where
    pub sound : IsSound now.client.inbox
    pub serves : ServesSome does reading most old now ⊎ IsOver old now

  pub begins_way : IsSound old.client.inbox → UnderWay old
  begins_way sound = record { sound = sound; serves = by_done old.client.inbox.is_done refl }
    where
      by_done : (b : Bool) → old.client.inbox.is_done ≡ b → ServesSome does reading most old old ⊎ IsOver old old
      by_done true over = inr (record { over = over; same_cache = refl; same_inbox = refl; same_told = refl; same_counts = refl })
      by_done false is_open = inl (serves_none is_open sound)

  same_serves : (now : Seat C) (client : NodeClient) → to_tell client ≡ to_tell now.client → client.inbox ≡ now.client.inbox
      → ServesSome does reading most old now ⊎ IsOver old now
      → ServesSome does reading most old (seat now.cache client now.counts) ⊎ IsOver old (seat now.cache client now.counts)
  same_serves now client tells same (inl some) =
      inl (moved now (seat now.cache client now.counts) some refl tells refl
      (subst (λ (i : Inbox). LeavesSo old.client.inbox i some.rest some.answer) (sym same) some.leaves) (ap (λ (i : Inbox). i.has_ended) same))
  same_serves now client tells same (inr over) = inr (record {
    over = over.over;
    same_cache = over.same_cache;
    same_inbox = same ∙ over.same_inbox;
    same_told = tells ∙ over.same_told;
    same_counts = over.same_counts;
  })

  -- what is due is told, or stays due
  pub said : (now : Seat C) (client : NodeClient) → UnderWay now → to_tell client ≡ to_tell now.client → client.inbox ≡ now.client.inbox
      → UnderWay (seat now.cache client now.counts)
  said now client way tells same = record {
    sound = subst IsSound (sym same) way.sound;
    serves = same_serves now client tells same way.serves;
  }

  -- what was served where the client is read on
  record IsStillOpen (now : Seat C) : Type 0 where
    pub some : ServesSome does reading most old now
    pub becomes : Becomes now.client.inbox.reader some.rest old.client.inbox.reader.ended false
    pub none : some.answer ≡ None

  open_left : (now : Seat C) (some : ServesSome does reading most old now) → now.client.inbox.is_done ≡ false
      → LeavesSo old.client.inbox now.client.inbox some.rest some.answer → IsStillOpen now
  open_left now some is_open (inl left) = record { some = some; becomes = left.1; none = left.2 }
  open_left now some is_open (inr left) = (let shut = left.0 in let both : true ≡ false = sym shut ∙ is_open in cc)

  still_open : (now : Seat C) → ServesSome does reading most old now ⊎ IsOver old now → now.client.inbox.is_done ≡ false → IsStillOpen now
  still_open now (inl some) is_open = open_left now some is_open some.leaves
  still_open now (inr over) is_open =
      (let shut : now.client.inbox.is_done ≡ true = ap (λ (i : Inbox). i.is_done) over.same_inbox ∙ over.over in
      let both : true ≡ false = sym shut ∙ is_open in cc)

  told_so_far : (now : Seat C) (still : IsStillOpen now) → to_tell now.client ≡ to_tell old.client ++ output_of still.some.exchanges
  told_so_far now still =
      still.some.tells ∙ ap (λ (t : List ℕ). to_tell old.client ++ t)
      (ap (λ (a : Option Reply). output_of still.some.exchanges ++ text_of_answer a) still.none ∙ append-nil (output_of still.some.exchanges))

  -- one more exchange
  more : (now new : Seat C) (still : IsStillOpen now) (spelling after : List ℕ) (exchange : Exchange)
      → now.client.inbox.reader.kept ≡ spelling ++ after → SpellsExchange spelling exchange → AsksOnce does reading now.cache exchange new.cache
      → IsReady most now.client → to_tell new.client ≡ to_tell now.client ++ text_of_exchange exchange
      → new.counts ≡ exchange_counted exchange now.counts → new.client.inbox.is_done ≡ false
      → Becomes new.client.inbox.reader after now.client.inbox.reader.ended false
      → new.client.inbox.has_ended ≡ now.client.inbox.has_ended → ServesSome does reading most old new
  more now new still spelling after exchange splits spells asks ready tells counted is_open becomes same_end =
      let so : ServesSome does reading most old now = still.some in
      let here : so.rest ≡ spelling ++ after = sym still.becomes.stands ∙ splits in
      let told : to_tell now.client ≡ to_tell old.client ++ output_of so.exchanges = told_so_far now still in
      record {
        exchanges = so.exchanges ++ exchange ∷ [];
        bytes = so.bytes ++ spelling;
        rest = after;
        answer = None;
        is_open = so.is_open;
        splits = so.splits ∙ ap (λ (r : List ℕ). so.bytes ++ r) here ∙ sym (append_assoc so.bytes spelling after);
        reads = ReadsExchanges.reads spelling exchange so.reads spells;
        asks = AsksInOrder.asks exchange so.asks asks;
        within = AreBegunWithin.begins_next exchange so.within
            (subst (λ (t : List ℕ). length t ≤ most) (sym (told_ready now.client ready.0) ∙ told) ready.1);
        tells = tells ∙ ap (λ (t : List ℕ). t ++ text_of_exchange exchange) told
            ∙ append_assoc (to_tell old.client) (output_of so.exchanges) (text_of_exchange exchange)
            ∙ ap (λ (t : List ℕ). to_tell old.client ++ t)
            (sym (output_more so.exchanges exchange) ∙ sym (append-nil (output_of (so.exchanges ++ exchange ∷ []))));
        counted = counted ∙ ap (exchange_counted exchange) so.counted ∙ sym (counted_more so.exchanges exchange old.counts);
        leaves = inl (is_open, subst (λ (b : Bool). Becomes new.client.inbox.reader after b false) still.becomes.is_ended becomes, refl);
        same_end = same_end ∙ so.same_end;
      }

  -- the client ends
  ends : (now new : Seat C) (still : IsStillOpen now) (ended : Ended) (answer : Option Reply)
      → EndsThere now.client.inbox.has_ended now.client.inbox.reader.kept ended answer → new.cache ≡ now.cache
      → to_tell new.client ≡ to_tell now.client ++ text_of_answer answer → new.counts ≡ now.counts → new.client.inbox.is_done ≡ true
      → new.client.inbox.has_ended ≡ now.client.inbox.has_ended → ServesSome does reading most old new
  ends now new still ended answer there cache tells counts done same_end =
      let so : ServesSome does reading most old now = still.some in
      let told : to_tell now.client ≡ to_tell old.client ++ output_of so.exchanges = told_so_far now still in
      record {
        exchanges = so.exchanges;
        bytes = so.bytes;
        rest = so.rest;
        answer = answer;
        is_open = so.is_open;
        splits = so.splits;
        reads = so.reads;
        asks = subst (λ (c : C). AsksInOrder does reading old.cache so.exchanges c) (sym cache) so.asks;
        within = so.within;
        tells = tells ∙ ap (λ (t : List ℕ). t ++ text_of_answer answer) told
            ∙ append_assoc (to_tell old.client) (output_of so.exchanges) (text_of_answer answer);
        counted = counts ∙ so.counted;
        leaves = inr (
          done,
          (
            ended,
            subst (λ (b : Bool). EndsThere b so.rest ended answer) so.same_end
                (subst (λ (r : List ℕ). EndsThere now.client.inbox.has_ended r ended answer) still.becomes.stands there),
          ),
        );
        same_end = same_end ∙ so.same_end;
      }

  -- a request was served
  went_asked : (now : Seat C) (inbox : Inbox) (request : Request) (new : Seat C) → UnderWay now → IsReady most now.client
      → ReadsOne now.client.inbox (Ok (Some request)) false inbox → request ≢ Quit
      → ServesRequest does reading request (seat now.cache (record now.client { inbox = inbox }) now.counts) new → UnderWay new
  went_asked now inbox request new way ready read other served =
      let is : IsServed request = served_unless_quit request other in
      let becomes : Becomes inbox.reader read.next.1 now.client.inbox.reader.ended false =
      subst (Becomes inbox.reader read.next.1 now.client.inbox.reader.ended) (served_is_not_quit request is) read.next.3 in
      let is_open : new.client.inbox.is_done ≡ false = ap (λ (i : Inbox). i.is_done) served.same_inbox ∙ read.done in
      record {
        sound = subst IsSound (sym served.same_inbox)
            (sound_read now.client.inbox inbox read.next.1 false way.sound read.same_held read.same_end becomes (λ e. refl));
        serves = inl (more now new (still_open now way.serves read.goes_on) read.next.2.spelling read.next.1 (Asked request served.told)
            read.next.2.splits (read.next.2.spells, is) served.asks ready served.tells served.counted is_open
            (subst (λ (i : Inbox). Becomes i.reader read.next.1 now.client.inbox.reader.ended false) (sym served.same_inbox) becomes)
            (ap (λ (i : Inbox). i.has_ended) served.same_inbox ∙ read.same_end));
      }

  -- a refusal ended the client
  went_shut : (now : Seat C) (inbox : Inbox) (refusal : TextError) (new : Seat C) → UnderWay now
      → ReadsOne now.client.inbox (Err refusal) true inbox → FaultAt SpellsRequest RefusesRequest refusal now.client.inbox.reader.kept
      → Becomes inbox.reader now.client.inbox.reader.kept now.client.inbox.reader.ended true
      → skips_line refusal ≡ false → (refusal ≡ Truncated → now.client.inbox.has_ended ≡ true)
      → ServesRefusal refusal (seat now.cache (record now.client { inbox = inbox }) now.counts) new → UnderWay new
  went_shut now inbox refusal new way read fault becomes closes cut served = record {
    sound = subst IsSound (sym served.same_inbox)
        (sound_read now.client.inbox inbox now.client.inbox.reader.kept true way.sound read.same_held read.same_end becomes
        (λ e. (let both : true ≡ false = sym read.done ∙ e in cc)));
    serves = inl (ends now new (still_open now way.serves read.goes_on) (how.Refused (number_of_refusal refusal)) (reply_to_refusal refusal)
        (refusal, fault, closes, cut, refl, refl) served.same_cache served.tells served.same_counts
        (ap (λ (i : Inbox). i.is_done) served.same_inbox ∙ read.done) (ap (λ (i : Inbox). i.has_ended) served.same_inbox ∙ read.same_end));
  }

  -- a text that is refused was answered
  went_refused : (now : Seat C) (inbox : Inbox) (refusal : TextError) (new : Seat C) → UnderWay now → IsReady most now.client
      → ReadsOne now.client.inbox (Err refusal) (not (skips_line refusal)) inbox → refusal ≢ Closed → refusal ≢ OutOfMemory
      → ServesRefusal refusal (seat now.cache (record now.client { inbox = inbox }) now.counts) new → UnderWay new
  went_refused now inbox LineTooLong new way ready read c m served = went_shut now inbox LineTooLong new way read read.next.1 read.next.2 refl (λ e. cc) served
  went_refused now inbox BadKey new way ready read c m served = went_shut now inbox BadKey new way read read.next.1 read.next.2 refl (λ e. cc) served
  went_refused now inbox BadNumber new way ready read c m served = went_shut now inbox BadNumber new way read read.next.1 read.next.2 refl (λ e. cc) served
  went_refused now inbox WrongWords new way ready read c m served = went_shut now inbox WrongWords new way read read.next.1 read.next.2 refl (λ e. cc) served
  went_refused now inbox DataTooLong new way ready read c m served = went_shut now inbox DataTooLong new way read read.next.1 read.next.2 refl (λ e. cc) served
  went_refused now inbox BadDataEnd new way ready read c m served = went_shut now inbox BadDataEnd new way read read.next.1 read.next.2 refl (λ e. cc) served
  went_refused now inbox (UnknownCommand true) new way ready read c m served =
      went_shut now inbox (UnknownCommand true) new way read read.next.1 read.next.2 refl (λ e. cc) served
  went_refused now inbox (UnknownCommand false) new way ready read c m served = record {
    sound = subst IsSound (sym served.same_inbox)
        (sound_read now.client.inbox inbox read.next.1 false way.sound read.same_held read.same_end read.next.3 (λ e. refl));
    serves = inl (more now new (still_open now way.serves read.goes_on) read.next.2.line read.next.1 Unknown
        read.next.2.splits (read.next.2.words, read.next.2.is_line, read.next.2.unknown) served.same_cache ready served.tells served.same_counts
        (ap (λ (i : Inbox). i.is_done) served.same_inbox ∙ read.done)
        (subst (λ (i : Inbox). Becomes i.reader read.next.1 now.client.inbox.reader.ended false) (sym served.same_inbox) read.next.3)
        (ap (λ (i : Inbox). i.has_ended) served.same_inbox ∙ read.same_end));
  }
  went_refused now inbox Truncated new way ready read c m served =
      went_shut now inbox Truncated new way read read.next.2 read.next.3 refl (λ e. sym way.sound.one_end ∙ read.next.1) served
  went_refused now inbox Closed new way ready read c m served = absurd (c refl)
  went_refused now inbox OutOfMemory new way ready read c m served = absurd (m refl)

  -- one thing that came was served
  pub went : (now : Seat C) (inbox : Inbox) (it : Input) (new : Seat C) → UnderWay now → IsReady most now.client
      → FetchIs now.client.inbox (Came it) inbox
      → ServesInput does reading it (seat now.cache (record now.client { inbox = inbox }) now.counts) new → UnderWay new
  went now inbox (input.Asks request) new way ready came served =
      let read = asked_next now.client.inbox inbox request way.sound.none_held came in
      went_asked now inbox request new way ready read.0 read.1 served
  went now inbox (input.Refused refusal) new way ready came served =
      let read = refused_next now.client.inbox inbox refusal way.sound.none_held came in
      went_refused now inbox refusal new way ready read.0 read.1 read.2 served

  -- there was no memory for a request that is whole
  pub stops_memory : (now : Seat C) (inbox : Inbox) → UnderWay now → IsReady most now.client → FetchIs now.client.inbox NoMemory inbox
      → ServesOn does reading most NeedsMemory old (seat now.cache (record now.client { inbox = inbox }) now.counts) × IsSound inbox
  stops_memory now inbox way ready read =
      let still : IsStillOpen now = still_open now way.serves read.goes_on in
      let becomes : Becomes inbox.reader still.some.rest old.client.inbox.reader.ended false = record {
        stands = read.next.4.stands ∙ still.becomes.stands;
        is_ended = read.next.4.is_ended ∙ still.becomes.is_ended;
        is_closed = read.next.4.is_closed;
      } in (
        record {
          serves = inl (moved now (seat now.cache (record now.client { inbox = inbox }) now.counts) still.some refl refl refl
              (inl (read.done, becomes, still.none)) read.same_end);
          stops = inr (
            ready,
            read.done,
            (
              read.next.1,
              read.next.2,
              subst (λ (r : List ℕ). BeginsWith SpellsRequest r read.next.1 read.next.2) (sym read.next.4.stands) read.next.3,
            ),
          );
        },
        sound_read now.client.inbox inbox now.client.inbox.reader.kept false way.sound read.same_held read.same_end read.next.4 (λ e. refl),
      )

  -- the client ends without an answer
  stops_ended : (now : Seat C) (inbox : Inbox) (answer : Result (Option Request) TextError) (rest : List ℕ) (closed : Bool) (ended : Ended)
      → UnderWay now → IsReady most now.client
      → ReadsOne now.client.inbox answer true inbox → Becomes inbox.reader rest now.client.inbox.reader.ended closed
      → EndsThere now.client.inbox.has_ended now.client.inbox.reader.kept ended None
      → ServesOn does reading most IsDone old (seat now.cache (record now.client { inbox = inbox }) now.counts) × IsSound inbox
  stops_ended now inbox answer rest closed ended way ready read becomes there = (
    record {
      serves = inl (ends now (seat now.cache (record now.client { inbox = inbox }) now.counts) (still_open now way.serves read.goes_on) ended None there
          refl (sym (append-nil (to_tell now.client))) refl read.done read.same_end);
      stops = (ready, read.done);
    },
    sound_read now.client.inbox inbox rest closed way.sound read.same_held read.same_end becomes
        (λ e. (let both : true ≡ false = sym read.done ∙ e in cc)),
  )

  -- nothing more is read
  pub stops_done : (now : Seat C) (inbox : Inbox) → UnderWay now → IsReady most now.client → FetchIs now.client.inbox Done inbox
      → ServesOn does reading most IsDone old (seat now.cache (record now.client { inbox = inbox }) now.counts) × IsSound inbox
  stops_done now inbox way ready (inl done) = (
    record {
      serves = same_serves now (record now.client { inbox = inbox }) refl done.2 way.serves;
      stops = (ready, ap (λ (i : Inbox). i.is_done) done.2 ∙ done.1);
    },
    subst IsSound (sym done.2) way.sound,
  )
  stops_done now inbox way ready (inr (inl read)) =
      stops_ended now inbox (Ok (Some Quit)) read.next.1 true how.Quit way ready read read.next.3 ((read.next.1, read.next.2), refl)
  stops_done now inbox way ready (inr (inr (inl read))) =
      stops_ended now inbox (Ok None) now.client.inbox.reader.kept false how.Ended way ready read.0 read.0.next.3
      (read.0.next.2 (way.sound.one_end ∙ read.1), read.1, refl)
  stops_done now inbox way ready (inr (inr (inr read))) =
      (let shut : now.client.inbox.reader.closed ≡ true = read.next.0 in
      let is_open : now.client.inbox.reader.closed ≡ false = way.sound.is_open read.goes_on in
      let both : true ≡ false = sym shut ∙ is_open in cc)
