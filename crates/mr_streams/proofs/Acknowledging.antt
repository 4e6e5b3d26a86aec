-- A set that was answered with STORED was stored before: beyond what was held at the beginning a node stored its value.
use Rattle.std.proofs.Common.{◌≡◌, ℕ, zero, suc, ◌+◌, ◌<◌, ◌≤◌, ◌⊎◌, inl, inr, Bool, true, false, All, List, [], ◌∷◌, ◌++◌, length, map, take, fold, get_or, slice_get, ℤ, Contains, Option, Some, None, if◌then◌else◌, refl, sym, ap, ◌∙◌, subst, arith}
use Rattle.std.specs.List.{sum_by}
use Rattle.std.specs.Option.{option_and_then}
use Rattle.std.specs.Prelude.{nat_lt, unwrap_or}
use Rattle.std.proofs.Math.Seq.{take-append_seam}
use Rattle.std.proofs.lemmas.List.{append-nil, take-append-le}
use Rattle.std.proofs.lemmas.List.Sums.{sum_by-append, sum_by_push, sum_by-take-le}
use Rattle.std.proofs.lemmas.Option.{get_or_from_slice_get, slice_get-get_or, slice_get_within}
use Rattle.mr_clock.specs.Readings.{Tick}
use Rattle.mr_text.specs.declared.cause.Cause.TheVariants.{LegLost}
use Rattle.mr_text.specs.declared.reply.Reply.{Reply}
use Rattle.mr_text.specs.declared.reply.Reply.TheVariants.{Stored as StoredReply, ServerError}
use Rattle.mr_text.specs.declared.request.Request.{Request}
use Rattle.mr_text.specs.declared.request.Request.TheVariants as request
use Rattle.mr_history.specs.History.{IsIssued, IsWellFormed}
use Rattle.mr_history.specs.OpIds.{is_same_op}
use Rattle.mr_history.specs.Places.{At}
use Rattle.mr_history.specs.declared.entry.Author.TheVariants.{By}
use Rattle.mr_history.specs.declared.entry.Entry.{Entry}
use Rattle.mr_history.specs.declared.entry.Entry.TheVariants as entry
use Rattle.mr_history.specs.declared.op_id.OpId.{OpId}
use Rattle.mr_history.proofs.TestLemmas.{same_op}
use Rattle.mr_join.specs.Join.{badness_of, joined_reply, reply_by, reply_by_worst, worse_of, worst_of}
use Rattle.mr_join.specs.declared.leg_reply.LegReply.{LegReply}
use Rattle.mr_join.specs.declared.leg_reply.LegReply.TheVariants as leg
use Rattle.mr_phases.specs.Schedule.{Hop, IsSchedule}
use Rattle.mr_pools.specs.Routing.{IsRouting, RoutingView}
use Rattle.mr_node.specs.Output.{is_silent}
use Rattle.mr_node.specs.declared.command.NodeCommand.{NodeCommand}
use Rattle.mr_node.specs.declared.command.NodeCommand.TheVariants as command
use Rattle.mr_proxy.specs.Answer.{AnswerView, answer_of, reply_of}
use Rattle.mr_proxy.specs.Issue.{next_op, sheets_of}
use Rattle.mr_proxy.specs.Pending.{PendingView, is_complete, with_reply}
use Rattle.mr_proxy.specs.ProxyView.{ProxyView, fresh_proxy}
use Rattle.mr_proxy.specs.Sheets.{HaveAsManyHops, commands_of}
use Rattle.mr_proxy.specs.Slots.{reply_of_slot}
use Rattle.mr_proxy.specs.Sound.{IsSound}
use Rattle.mr_proxy.specs.Transitions.{given_up_in, noted_by, pending_with, place_of_op, taken_by, taken_of}
use Rattle.mr_proxy.specs.declared.sheet.LegId.{LegId}
use Rattle.mr_proxy.specs.declared.sheet.LegSheet.{LegSheet}
use Rattle.mr_proxy.specs.declared.slot.Slot.{Slot}
use Rattle.mr_proxy.specs.declared.taken.Taken.{Taken}
use Rattle.mr_proxy.specs.declared.taken.Taken.TheVariants as taken
use Rattle.mr_proxy.proofs.SheetLemmas.{only}
use Rattle.mr_proxy.proofs.SoundLemmas.{IsNoting, noting_in}
use Rattle.mr_world.specs.Facts.{CameBack, IsFaithfulWorld, IsTold, IsUnderWay}
use Rattle.mr_world.specs.Headline.{IsPlan}
use Rattle.mr_world.specs.Lists.{Has}
use Rattle.mr_world.specs.Setup.{Begins, SetupView, held_entry, proxies_from}
use Rattle.mr_world.specs.Steps.{ClientAsks, Delivers, GivesUp, Issues, Returns, WorldRun, WorldStep, answered, answered_by, message_of, performed}
use Rattle.mr_world.specs.Tracked.{IsTracked}
use Rattle.mr_world.specs.WorldView.{WorldView}
use Rattle.mr_world.specs.declared.event.Event.{Event}
use Rattle.mr_world.specs.declared.event.Event.TheVariants.{Clock, Client, Deliver, Return, GiveUp, NodeRestart, ProxyRestart}
use Rattle.mr_world.specs.declared.message.Delivery.{Delivery}
use Rattle.mr_world.specs.declared.message.Message.{Message}
use Rattle.mr_world.specs.declared.note.Note.{Note}
use Rattle.mr_world.specs.declared.setup.ProxySetup.{ProxySetup}
use Rattle.mr_world.proofs.FactLemmas.{answered_after, issued_place}
use Rattle.mr_world.proofs.Lists.{at_before, at_within, has_head, has_left, has_right, test_holds}
use Rattle.mr_streams.specs.Fleet.{FleetEvent, FleetRun}
use Rattle.mr_streams.specs.Headline.{HasText, PremisesHold, Starts}
use Rattle.mr_streams.specs.Refines.{RefinesWorld, Tells}
use Rattle.mr_streams.specs.Steps.{StreamsRun}
use Rattle.mr_streams.specs.StreamsView.{StreamsView}
use Rattle.mr_streams.proofs.Lists.{at_last, at_left, at_map, at_nothing, at_one, at_set}
use Rattle.mr_streams.proofs.Origins.{IsAsked}
use Rattle.mr_streams.proofs.Owing.{Picks, one_if, stored, stored_at}
use Rattle.mr_streams.proofs.Safety.{begun_world, thin_from, world_begins}
use Rattle.mr_streams.proofs.Thinning.{thin, thin_run, thin_world}

-- what is stored stays so
stored_left : (is : Picks) (history more : List Entry) → stored is history ≤ stored is (history ++ more)
stored_left is history more =
    let sum : stored is (history ++ more) ≡ stored is history + stored is more = sum_by-append (stored_at is) history more in
    omega arith

still_more : (is : Picks) (first : ℕ) (history more : List Entry) → first + 1 ≤ stored is history → first + 1 ≤ stored is (history ++ more)
still_more is first history more above = let grows = stored_left is history more in omega arith

-- what is cut off a history that grew
take_left : (history more : List Entry) {place : ℕ} {e : Entry} → At history place e → take place (history ++ more) ≡ take place history
take_left history more {place = place} h = let below = at_within h in take-append-le place history more (omega arith)

-- a history in order: an op is issued once, and answered after that

issued_once : {history : List Entry} {op : OpId} {p q : Request} {i j : ℕ} → IsWellFormed history → IsIssued history op p i → IsIssued history op q j → p ≡ q
issued_once {history = history} {op = op} {p = p} {q = q} {i = i} {j = j} formed a b =
    let same = issued_place formed a b in
    let one = at_one (subst (λ k. At history k (entry.Issued op a.proxy p)) same a.there) b.there in
    cc

-- each set of such a value that was answered with STORED was stored before that: so often were such values stored at the beginning
abbrev pub AnsweredSets : Picks → ℕ → List Entry → Type 0
AnsweredSets is first history =
    (op : OpId) (key : List ℕ) (flags : ℕ) (exptime : ℤ) (block : List ℕ) (noreply : Bool) (issue done : ℕ) → is key block ≡ true
    → IsIssued history op (request.Set key flags exptime block noreply) issue → At history done (entry.Answered op StoredReply)
    → first + 1 ≤ stored is (take done history)

-- each set of such a value that was delivered was stored
abbrev DeliveredSets : Picks → ℕ → List Message → List Delivery → List Entry → Type 0
DeliveredSets is first sent replies history =
    (message : Message) (key : List ℕ) (flags : ℕ) (exptime : ℤ) (block : List ℕ) (reply : LegReply) → CameBack sent replies message reply
    → message.sheet.command ≡ command.Set key flags exptime block → is key block ≡ true → first + 1 ≤ stored is history

-- both, of a fleet
record AreKept (is : Picks) (first : ℕ) (sent : List Message) (replies : List Delivery) (history : List Entry) : Type 0 where
  grew : first ≤ stored is history
  delivered : DeliveredSets is first sent replies history
  answers : AnsweredSets is first history

-- one more entry, of which it is so if it is such an answer
answered_more : (is : Picks) (first : ℕ) (history : List Entry) (e : Entry) → IsWellFormed (history ++ e ∷ []) → AnsweredSets is first history
    → ((op : OpId) (key : List ℕ) (flags : ℕ) (exptime : ℤ) (block : List ℕ) (noreply : Bool) (issue : ℕ) → is key block ≡ true → entry.Answered op StoredReply ≡ e
    → IsIssued (history ++ e ∷ []) op (request.Set key flags exptime block noreply) issue → first + 1 ≤ stored is history)
    → AnsweredSets is first (history ++ e ∷ [])
answered_more is first history e formed old new = λ op key flags exptime block noreply issue done picks asked at. elim (at_last history e at) [
  | inl was ↦ (
      let earlier : issue < done = answered_after formed at asked in
      let below : done < length history = at_within was in
      let before : IsIssued history op (request.Set key flags exptime block noreply) issue =
      record { proxy = asked.proxy; there = at_before history (e ∷ []) asked.there (omega arith) } in
      subst (λ l. first + 1 ≤ stored is l) (sym (take_left history (e ∷ []) was)) (old op key flags exptime block noreply issue done picks before was))
  | inr last ↦ (
      let whole : take done (history ++ e ∷ []) ≡ history = ap (λ n. take n (history ++ e ∷ [])) last.0 ∙ take-append_seam history (e ∷ []) in
      subst (λ l. first + 1 ≤ stored is l) (sym whole) (new op key flags exptime block noreply issue picks last.1 asked))
]

answered_none : (is : Picks) (first : ℕ) (history : List Entry) → AnsweredSets is first history → AnsweredSets is first (history ++ [])
answered_none is first history old = subst (λ l. AnsweredSets is first l) (sym (append-nil history)) old

answered_performed : (is : Picks) (first : ℕ) (history : List Entry) (sheet : LegSheet) (c : NodeCommand) → IsWellFormed (history ++ performed sheet c)
    → AnsweredSets is first history → AnsweredSets is first (history ++ performed sheet c)
answered_performed is first history sheet (command.Get key) formed old = answered_none is first history old
answered_performed is first history sheet (command.Set key flags exptime block) formed old =
    answered_more is first history (entry.Stored (By sheet.id.op) key flags block) formed old
    (λ op k f x b n issue picks same asked. absurd (let never : entry.Answered op StoredReply ≡ entry.Stored (By sheet.id.op) key flags block = same in cc))
answered_performed is first history sheet (command.Delete key) formed old =
    answered_more is first history (entry.Removed sheet.id.op sheet.side key) formed old
    (λ op k f x b n issue picks same asked. absurd (let never : entry.Answered op StoredReply ≡ entry.Removed sheet.id.op sheet.side key = same in cc))

-- where this answer is STORED, and to such a set, its value was stored
abbrev IsKeptBy : Picks → ℕ → List Entry → AnswerView → Type 0
IsKeptBy is first history answer =
    (key : List ℕ) (flags : ℕ) (exptime : ℤ) (block : List ℕ) (noreply : Bool) → is key block ≡ true → answer.request ≡ request.Set key flags exptime block noreply
    → reply_of answer ≡ StoredReply → first + 1 ≤ stored is history

same_answer : {a b : OpId} {r s : Reply} → entry.Answered a r ≡ entry.Answered b s → (a ≡ b) × (r ≡ s)
same_answer e = (cc, cc)

answered_unless : (is : Picks) (first : ℕ) (history : List Entry) (answer : AnswerView) (silent : Bool)
    → IsWellFormed (history ++ (if silent then [] else entry.Answered answer.op (reply_of answer) ∷ [])) → IsAsked history answer.op answer.request
    → IsKeptBy is first history answer → AnsweredSets is first history
    → AnsweredSets is first (history ++ (if silent then [] else entry.Answered answer.op (reply_of answer) ∷ []))
answered_unless is first history answer true formed asked kept old = answered_none is first history old
answered_unless is first history answer false formed asked kept old =
    answered_more is first history (entry.Answered answer.op (reply_of answer)) formed old (λ op key flags exptime block noreply issue picks same its. (
    let both = same_answer same in
    let more : List Entry = entry.Answered answer.op (reply_of answer) ∷ [] in
    let own : IsIssued (history ++ more) op answer.request asked.issue = subst (λ o. IsIssued (history ++ more) o answer.request asked.issue) (sym both.0) (record { proxy = asked.issued.proxy; there = at_left more asked.issued.there }) in
    kept key flags exptime block noreply picks (issued_once formed own its) (sym both.1)))

answered_answer : (is : Picks) (first : ℕ) (history : List Entry) (answer : AnswerView) → IsWellFormed (history ++ answered answer) → IsAsked history answer.op answer.request
    → IsKeptBy is first history answer → AnsweredSets is first history → AnsweredSets is first (history ++ answered answer)
answered_answer is first history answer formed asked kept old = answered_unless is first history answer (is_silent answer.request) formed asked kept old

-- of an answer that is STORED

by_stored : (reply : LegReply) → reply_by reply ≡ StoredReply → reply ≡ leg.Stored
by_stored (leg.Hit flags block) e = absurd (let never : ServerError LegLost ≡ StoredReply = e in cc)
by_stored leg.Miss e = absurd (let never : ServerError LegLost ≡ StoredReply = e in cc)
by_stored leg.Stored e = refl
by_stored leg.Deleted e = cc
by_stored leg.NotFound e = cc
by_stored (leg.Failed cause) e = absurd (let never : ServerError cause ≡ StoredReply = e in cc)

worse_stored : (second : Bool) (a b : LegReply) → (if second then b else a) ≡ leg.Stored → (a ≡ leg.Stored) ⊎ (b ≡ leg.Stored)
worse_stored true a b e = inr e
worse_stored false a b e = inl e

some_stored : (rest : List LegReply) (a : LegReply) → fold worse_of a rest ≡ leg.Stored → (a ≡ leg.Stored) ⊎ Has rest leg.Stored
some_stored [] a e = inl e
some_stored (b ∷ rest) a e = elim (some_stored rest (worse_of a b) e) [
  | inl is ↦ elim (worse_stored (nat_lt (badness_of a) (badness_of b)) a b is) [
    | inl one ↦ inl one
    | inr other ↦ inr (record { place = 0; there = record { gets = ap Some other } })
  ]
  | inr later ↦ inr (record { place = suc later.place; there = record { gets = later.there.gets } })
]

noted_stored : (o : Option LegReply) → leg.Stored ≡ unwrap_or o (leg.Failed LegLost) → o ≡ Some leg.Stored
noted_stored None e = absurd (let never : leg.Stored ≡ leg.Failed LegLost = e in cc)
noted_stored (Some reply) e = ap Some (sym e)

-- some leg was stored
record HasStored (slots : List Slot) : Type 0 where
  slot : Slot
  has : Has slots slot
  noted : slot.reply ≡ Some leg.Stored

slot_stored : (slots : List Slot) → reply_by_worst (worst_of (map reply_of_slot slots)) ≡ StoredReply → HasStored slots
slot_stored [] e = absurd (let never : ServerError LegLost ≡ StoredReply = e in cc)
slot_stored (slot ∷ slots) e = elim (some_stored (map reply_of_slot slots) (reply_of_slot slot) (by_stored (fold worse_of (reply_of_slot slot) (map reply_of_slot slots)) e)) [
  | inl one ↦ record { slot = slot; has = record { place = 0; there = record { gets = refl } }; noted = noted_stored slot.reply (sym one) }
  | inr later ↦ (
      let from = at_map reply_of_slot slots later.there in
      record { slot = from.0; has = record { place = suc later.place; there = record { gets = from.1.gets } }; noted = noted_stored from.0.reply from.2 })
]

-- of each leg of a request that was stored a delivery came back
abbrev ComesBack : List Message → List Delivery → PendingView → Type 0
ComesBack sent replies x =
    (slot : Slot) → Has x.slots slot → slot.reply ≡ Some leg.Stored → (message : Message) × (message.sheet.id.op ≡ x.op) × CameBack sent replies message leg.Stored

way_back : (sent : List Message) (replies : List Delivery) (history : List Entry) (x : PendingView) → IsUnderWay sent replies history x → ComesBack sent replies x
way_back sent replies history x way = λ slot has is. (
    let its = way.slots slot has in
    (its.message, ap (λ (s : LegSheet). s.id.op) its.sheet ∙ way.named slot has, its.noted leg.Stored is))

way_asked : (sent : List Message) (replies : List Delivery) (history : List Entry) (x : PendingView) → IsUnderWay sent replies history x → IsAsked history x.op x.request
way_asked sent replies history x way = record { issue = way.place; issued = way.issued }

-- so the value of such a set was stored
kept_by : (is : Picks) (first : ℕ) (sent : List Message) (replies : List Delivery) (history : List Entry) (x : PendingView) (given_up : Bool) → IsWellFormed history
    → ((message : Message) → Has sent message → IsTold history message) → DeliveredSets is first sent replies history → IsAsked history x.op x.request → ComesBack sent replies x
    → IsKeptBy is first history (answer_of x given_up)
kept_by is first sent replies history x given_up formed told delivered asked back = λ key flags exptime block noreply picks set is_stored. (
    let some = slot_stored x.slots (subst (λ q. joined_reply q (map reply_of_slot x.slots) ≡ StoredReply) set is_stored) in
    let (message, own, came) = back some.slot some.has some.noted in
    let its = told message (record { place = came.from; there = came.was_sent }) in
    let issue : IsIssued history x.op its.request its.place = subst (λ o. IsIssued history o its.request its.place) own its.issued in
    let same : its.request ≡ request.Set key flags exptime block noreply = issued_once formed issue asked.issued ∙ set in
    let does : message.sheet.command ≡ command.Set key flags exptime block =
    only (command.Set key flags exptime block) message.sheet.command (subst (λ q. Contains (commands_of q) message.sheet.command) same its.command) in
    delivered message key flags exptime block leg.Stored came does picks)

-- a request that takes a reply

-- the request with the reply noted
record TookReply (p : ProxyView) (id : LegId) (reply : LegReply) (x : PendingView) : Type 0 where
  pending : PendingView
  index : ℕ
  there : At p.outstanding index pending
  named : pending.op ≡ id.op
  noting : IsNoting pending x id.place reply

took_reply : (p : ProxyView) (id : LegId) (reply : LegReply) (x : PendingView) (o : Option PendingView) → pending_with p.outstanding id.op ≡ o
    → option_and_then (λ pending. with_reply pending id.place reply) o ≡ Some x → TookReply p id reply x
took_reply p id reply x None got e = absurd (let never : None ≡ Some x = e in cc)
took_reply p id reply x (Some pending) got e = record {
  pending = pending;
  index = place_of_op p.outstanding id.op;
  there = record { gets = got };
  named = same_op pending.op id.op (test_holds (λ (y : PendingView). is_same_op y.op id.op) p.outstanding pending got);
  noting = noting_in pending x id.place reply (slice_get pending.slots id.place) refl e;
}

-- the answer is that of the request that took the reply
answer_if : (noted : PendingView) (answer : AnswerView) (b : Bool) → (if b then taken.Answered (answer_of noted false) else taken.Waiting) ≡ taken.Answered answer
    → answer ≡ answer_of noted false
answer_if noted answer true e = let same : answer_of noted false ≡ answer = cc in sym same
answer_if noted answer false e = absurd (let never : taken.Waiting ≡ taken.Answered answer = e in cc)

answer_settled : (p : ProxyView) (id : LegId) (reply : LegReply) (answer : AnswerView) (o : Option PendingView) → noted_by p id reply ≡ o → taken_by reply o ≡ taken.Answered answer
    → (x : PendingView) × TookReply p id reply x × (answer ≡ answer_of x false)
answer_settled p id reply answer None is e = absurd (let never : taken.Stranger reply ≡ taken.Answered answer = e in cc)
answer_settled p id reply answer (Some noted) is e = (noted, took_reply p id reply noted (pending_with p.outstanding id.op) refl is, answer_if noted answer (is_complete noted) e)

given_answer : (p : ProxyView) (at : ℕ) (answer : AnswerView) (o : Option PendingView) → slice_get p.outstanding at ≡ o → given_up_in o ≡ Some answer
    → (x : PendingView) × At p.outstanding at x × (answer ≡ answer_of x true)
given_answer p at answer None got e = absurd (let never : None ≡ Some answer = e in cc)
given_answer p at answer (Some pending) got e = (pending, record { gets = got }, (let same : answer_of pending true ≡ answer = cc in sym same))

-- of the legs of a request that took a message's reply
took_back : (p : ProxyView) (sent : List Message) (replies : List Delivery) (history : List Entry) (m : Message) (reply : LegReply) (x : PendingView)
    → (took : TookReply p m.sheet.id reply x) → IsUnderWay sent replies history took.pending → CameBack sent replies m reply → ComesBack sent replies x
took_back p sent replies history m reply x took way came =
    let e : PendingView = took.pending in
    let noted : Slot = record { sheet = took.noting.slot.sheet; reply = Some reply } in
    subst (λ (y : PendingView). ComesBack sent replies y) (sym took.noting.is) (λ slot has is. elim (at_set e.slots m.sheet.id.place noted has.there) [
      | inl new ↦ (
          let both : Some reply ≡ Some leg.Stored = ap (λ (s : Slot). s.reply) (sym new.1) ∙ is in
          let same : reply ≡ leg.Stored = cc in
          (m, sym took.named, subst (λ r. CameBack sent replies m r) same came))
      | inr old ↦ way_back sent replies history e way slot (record { place = has.place; there = old.1 }) is
    ])

-- the answer to it, or to one that is given up, is such that what is kept stays so
kept_answer : (is : Picks) (first : ℕ) (sent : List Message) (replies : List Delivery) (history : List Entry) (x : PendingView) (answer : AnswerView) (given_up : Bool)
    → answer ≡ answer_of x given_up → IsWellFormed history → IsWellFormed (history ++ answered answer) → ((message : Message) → Has sent message → IsTold history message)
    → IsAsked history x.op x.request → ComesBack sent replies x → AreKept is first sent replies history → AnsweredSets is first (history ++ answered answer)
kept_answer is first sent replies history x answer given_up equal formed formed' told asked back k =
    answered_answer is first history answer formed' (subst (λ (y : AnswerView). IsAsked history y.op y.request) (sym equal) asked)
    (subst (λ (y : AnswerView). IsKeptBy is first history y) (sym equal) (kept_by is first sent replies history x given_up formed told k.delivered asked back)) k.answers

-- a history that grew by answers alone
kept_on : (is : Picks) (first : ℕ) (sent : List Message) (replies : List Delivery) (history more : List Entry) → AnsweredSets is first (history ++ more) → AreKept is first sent replies history
    → AreKept is first sent replies (history ++ more)
kept_on is first sent replies history more answers k = record {
  grew = (let grows = stored_left is history more in let before = k.grew in omega arith);
  delivered = λ message key flags exptime block reply came does picks. still_more is first history more (k.delivered message key flags exptime block reply came does picks);
  answers = answers;
}

-- each event

performed_counts : (is : Picks) (history : List Entry) (sheet : LegSheet) (c : NodeCommand) (key : List ℕ) (flags : ℕ) (exptime : ℤ) (block : List ℕ)
    → c ≡ command.Set key flags exptime block → is key block ≡ true → stored is (history ++ performed sheet c) ≡ stored is history + 1
performed_counts is history sheet c key flags exptime block does picks =
    ap (λ x. stored is (history ++ performed sheet x)) does ∙ sum_by_push (stored_at is) history (entry.Stored (By sheet.id.op) key flags block)
    ∙ ap (λ b. stored is history + one_if b) picks

delivers_kept : (is : Picks) (first : ℕ) (w : WorldView) (n now : ℕ) (note : Note) (new : WorldView) → Delivers w n now note new → IsWellFormed new.history
    → AreKept is first w.sent w.replies w.history → AreKept is first new.sent new.replies new.history
delivers_kept is first w n now note new step formed' k =
    let m : Message = step.message in
    let more : List Entry = performed m.sheet m.sheet.command in
    let delivery : Delivery = record { message = n; reply = step.reply } in
    let formed : IsWellFormed (w.history ++ more) = subst (λ (x : WorldView). IsWellFormed x.history) step.becomes formed' in
    subst (λ (x : WorldView). AreKept is first x.sent x.replies x.history) (sym step.becomes) (record {
      grew = (let grows = stored_left is w.history more in let before = k.grew in omega arith);
      delivered = λ message key flags exptime block reply came does picks. elim (at_last w.replies delivery came.came) [
        | inl old ↦ still_more is first w.history more
            (k.delivered message key flags exptime block reply (record { number = came.number; from = came.from; came = old; was_sent = came.was_sent }) does picks)
        | inr fresh ↦ (
            let from : came.from ≡ n = ap (λ (x : Delivery). x.message) fresh.1 in
            let same : message ≡ m = at_one (subst (λ i. At w.sent i message) from came.was_sent) step.sent in
            let does' : m.sheet.command ≡ command.Set key flags exptime block = ap (λ (x : Message). x.sheet.command) (sym same) ∙ does in
            let counts = performed_counts is w.history m.sheet m.sheet.command key flags exptime block does' picks in
            let before = k.grew in
            omega arith)
      ];
      answers = answered_performed is first w.history m.sheet m.sheet.command formed k.answers;
    })

issues_kept : (is : Picks) (first : ℕ) (w : WorldView) (n : ℕ) (q : Request) (note : Note) (new : WorldView) → Issues w n q note new → IsWellFormed new.history → IsTracked w
    → AreKept is first w.sent w.replies w.history → AreKept is first new.sent new.replies new.history
issues_kept is first w n q note new step formed' t k =
    let e : Entry = entry.Issued (next_op step.proxy) n q in
    let messages : List Message = map (message_of w.nodes step.proxy.routing) (sheets_of step.proxy step.reading q) in
    let formed : IsWellFormed (w.history ++ e ∷ []) = subst (λ (x : WorldView). IsWellFormed x.history) step.becomes formed' in
    subst (λ (x : WorldView). AreKept is first x.sent x.replies x.history) (sym step.becomes) (record {
      grew = (let grows = stored_left is w.history (e ∷ []) in let before = k.grew in omega arith);
      delivered = λ message key flags exptime block reply came does picks. still_more is first w.history (e ∷ [])
          (k.delivered message key flags exptime block reply (record {
            number = came.number;
            from = came.from;
            came = came.came;
            was_sent = at_before w.sent messages came.was_sent (t.replies came.number (record { message = came.from; reply = reply }) came.came);
          }) does picks);
      answers = answered_more is first w.history e formed k.answers
          (λ op key flags exptime block noreply issue picks same asked. absurd (let never : entry.Answered op StoredReply ≡ entry.Issued (next_op step.proxy) n q = same in cc));
    })

asks_kept : (is : Picks) (first : ℕ) (w : WorldView) (n : ℕ) (q : Request) (note : Note) (new : WorldView) → ClientAsks w n q note new → IsWellFormed new.history → IsTracked w
    → AreKept is first w.sent w.replies w.history → AreKept is first new.sent new.replies new.history
asks_kept is first w n (request.Get keys) note new step formed t k = issues_kept is first w n (request.Get keys) note new step formed t k
asks_kept is first w n (request.Set key flags exptime block noreply) note new step formed t k =
    issues_kept is first w n (request.Set key flags exptime block noreply) note new step formed t k
asks_kept is first w n (request.Delete key noreply) note new step formed t k = issues_kept is first w n (request.Delete key noreply) note new step formed t k
asks_kept is first w n request.Quit note new step formed t k = subst (λ (x : WorldView). AreKept is first x.sent x.replies x.history) (sym step.becomes) k

took_kept : (is : Picks) (first : ℕ) (p : ProxyView) (sent : List Message) (replies : List Delivery) (history : List Entry) (m : Message) (reply : LegReply) (t : Taken)
    → taken_of p m.sheet.id reply ≡ t → IsWellFormed history → IsWellFormed (history ++ answered_by t) → ((message : Message) → Has sent message → IsTold history message)
    → ((index : ℕ) (x : PendingView) → At p.outstanding index x → IsUnderWay sent replies history x) → CameBack sent replies m reply → AreKept is first sent replies history
    → AnsweredSets is first (history ++ answered_by t)
took_kept is first p sent replies history m reply taken.Waiting e formed formed' told ways came k = answered_none is first history k.answers
took_kept is first p sent replies history m reply (taken.Answered answer) e formed formed' told ways came k =
    let (x, took, equal) = answer_settled p m.sheet.id reply answer (noted_by p m.sheet.id reply) refl e in
    let way = ways took.index took.pending took.there in
    let asked : IsAsked history x.op x.request =
    subst (λ (y : PendingView). IsAsked history y.op y.request) (sym took.noting.is) (way_asked sent replies history took.pending way) in
    kept_answer is first sent replies history x answer false equal formed formed' told asked (took_back p sent replies history m reply x took way came) k
took_kept is first p sent replies history m reply (taken.Stranger back) e formed formed' told ways came k = answered_none is first history k.answers

returns_kept : (is : Picks) (first : ℕ) (w : WorldView) (n : ℕ) (note : Note) (new : WorldView) → Returns w n note new → IsWellFormed new.history → IsTracked w → IsFaithfulWorld w
    → AreKept is first w.sent w.replies w.history → AreKept is first new.sent new.replies new.history
returns_kept is first w n note new step formed' t f k =
    let p : ProxyView = step.proxy in
    let m : Message = step.message in
    let more : List Entry = answered_by (taken_of p m.sheet.id step.reply) in
    let formed : IsWellFormed (w.history ++ more) = subst (λ (x : WorldView). IsWellFormed x.history) step.becomes formed' in
    let came : CameBack w.sent w.replies m step.reply = record { number = n; from = step.from; came = step.came; was_sent = step.sent } in
    subst (λ (x : WorldView). AreKept is first x.sent x.replies x.history) (sym step.becomes) (kept_on is first w.sent w.replies w.history more
    (took_kept is first p w.sent w.replies w.history m step.reply (taken_of p m.sheet.id step.reply) refl t.formed formed f.told
    (λ index x there. f.waiting x (record { number = step.sender; proxy = p; place = index; home = step.home; there = there })) came k) k)

gives_up_kept : (is : Picks) (first : ℕ) (w : WorldView) (op : OpId) (note : Note) (new : WorldView) → GivesUp w op note new → IsWellFormed new.history → IsTracked w → IsFaithfulWorld w
    → AreKept is first w.sent w.replies w.history → AreKept is first new.sent new.replies new.history
gives_up_kept is first w op note new step formed' t f k =
    let p : ProxyView = step.proxy in
    let formed : IsWellFormed (w.history ++ answered step.answer) = subst (λ (x : WorldView). IsWellFormed x.history) step.becomes formed' in
    let (x, there, equal) = given_answer p (place_of_op p.outstanding op) step.answer (pending_with p.outstanding op) refl step.gives in
    let way = f.waiting x (record { number = op.proxy; proxy = p; place = place_of_op p.outstanding op; home = step.home; there = there }) in
    subst (λ (x : WorldView). AreKept is first x.sent x.replies x.history) (sym step.becomes) (kept_on is first w.sent w.replies w.history (answered step.answer)
    (kept_answer is first w.sent w.replies w.history x step.answer true equal t.formed formed f.told (way_asked w.sent w.replies w.history x way)
    (way_back w.sent w.replies w.history x way) k) k)

step_kept : (is : Picks) (first : ℕ) (w : WorldView) (event : Event) (note : Note) (new : WorldView) → WorldStep w event note new → IsWellFormed new.history → IsTracked w → IsFaithfulWorld w
    → AreKept is first w.sent w.replies w.history → AreKept is first new.sent new.replies new.history
step_kept is first w (Clock proxy reading) note new step formed t f k = subst (λ (x : WorldView). AreKept is first x.sent x.replies x.history) (sym step.becomes) k
step_kept is first w (Client proxy q) note new step formed t f k = asks_kept is first w proxy q note new step formed t k
step_kept is first w (Deliver message now) note new step formed t f k = delivers_kept is first w message now note new step formed k
step_kept is first w (Return reply) note new step formed t f k = returns_kept is first w reply note new step formed t f k
step_kept is first w (GiveUp op) note new step formed t f k = gives_up_kept is first w op note new step formed t f k
step_kept is first w (NodeRestart node) note new step formed t f k = subst (λ (x : WorldView). AreKept is first x.sent x.replies x.history) (sym step.becomes) k
step_kept is first w (ProxyRestart proxy) note new step formed t f k = subst (λ (x : WorldView). AreKept is first x.sent x.replies x.history) (sym step.becomes) k

-- what the world's laws say
pub record WorldLaws : Type 0 where
  pub steps_keep_tracked : (old new : WorldView) (event : Event) (note : Note) → IsTracked old → WorldStep old event note new → IsTracked new
  pub steps_keep_faithful : (old new : WorldView) (event : Event) (note : Note) → IsTracked old → IsTracked new → IsFaithfulWorld old → WorldStep old event note new → IsFaithfulWorld new
  pub setups_begin_faithful : (setup : SetupView) (world : WorldView) → Begins setup world → IsFaithfulWorld world
  pub setups_begin_tracked : (setup : SetupView) (world : WorldView) → Begins setup world → All IsSound world.proxies → IsTracked world
  pub fresh_is_sound : (number incarnation : ℕ) (routing : RoutingView) (hops : List Hop) (room : ℕ) → IsRouting routing → IsSchedule hops → HaveAsManyHops routing hops
      → IsSound (fresh_proxy number incarnation routing hops room)

run_kept : WorldLaws → (is : Picks) (first : ℕ) (events : List Event) (w last : WorldView) → WorldRun w events last → IsTracked w → IsFaithfulWorld w
    → AreKept is first w.sent w.replies w.history → AreKept is first last.sent last.replies last.history
run_kept laws is first [] w last run t f k = subst (λ (x : WorldView). AreKept is first x.sent x.replies x.history) (sym run) k
run_kept laws is first (event ∷ events) w last run t f k =
    let t' = laws.steps_keep_tracked w run.0 event run.1 t run.2 in
    let f' = laws.steps_keep_faithful w run.0 event run.1 t t' f run.2 in
    run_kept laws is first events run.0 last run.3 t' f' (step_kept is first w event run.1 run.0 run.2 t'.formed t f k)

-- the proxies of a setup are fresh
fresh_from : (number : ℕ) (proxies : List ProxySetup) (place : ℕ) (p : ProxyView) → slice_get (proxies_from number proxies) place ≡ Some p
    → (at : ℕ) × (proxy : ProxySetup) × (slice_get proxies place ≡ Some proxy) × (p ≡ fresh_proxy at 0 proxy.routing proxy.schedule proxy.room)
fresh_from number [] place p e = cc
fresh_from number (x ∷ proxies) zero p e = (number, x, refl, (let is : fresh_proxy number 0 x.routing x.schedule x.room ≡ p = cc in sym is))
fresh_from number (x ∷ proxies) (suc place) p e = fresh_from (number + 1) proxies place p e

begins_sound : WorldLaws → (setup : SetupView) (start : WorldView) → All (λ (proxy : ProxySetup). IsPlan proxy.routing proxy.schedule) setup.proxies → Begins setup start
    → All IsSound start.proxies
begins_sound laws setup start plans begins = λ k d below. (
    let there : slice_get (proxies_from 0 setup.proxies) k ≡ Some (get_or start.proxies k d) = ap (λ l. slice_get l k) (sym begins.proxies) ∙ slice_get-get_or start.proxies k d below in
    let (at, proxy, home, is) = fresh_from 0 setup.proxies k (get_or start.proxies k d) there in
    let plan : IsPlan proxy.routing proxy.schedule =
    subst (λ (x : ProxySetup). IsPlan x.routing x.schedule) (get_or_from_slice_get setup.proxies k proxy proxy home) (plans k proxy (slice_get_within setup.proxies k proxy home)) in
    subst IsSound (sym is) (laws.fresh_is_sound at 0 proxy.routing proxy.schedule proxy.room plan.sound plan.schedule plan.chain))

-- nothing was answered yet, and nothing delivered
begins_kept : (is : Picks) (setup : SetupView) (start : WorldView) → Begins setup start → AreKept is (stored is start.history) start.sent start.replies start.history
begins_kept is setup start begins = record {
  grew = omega arith;
  delivered = λ message key flags exptime block reply came does picks. absurd (at_nothing (subst (λ l. At l came.from message) begins.sent came.was_sent));
  answers = λ op key flags exptime block noreply issue done picks asked at. (
      let from = at_map held_entry setup.held (subst (λ l. At l done (entry.Answered op StoredReply)) begins.history at) in
      absurd (let never : entry.Answered op StoredReply ≡ held_entry from.0 = from.2 in cc));
}

-- in the world, a set that was answered with STORED was stored before its answer, beyond what was held at the beginning
world_sets : WorldLaws → (is : Picks) (setup : SetupView) (start last : WorldView) (events : List Event) → All (λ (proxy : ProxySetup). IsPlan proxy.routing proxy.schedule) setup.proxies
    → Begins setup start → WorldRun start events last → AnsweredSets is (stored is start.history) last.history
world_sets laws is setup start last events plans begins run =
    let kept = run_kept laws is (stored is start.history) events start last run (laws.setups_begin_tracked setup start begins (begins_sound laws setup start plans begins))
    (laws.setups_begin_faithful setup start begins) (begins_kept is setup start begins) in
    kept.answers

-- what a history tells of another

counted_both : (f : Entry → ℕ) (told heard : List Entry) (a b : Entry) → f a ≡ f b → sum_by f told ≡ sum_by f heard → sum_by f (told ++ a ∷ []) ≡ sum_by f (heard ++ b ∷ [])
counted_both f told heard a b same sums =
    let one = sum_by_push f told a in
    let other = sum_by_push f heard b in
    omega arith

counted_none : (f : Entry → ℕ) (told : List Entry) (a : Entry) → f a ≡ 0 → sum_by f (told ++ a ∷ []) ≡ sum_by f told
counted_none f told a none = let one = sum_by_push f told a in omega arith

-- it tells as often that such a value is stored
pub stored_told : (is : Picks) (told heard : List Entry) → Tells told heard → stored is told ≡ stored is heard
stored_told is told heard (Tells.begins history) = refl
stored_told is told heard (Tells.issues {told = t} {heard = h} op proxy q tells) =
    counted_both (stored_at is) t h (entry.Issued op proxy q) (entry.Issued op proxy q) refl (stored_told is t h tells)
stored_told is told heard (Tells.stores {told = t} {heard = h} by other key flags block tells) =
    counted_both (stored_at is) t h (entry.Stored by key flags block) (entry.Stored other key flags block) refl (stored_told is t h tells)
stored_told is told heard (Tells.removes {told = t} {heard = h} op side key tells) = counted_none (stored_at is) t (entry.Removed op side key) refl ∙ stored_told is t h tells
stored_told is told heard (Tells.removed {told = t} {heard = h} op side key tells) = stored_told is t h tells ∙ sym (counted_none (stored_at is) h (entry.Removed op side key) refl)
stored_told is told heard (Tells.knows {told = t} {heard = h} op reply tells) = counted_none (stored_at is) t (entry.Answered op reply) refl ∙ stored_told is t h tells
stored_told is told heard (Tells.answers {told = t} {heard = h} op reply tells has) =
    stored_told is t h tells ∙ sym (counted_none (stored_at is) h (entry.Answered op reply) refl)
stored_told is told heard (Tells.errs {told = t} {heard = h} op cause tells) =
    stored_told is t h tells ∙ sym (counted_none (stored_at is) h (entry.Answered op (ServerError cause)) refl)

-- what is issued in the other is issued in it
pub issue_told : (told heard : List Entry) → Tells told heard → (op : OpId) (proxy : ℕ) (q : Request) (place : ℕ) → At heard place (entry.Issued op proxy q)
    → Has told (entry.Issued op proxy q)
issue_told told heard (Tells.begins history) op proxy q place at = record { place = place; there = at }
issue_told told heard (Tells.issues {told = t} {heard = h} o n r tells) op proxy q place at = elim (at_last h (entry.Issued o n r) at) [
  | inl was ↦ has_left (entry.Issued o n r ∷ []) (issue_told t h tells op proxy q place was)
  | inr new ↦ subst (λ e. Has (t ++ entry.Issued o n r ∷ []) e) (sym new.1) (has_right t (has_head (entry.Issued o n r) []))
]
issue_told told heard (Tells.stores {told = t} {heard = h} by other key flags block tells) op proxy q place at = elim (at_last h (entry.Stored other key flags block) at) [
  | inl was ↦ has_left (entry.Stored by key flags block ∷ []) (issue_told t h tells op proxy q place was)
  | inr new ↦ absurd (let never : entry.Issued op proxy q ≡ entry.Stored other key flags block = new.1 in cc)
]
issue_told told heard (Tells.removes {told = t} {heard = h} o side key tells) op proxy q place at = has_left (entry.Removed o side key ∷ []) (issue_told t h tells op proxy q place at)
issue_told told heard (Tells.removed {told = t} {heard = h} o side key tells) op proxy q place at = elim (at_last h (entry.Removed o side key) at) [
  | inl was ↦ issue_told t h tells op proxy q place was
  | inr new ↦ absurd (let never : entry.Issued op proxy q ≡ entry.Removed o side key = new.1 in cc)
]
issue_told told heard (Tells.knows {told = t} {heard = h} o reply tells) op proxy q place at = has_left (entry.Answered o reply ∷ []) (issue_told t h tells op proxy q place at)
issue_told told heard (Tells.answers {told = t} {heard = h} o reply tells has) op proxy q place at = elim (at_last h (entry.Answered o reply) at) [
  | inl was ↦ issue_told t h tells op proxy q place was
  | inr new ↦ absurd (let never : entry.Issued op proxy q ≡ entry.Answered o reply = new.1 in cc)
]
issue_told told heard (Tells.errs {told = t} {heard = h} o cause tells) op proxy q place at = elim (at_last h (entry.Answered o (ServerError cause)) at) [
  | inl was ↦ issue_told t h tells op proxy q place was
  | inr new ↦ absurd (let never : entry.Issued op proxy q ≡ entry.Answered o (ServerError cause) = new.1 in cc)
]

-- an answer stands in the one, behind no more of such values than in the other
record IsBefore (is : Picks) (told heard : List Entry) (op : OpId) (done : ℕ) : Type 0 where
  place : ℕ
  there : At told place (entry.Answered op StoredReply)
  before : stored is (take place told) ≤ stored is (take done heard)

told_more : (is : Picks) (told heard : List Entry) (e : Entry) (op : OpId) (done : ℕ) → IsBefore is told heard op done → IsBefore is (told ++ e ∷ []) heard op done
told_more is told heard e op done b = record {
  place = b.place;
  there = at_left (e ∷ []) b.there;
  before = subst (λ l. stored is l ≤ stored is (take done heard)) (sym (take_left told (e ∷ []) b.there)) b.before;
}

heard_more : (is : Picks) (told heard : List Entry) (e : Entry) (op : OpId) (done : ℕ) → At heard done (entry.Answered op StoredReply) → IsBefore is told heard op done
    → IsBefore is told (heard ++ e ∷ []) op done
heard_more is told heard e op done at b = record {
  place = b.place;
  there = b.there;
  before = subst (λ l. stored is (take b.place told) ≤ stored is l) (sym (take_left heard (e ∷ []) at)) b.before;
}

before_same : (is : Picks) (history : List Entry) (op : OpId) (done : ℕ) → At history done (entry.Answered op StoredReply) → IsBefore is history history op done
before_same is history op done at = record { place = done; there = at; before = omega arith }

before_last : (is : Picks) (told heard : List Entry) (op o : OpId) (reply : Reply) (done : ℕ) → Tells told heard → Has told (entry.Answered o reply) → done ≡ length heard
    → entry.Answered op StoredReply ≡ entry.Answered o reply → IsBefore is told (heard ++ entry.Answered o reply ∷ []) op done
before_last is told heard op o reply done tells has last same =
    let more : List Entry = entry.Answered o reply ∷ [] in
    let whole : take done (heard ++ more) ≡ heard = ap (λ n. take n (heard ++ more)) last ∙ take-append_seam heard more in
    let below : stored is (take has.place told) ≤ stored is told = sum_by-take-le (stored_at is) told has.place in
    let equal = stored_told is told heard tells in
    record {
      place = has.place;
      there = subst (λ e. At told has.place e) (sym same) has.there;
      before = subst (λ l. stored is (take has.place told) ≤ stored is l) (sym whole) (omega arith);
    }

answer_before : (is : Picks) (told heard : List Entry) → Tells told heard → (op : OpId) (done : ℕ) → At heard done (entry.Answered op StoredReply) → IsBefore is told heard op done
answer_before is told heard (Tells.begins history) op done at = before_same is history op done at
answer_before is told heard (Tells.issues {told = t} {heard = h} o n r tells) op done at = elim (at_last h (entry.Issued o n r) at) [
  | inl was ↦ told_more is t (h ++ entry.Issued o n r ∷ []) (entry.Issued o n r) op done
      (heard_more is t h (entry.Issued o n r) op done was (answer_before is t h tells op done was))
  | inr new ↦ absurd (let never : entry.Answered op StoredReply ≡ entry.Issued o n r = new.1 in cc)
]
answer_before is told heard (Tells.stores {told = t} {heard = h} by other key flags block tells) op done at = elim (at_last h (entry.Stored other key flags block) at) [
  | inl was ↦ told_more is t (h ++ entry.Stored other key flags block ∷ []) (entry.Stored by key flags block) op done
      (heard_more is t h (entry.Stored other key flags block) op done was (answer_before is t h tells op done was))
  | inr new ↦ absurd (let never : entry.Answered op StoredReply ≡ entry.Stored other key flags block = new.1 in cc)
]
answer_before is told heard (Tells.removes {told = t} {heard = h} o side key tells) op done at =
    told_more is t h (entry.Removed o side key) op done (answer_before is t h tells op done at)
answer_before is told heard (Tells.removed {told = t} {heard = h} o side key tells) op done at = elim (at_last h (entry.Removed o side key) at) [
  | inl was ↦ heard_more is t h (entry.Removed o side key) op done was (answer_before is t h tells op done was)
  | inr new ↦ absurd (let never : entry.Answered op StoredReply ≡ entry.Removed o side key = new.1 in cc)
]
answer_before is told heard (Tells.knows {told = t} {heard = h} o reply tells) op done at =
    told_more is t h (entry.Answered o reply) op done (answer_before is t h tells op done at)
answer_before is told heard (Tells.answers {told = t} {heard = h} o reply tells has) op done at = elim (at_last h (entry.Answered o reply) at) [
  | inl was ↦ heard_more is t h (entry.Answered o reply) op done was (answer_before is t h tells op done was)
  | inr new ↦ before_last is t h op o reply done tells has new.0 new.1
]
answer_before is told heard (Tells.errs {told = t} {heard = h} o cause tells) op done at = elim (at_last h (entry.Answered o (ServerError cause)) at) [
  | inl was ↦ heard_more is t h (entry.Answered o (ServerError cause)) op done was (answer_before is t h tells op done was)
  | inr new ↦ absurd (let never : entry.Answered op StoredReply ≡ entry.Answered o (ServerError cause) = new.1 in cc)
]

-- where each answer STORED to an op stands behind so many of such values in the one, it does in the other
pub answer_told : (is : Picks) (told heard : List Entry) (op : OpId) (n : ℕ) → Tells told heard
    → ((place : ℕ) → At told place (entry.Answered op StoredReply) → n ≤ stored is (take place told))
    → (place : ℕ) → At heard place (entry.Answered op StoredReply) → n ≤ stored is (take place heard)
answer_told is told heard op n tells all place at =
    let b = answer_before is told heard tells op place at in
    let there = all b.place b.there in
    let below = b.before in
    omega arith

told_sets : (is : Picks) (first : ℕ) (told heard : List Entry) → Tells told heard → AnsweredSets is first told → AnsweredSets is first heard
told_sets is first told heard tells all = λ op key flags exptime block noreply issue done picks asked at. (
    let from = issue_told told heard tells op asked.proxy (request.Set key flags exptime block noreply) issue asked.there in
    answer_told is told heard op (first + 1) tells
    (λ place there. all op key flags exptime block noreply from.place place picks (record { proxy = asked.proxy; there = from.there }) there) done at)

-- in a fleet in which legs fail
fleet_sets : WorldLaws → (is : Picks) (setup : SetupView) (start last : WorldView) (events : List FleetEvent) → All (λ (proxy : ProxySetup). IsPlan proxy.routing proxy.schedule) setup.proxies
    → Begins setup start → FleetRun start events last → AnsweredSets is (stored is start.history) last.history
fleet_sets laws is setup start last events plans begins run =
    let beside = thin_run events start last start.history (λ number delivery there. absurd (at_nothing (subst (λ r. At r number delivery) begins.replies there))) (Tells.begins start.history) run in
    let proxies : map thin start.proxies ≡ start.proxies = ap (λ p. map thin p) begins.proxies ∙ thin_from 0 setup.proxies ∙ sym begins.proxies in
    let whole : thin_world start start.history ≡ start = ap (λ p. record start { proxies = p }) proxies in
    told_sets is (stored is start.history) beside.later last.history beside.tells
    (world_sets laws is setup start (thin_world last beside.later) beside.events plans begins (subst (λ w. WorldRun w beside.events (thin_world last beside.later)) whole beside.run))

-- in streams, a set that was answered with STORED was stored before its answer, beyond what was held at the beginning
pub set_stored : WorldLaws → RefinesWorld → (is : Picks) (setup : SetupView) (first last : StreamsView) (ticks : List Tick)
    → All (λ (proxy : ProxySetup). IsPlan proxy.routing proxy.schedule) setup.proxies → All HasText setup.held
    → Starts setup first → StreamsRun first ticks last → PremisesHold setup ticks
    → (op : OpId) (key : List ℕ) (flags : ℕ) (exptime : ℤ) (block : List ℕ) (noreply : Bool) (issue done : ℕ) → is key block ≡ true
    → IsIssued last.history op (request.Set key flags exptime block noreply) issue → At last.history done (entry.Answered op StoredReply)
    → stored is first.history + 1 ≤ stored is (take done last.history)
set_stored laws refines is setup first last ticks plans texts starts run premises =
    let start : WorldView = begun_world setup in
    let begins : Begins setup start = world_begins setup premises.same premises.new_empty in
    let reached = refines setup first last start ticks plans texts starts begins run in
    let same : start.history ≡ first.history = begins.history ∙ sym starts.history in
    let sets : AnsweredSets is (stored is start.history) reached.world.history = fleet_sets laws is setup start reached.world reached.happened plans begins reached.run in
    subst (λ h. AnsweredSets is (stored is h) last.history) same (told_sets is (stored is start.history) reached.world.history last.history reached.history sets)
