-- A fleet in which legs fail, beside the world: it gives a request up at the first leg of it that fails, and tells of no error.
use Rattle.std.proofs.Common.{◌≡◌, ℕ, ◌^◌, ◌-◌, ◌<◌, ◌≤◌, ◌==◌, inl, inr, Bool, true, false, not, List, [], ◌∷◌, ◌++◌, length, map, slice_set, remove, is_some, Option, Some, None, if◌then◌else◌, refl, sym, ap, ◌∙◌, subst, arith, append_assoc, nat_le, leb-true, le-leb}
use Rattle.std.specs.List.{filter}
use Rattle.std.specs.Option.{option_and_then}
use Rattle.std.proofs.lemmas.List.{append-nil, map-set, length-map}
use Rattle.mr_clock.specs.Readings.{Tick, readings_after}
use Rattle.mr_text.specs.declared.cause.Cause.{Cause}
use Rattle.mr_text.specs.declared.request.Request.{Request}
use Rattle.mr_text.specs.declared.request.Request.TheVariants as request
use Rattle.mr_history.specs.OpIds.{is_same_op}
use Rattle.mr_history.specs.Places.{At}
use Rattle.mr_history.specs.declared.entry.Author.TheVariants.{By}
use Rattle.mr_history.specs.declared.entry.Entry.{Entry}
use Rattle.mr_history.specs.declared.entry.Entry.TheVariants as entry
use Rattle.mr_history.specs.declared.op_id.OpId.{OpId}
use Rattle.mr_join.specs.declared.leg_reply.LegReply.{LegReply}
use Rattle.mr_join.specs.declared.leg_reply.LegReply.TheVariants as leg
use Rattle.mr_node.specs.Items.{NamedItem}
use Rattle.mr_node.specs.Output.{is_silent}
use Rattle.mr_node.specs.Recency.{RecencyStep, CacheView, hit_or_miss, live_item}
use Rattle.mr_node.specs.declared.command.NodeCommand.{NodeCommand}
use Rattle.mr_node.specs.declared.command.NodeCommand.TheVariants.{Get, Set, Delete}
use Rattle.mr_proxy.specs.Answer.{AnswerView, answer_of, reply_of}
use Rattle.mr_proxy.specs.Issue.{next_op, sheets_of, pending_of, refusal_of, after_issue}
use Rattle.mr_proxy.specs.Pending.{PendingView, is_complete, with_reply}
use Rattle.mr_proxy.specs.ProxyView.{ProxyView}
use Rattle.mr_proxy.specs.Slots.{is_failed}
use Rattle.mr_proxy.specs.Transitions.{place_of_op, pending_with, noted_by, settled, after_take, taken_by, taken_of, left_by, after_give_up, given_up_in, after_restart}
use Rattle.mr_proxy.specs.declared.error.ProxyError.TheVariants.{NoRoom, NumbersSpent}
use Rattle.mr_proxy.specs.declared.sheet.LegId.{LegId}
use Rattle.mr_proxy.specs.declared.sheet.LegSheet.{LegSheet}
use Rattle.mr_proxy.specs.declared.taken.Taken.{Taken}
use Rattle.mr_proxy.specs.declared.taken.Taken.TheVariants as taken
use Rattle.mr_world.specs.Premises.{ticks_in as world_ticks_in, ticks_of as world_ticks_of}
use Rattle.mr_world.specs.Positions.{node_number}
use Rattle.mr_world.specs.Steps.{WorldStep, WorldRun, Issues, ClientAsks, Delivers, Returns, GivesUp, message_of, performed, answered, answered_by, note_of}
use Rattle.mr_world.specs.WorldView.{WorldView}
use Rattle.mr_world.specs.declared.event.Event.{Event}
use Rattle.mr_world.specs.declared.event.Event.TheVariants.{Clock, Client, Deliver, Return, GiveUp, NodeRestart, ProxyRestart}
use Rattle.mr_world.specs.declared.message.Delivery.{Delivery}
use Rattle.mr_world.specs.declared.note.Note.{Note}
use Rattle.mr_world.specs.declared.note.Note.TheVariants as note
use Rattle.mr_streams.specs.Fleet.{FleetEvent, FleetStep, FleetRun, Fails, ticks_in, ticks_of}
use Rattle.mr_streams.specs.Refines.{Tells}
use Rattle.mr_streams.proofs.Asking.{client_asks}
use Rattle.mr_streams.proofs.Failing.{is_alive, refused_any, noted_is, opened_alive, tells_refused}
use Rattle.mr_streams.proofs.Firsts.{IsFirst, first_is, out_set, out_removed, kept_last, fewer}
use Rattle.mr_streams.proofs.Lists.{at_last, at_mapped, at_new, written_back}

-- a proxy without the requests a leg of which failed
abbrev pub thin : ProxyView → ProxyView
thin p = record p { outstanding = filter is_alive p.outstanding }

-- the world beside a fleet
abbrev pub thin_world : WorldView → List Entry → WorldView
thin_world f history = record f { proxies = map thin f.proxies; history = history }

-- nodes reply no errors in the world
abbrev pub RepliesFine : WorldView → Type 0
RepliesFine f = (number : ℕ) (delivery : Delivery) → At f.replies number delivery → is_failed delivery.reply ≡ false

-- the world beside a fleet runs on with it, and tells what it tells
pub record ThinRun (f f' : WorldView) (history : List Entry) (ticks : List Tick) : Type 0 where
  pub later : List Entry
  pub events : List Event
  pub run : WorldRun (thin_world f history) events (thin_world f' later)
  pub tells : Tells later f'.history
  pub ticks_are : world_ticks_of events ≡ ticks
  pub fine : RepliesFine f'

thin_to : (f f' f'' : WorldView) (history : List Entry) (ticks : List Tick) → f'' ≡ f' → ThinRun f f' history ticks → ThinRun f f'' history ticks
thin_to f f' f'' history ticks e h = subst (λ x. ThinRun f x history ticks) (sym e) h

-- nothing happens in the world
quiet_thin : (f : WorldView) (k : ℕ) (p p' : ProxyView) (history gains : List Entry) → At f.proxies k p → thin p' ≡ thin p → RepliesFine f → Tells history (f.history ++ gains)
    → ThinRun f (record f { proxies = slice_set f.proxies k p'; history = f.history ++ gains }) history []
quiet_thin f k p p' history gains there same fine tells =
    let proxies : map thin (slice_set f.proxies k p') ≡ map thin f.proxies =
    map-set thin f.proxies k p' ∙ ap (λ x. slice_set (map thin f.proxies) k x) same ∙ written_back (at_mapped thin there) in
    record {
      later = history;
      events = [];
      run = ap (λ x. record f { proxies = x; history = history }) proxies;
      tells = tells;
      ticks_are = refl;
      fine = fine;
    }

-- one event happens in the world
loud_thin : (f : WorldView) (k : ℕ) (p p' q : ProxyView) (history more gains : List Entry) (event : Event) (told : Note) → At f.proxies k p → thin p' ≡ q
    → WorldStep (thin_world f history) event told (record (thin_world f history) { proxies = slice_set (map thin f.proxies) k q; history = history ++ more })
    → world_ticks_in event ≡ [] → RepliesFine f → Tells (history ++ more) (f.history ++ gains)
    → ThinRun f (record f { proxies = slice_set f.proxies k p'; history = f.history ++ gains }) history []
loud_thin f k p p' q history more gains event told there same step quiet fine tells =
    let proxies : map thin (slice_set f.proxies k p') ≡ slice_set (map thin f.proxies) k q =
    map-set thin f.proxies k p' ∙ ap (λ x. slice_set (map thin f.proxies) k x) same in
    let middle : WorldView = record (thin_world f history) { proxies = slice_set (map thin f.proxies) k q; history = history ++ more } in
    record {
      later = history ++ more;
      events = event ∷ [];
      run = (middle, told, step, ap (λ x. record f { proxies = x; history = history ++ more }) proxies);
      tells = tells;
      ticks_are = append-nil (world_ticks_in event) ∙ quiet;
      fine = fine;
    }

-- answers in both histories, or in the first alone
tells_both_unless : (told heard : List Entry) (answer : AnswerView) (silent : Bool) → Tells told heard
    → Tells (told ++ (if silent then [] else entry.Answered answer.op (reply_of answer) ∷ [])) (heard ++ (if silent then [] else entry.Answered answer.op (reply_of answer) ∷ []))
tells_both_unless told heard answer true t = subst (λ x. Tells x (heard ++ [])) (sym (append-nil told)) (subst (λ x. Tells told x) (sym (append-nil heard)) t)
tells_both_unless told heard answer false t =
    Tells.answers answer.op (reply_of answer) (Tells.knows answer.op (reply_of answer) t)
    (record { place = length told; there = at_new told (entry.Answered answer.op (reply_of answer)) })

tells_both : (told heard : List Entry) (answer : AnswerView) → Tells told heard → Tells (told ++ answered answer) (heard ++ answered answer)
tells_both told heard answer t = tells_both_unless told heard answer (is_silent answer.request) t

tells_both_taken : (told heard : List Entry) (t : Taken) → Tells told heard → Tells (told ++ answered_by t) (heard ++ answered_by t)
tells_both_taken told heard taken.Waiting t = subst (λ x. Tells x (heard ++ [])) (sym (append-nil told)) (subst (λ x. Tells told x) (sym (append-nil heard)) t)
tells_both_taken told heard (taken.Answered answer) t = tells_both told heard answer t
tells_both_taken told heard (taken.Stranger reply) t = subst (λ x. Tells x (heard ++ [])) (sym (append-nil told)) (subst (λ x. Tells told x) (sym (append-nil heard)) t)

knows_unless : (told heard : List Entry) (answer : AnswerView) (silent : Bool) → Tells told heard
    → Tells (told ++ (if silent then [] else entry.Answered answer.op (reply_of answer) ∷ [])) heard
knows_unless told heard answer true t = subst (λ x. Tells x heard) (sym (append-nil told)) t
knows_unless told heard answer false t = Tells.knows answer.op (reply_of answer) t

knows_more : (told heard : List Entry) (answer : AnswerView) → Tells told heard → Tells (told ++ answered answer) heard
knows_more told heard answer t = knows_unless told heard answer (is_silent answer.request) t

tells_dead_if : (b : Bool) (told heard : List Entry) (noted : PendingView) → refused_any noted.slots ≡ true → Tells told heard
    → Tells told (heard ++ answered_by (if b then taken.Answered (answer_of noted false) else taken.Waiting))
tells_dead_if true told heard noted dead t = tells_refused told heard (answer_of noted false) dead t
tells_dead_if false told heard noted dead t = subst (λ x. Tells told x) (sym (append-nil heard)) t

-- a request a leg of which failed is told of nowhere
tells_dead : (told heard : List Entry) (noted : PendingView) (reply : LegReply) → refused_any noted.slots ≡ true → Tells told heard
    → Tells told (heard ++ answered_by (taken_by reply (Some noted)))
tells_dead told heard noted reply dead t = tells_dead_if (is_complete noted) told heard noted dead t

-- the request of an op that no leg failed of, first of its op
abbrev is_of : OpId → PendingView → Bool
is_of op pending = is_same_op pending.op op

first_of : (p : ProxyView) (op : OpId) (pending : PendingView) → pending_with p.outstanding op ≡ Some pending → refused_any pending.slots ≡ false → IsFirst (is_of op) is_alive p.outstanding pending
first_of p op pending e alive = first_is (is_of op) is_alive p.outstanding pending e (ap not alive)

-- such a request leaves both
left_alive : (p : ProxyView) (op : OpId) (pending : PendingView) → pending_with p.outstanding op ≡ Some pending → refused_any pending.slots ≡ false
    → thin (after_give_up p op) ≡ after_give_up (thin p) op
left_alive p op pending e alive =
    let f = first_of p op pending e alive in
    ap (λ o. thin (left_by p (place_of_op p.outstanding op) o)) e
    ∙ ap (λ x. record p { outstanding = x }) f.takes
    ∙ sym (ap (λ o. left_by (thin p) (place_of_op (filter is_alive p.outstanding) op) o) f.there)

left_dead : (p : ProxyView) (op : OpId) (pending : PendingView) → pending_with p.outstanding op ≡ Some pending → refused_any pending.slots ≡ true → thin (after_give_up p op) ≡ thin p
left_dead p op pending e dead =
    ap (λ o. thin (left_by p (place_of_op p.outstanding op) o)) e
    ∙ ap (λ x. record p { outstanding = x }) (out_removed is_alive p.outstanding (place_of_op p.outstanding op) pending e (ap not dead))

settled_alive_if : (b : Bool) (p : ProxyView) (k k' : ℕ) (noted : PendingView)
    → filter is_alive (remove p.outstanding k) ≡ remove (filter is_alive p.outstanding) k'
    → filter is_alive (slice_set p.outstanding k noted) ≡ slice_set (filter is_alive p.outstanding) k' noted
    → thin (if b then record p { outstanding = remove p.outstanding k } else record p { outstanding = slice_set p.outstanding k noted })
    ≡ (if b then record (thin p) { outstanding = remove (filter is_alive p.outstanding) k' } else record (thin p) { outstanding = slice_set (filter is_alive p.outstanding) k' noted })
settled_alive_if true p k k' noted removes sets = ap (λ x. record p { outstanding = x }) removes
settled_alive_if false p k k' noted removes sets = ap (λ x. record p { outstanding = x }) sets

-- a reply is noted in both
settled_alive : (p : ProxyView) (op : OpId) (pending noted : PendingView) → pending_with p.outstanding op ≡ Some pending → refused_any pending.slots ≡ false → refused_any noted.slots ≡ false
    → thin (settled p (place_of_op p.outstanding op) (Some noted)) ≡ settled (thin p) (place_of_op (filter is_alive p.outstanding) op) (Some noted)
settled_alive p op pending noted e alive still =
    let f = first_of p op pending e alive in
    settled_alive_if (is_complete noted) p (place_of_op p.outstanding op) (place_of_op (filter is_alive p.outstanding) op) noted f.takes (f.sets noted (ap not still))

settled_both_if : (b : Bool) (p : ProxyView) (k : ℕ) (noted : PendingView) (left : List PendingView) → filter is_alive (remove p.outstanding k) ≡ left → filter is_alive (slice_set p.outstanding k noted) ≡ left
    → thin (if b then record p { outstanding = remove p.outstanding k } else record p { outstanding = slice_set p.outstanding k noted }) ≡ record p { outstanding = left }
settled_both_if true p k noted left removes sets = ap (λ x. record p { outstanding = x }) removes
settled_both_if false p k noted left removes sets = ap (λ x. record p { outstanding = x }) sets

-- a reply is noted of a request of which a leg failed before
settled_dead : (p : ProxyView) (op : OpId) (pending noted : PendingView) → pending_with p.outstanding op ≡ Some pending → refused_any pending.slots ≡ true → refused_any noted.slots ≡ true
    → thin (settled p (place_of_op p.outstanding op) (Some noted)) ≡ thin p
settled_dead p op pending noted e dead still =
    let k : ℕ = place_of_op p.outstanding op in
    settled_both_if (is_complete noted) p k noted (filter is_alive p.outstanding) (out_removed is_alive p.outstanding k pending e (ap not dead))
    (out_set is_alive p.outstanding k pending noted e (ap not dead) (ap not still))

-- the first leg of a request fails
settled_fails : (p : ProxyView) (op : OpId) (pending noted : PendingView) → pending_with p.outstanding op ≡ Some pending → refused_any pending.slots ≡ false → refused_any noted.slots ≡ true
    → thin (settled p (place_of_op p.outstanding op) (Some noted)) ≡ after_give_up (thin p) op
settled_fails p op pending noted e alive fails =
    let f = first_of p op pending e alive in
    let k' : ℕ = place_of_op (filter is_alive p.outstanding) op in
    settled_both_if (is_complete noted) p (place_of_op p.outstanding op) noted (remove (filter is_alive p.outstanding) k') f.takes (f.sets_out noted (ap not fails))
    ∙ sym (ap (λ o. left_by (thin p) k' o) f.there)

-- the request leaves as it stands
thin_gives_up : (f f' : WorldView) (op : OpId) (told : Note) (history : List Entry) → RepliesFine f → Tells history f.history → GivesUp f op told f' → ThinRun f f' history []
thin_gives_up f f' op told history fine tells h = gives_by (pending_with h.proxy.outstanding op) refl
  where
    given : (pending : PendingView) → pending_with h.proxy.outstanding op ≡ Some pending → h.answer ≡ answer_of pending true
    given pending e = (let both : Some h.answer ≡ Some (answer_of pending true) = sym h.gives ∙ ap given_up_in e in cc)

    gives_if : (dead : Bool) (pending : PendingView) → pending_with h.proxy.outstanding op ≡ Some pending → refused_any pending.slots ≡ dead → ThinRun f f' history []
    gives_if true pending e dead = thin_to f _ f' history [] h.becomes
        (quiet_thin f op.proxy h.proxy (after_give_up h.proxy op) history (answered h.answer) h.home (left_dead h.proxy op pending e dead) fine
        (tells_refused history f.history h.answer (ap (λ (a : AnswerView). refused_any a.slots) (given pending e) ∙ dead) tells))
    gives_if false pending e alive = thin_to f _ f' history [] h.becomes
        (loud_thin f op.proxy h.proxy (after_give_up h.proxy op) (after_give_up (thin h.proxy) op) history (answered h.answer) (answered h.answer) (GiveUp op) told h.home
        (left_alive h.proxy op pending e alive)
        (record {
          proxy = thin h.proxy;
          answer = h.answer;
          home = at_mapped thin h.home;
          gives = ap given_up_in (first_of h.proxy op pending e alive).there ∙ ap (λ a. Some a) (sym (given pending e));
          tells = h.tells;
          becomes = refl;
        }) refl fine (tells_both history f.history h.answer tells))

    gives_by : (o : Option PendingView) → pending_with h.proxy.outstanding op ≡ o → ThinRun f f' history []
    gives_by None e = absurd (let both : None ≡ Some h.answer = sym (ap given_up_in e) ∙ h.gives in cc)
    gives_by (Some pending) e = gives_if (refused_any pending.slots) pending e refl

-- a reply that is noted nowhere changes nothing
none_thin : (f : WorldView) (k : ℕ) (p : ProxyView) (id : LegId) (reply : LegReply) (history : List Entry) → At f.proxies k p → RepliesFine f → Tells history f.history
    → noted_by p id reply ≡ None
    → ThinRun f (record f { proxies = slice_set f.proxies k (after_take p id reply); history = f.history ++ answered_by (taken_of p id reply) }) history []
none_thin f k p id reply history there fine tells e =
    let quiet : answered_by (taken_of p id reply) ≡ [] = ap (λ o. answered_by (taken_by reply o)) e in
    quiet_thin f k p (after_take p id reply) history (answered_by (taken_of p id reply)) there (ap (λ o. thin (settled p (place_of_op p.outstanding id.op) o)) e) fine
    (subst (λ x. Tells history x) (sym (ap (λ g. f.history ++ g) quiet ∙ append-nil f.history)) tells)

-- what is noted of a request of which a leg failed before, changes nothing in the world
dead_thin : (f : WorldView) (k : ℕ) (p : ProxyView) (id : LegId) (reply : LegReply) (pending noted : PendingView) (history : List Entry) → At f.proxies k p → RepliesFine f → Tells history f.history
    → pending_with p.outstanding id.op ≡ Some pending → noted_by p id reply ≡ Some noted → refused_any pending.slots ≡ true → refused_any noted.slots ≡ true
    → ThinRun f (record f { proxies = slice_set f.proxies k (after_take p id reply); history = f.history ++ answered_by (taken_of p id reply) }) history []
dead_thin f k p id reply pending noted history there fine tells e n dead still =
    quiet_thin f k p (after_take p id reply) history (answered_by (taken_of p id reply)) there
    (ap (λ o. thin (settled p (place_of_op p.outstanding id.op) o)) n ∙ settled_dead p id.op pending noted e dead still) fine
    (subst (λ o. Tells history (f.history ++ answered_by (taken_by reply o))) (sym n) (tells_dead history f.history noted reply still tells))

-- how the reply of a leg is noted, from its request
noted_from : (p : ProxyView) (id : LegId) (reply : LegReply) (pending : PendingView) → pending_with p.outstanding id.op ≡ Some pending → noted_by p id reply ≡ with_reply pending id.place reply
noted_from p id reply pending e = ap (λ o. option_and_then (λ (x : PendingView). with_reply x id.place reply) o) e

-- a fleet whose proxy of this number took this
abbrev taken_after : WorldView → ℕ → ProxyView → LegId → LegReply → WorldView
taken_after f k p id reply = record f { proxies = slice_set f.proxies k (after_take p id reply); history = f.history ++ answered_by (taken_of p id reply) }

-- the proxy takes a reply
thin_returns : (f f' : WorldView) (number : ℕ) (told : Note) (history : List Entry) → RepliesFine f → Tells history f.history → Returns f number told f' → ThinRun f f' history []
thin_returns f f' number told history fine tells h = thin_to f _ f' history [] h.becomes (by_pending (pending_with h.proxy.outstanding h.message.sheet.id.op) refl)
  where
    alive_thin : (pending noted : PendingView) → pending_with h.proxy.outstanding h.message.sheet.id.op ≡ Some pending → with_reply pending h.message.sheet.id.place h.reply ≡ Some noted → refused_any pending.slots ≡ false
        → ThinRun f (taken_after f h.sender h.proxy h.message.sheet.id h.reply) history []
    alive_thin pending noted e n alive =
        let p : ProxyView = h.proxy in
        let is = noted_is pending noted h.message.sheet.id.place h.reply n in
        let still : refused_any noted.slots ≡ false = is.stays (fine number (record { message = h.from; reply = h.reply }) h.came) ∙ alive in
        let in_fleet : noted_by p h.message.sheet.id h.reply ≡ Some noted = noted_from p h.message.sheet.id h.reply pending e ∙ n in
        let in_world : noted_by (thin p) h.message.sheet.id h.reply ≡ Some noted = noted_from (thin p) h.message.sheet.id h.reply pending (first_of p h.message.sheet.id.op pending e alive).there ∙ n in
        let same : thin (after_take p h.message.sheet.id h.reply) ≡ after_take (thin p) h.message.sheet.id h.reply =
        ap (λ o. thin (settled p (place_of_op p.outstanding h.message.sheet.id.op) o)) in_fleet ∙ settled_alive p h.message.sheet.id.op pending noted e alive still
        ∙ sym (ap (λ o. settled (thin p) (place_of_op (filter is_alive p.outstanding) h.message.sheet.id.op) o) in_world) in
        let taken_same : taken_of p h.message.sheet.id h.reply ≡ taken_of (thin p) h.message.sheet.id h.reply = ap (λ o. taken_by h.reply o) (in_fleet ∙ sym in_world) in
        let more : List Entry = answered_by (taken_of (thin p) h.message.sheet.id h.reply) in
        loud_thin f h.sender p (after_take p h.message.sheet.id h.reply) (after_take (thin p) h.message.sheet.id h.reply) history more (answered_by (taken_of p h.message.sheet.id h.reply)) (Return number)
        (note_of (taken_of (thin p) h.message.sheet.id h.reply)) h.home same
        (record {
          message = h.message;
          proxy = thin p;
          sender = h.sender;
          from = h.from;
          reply = h.reply;
          came = h.came;
          sent = h.sent;
          sends = h.sends;
          home = at_mapped thin h.home;
          tells = refl;
          becomes = refl;
        }) refl fine
        (subst (λ t. Tells (history ++ more) (f.history ++ answered_by t)) (sym taken_same) (tells_both_taken history f.history (taken_of (thin p) h.message.sheet.id h.reply) tells))

    by_dead : (dead : Bool) (pending noted : PendingView) → pending_with h.proxy.outstanding h.message.sheet.id.op ≡ Some pending → with_reply pending h.message.sheet.id.place h.reply ≡ Some noted → refused_any pending.slots ≡ dead
        → ThinRun f (taken_after f h.sender h.proxy h.message.sheet.id h.reply) history []
    by_dead true pending noted e n dead =
        let is = noted_is pending noted h.message.sheet.id.place h.reply n in
        dead_thin f h.sender h.proxy h.message.sheet.id h.reply pending noted history h.home fine tells e (noted_from h.proxy h.message.sheet.id h.reply pending e ∙ n) dead
        (is.stays (fine number (record { message = h.from; reply = h.reply }) h.came) ∙ dead)
    by_dead false pending noted e n alive = alive_thin pending noted e n alive

    by_noted : (o : Option PendingView) (pending : PendingView) → pending_with h.proxy.outstanding h.message.sheet.id.op ≡ Some pending → with_reply pending h.message.sheet.id.place h.reply ≡ o → ThinRun f (taken_after f h.sender h.proxy h.message.sheet.id h.reply) history []
    by_noted None pending e n = none_thin f h.sender h.proxy h.message.sheet.id h.reply history h.home fine tells (noted_from h.proxy h.message.sheet.id h.reply pending e ∙ n)
    by_noted (Some noted) pending e n = by_dead (refused_any pending.slots) pending noted e n refl

    by_pending : (o : Option PendingView) → pending_with h.proxy.outstanding h.message.sheet.id.op ≡ o → ThinRun f (taken_after f h.sender h.proxy h.message.sheet.id h.reply) history []
    by_pending None e =
        none_thin f h.sender h.proxy h.message.sheet.id h.reply history h.home fine tells (ap (λ o. option_and_then (λ (x : PendingView). with_reply x h.message.sheet.id.place h.reply) o) e)
    by_pending (Some pending) e = by_noted (with_reply pending h.message.sheet.id.place h.reply) pending e refl

-- a leg fails
thin_fails : (f f' : WorldView) (id : LegId) (cause : Cause) (history : List Entry) → RepliesFine f → Tells history f.history → Fails f id cause f' → ThinRun f f' history []
thin_fails f f' id cause history fine tells h = thin_to f _ f' history [] h.becomes (by_pending (pending_with h.proxy.outstanding id.op) refl)
  where
    by_dead : (dead : Bool) (pending noted : PendingView) → pending_with h.proxy.outstanding id.op ≡ Some pending → with_reply pending id.place (leg.Failed cause) ≡ Some noted → refused_any pending.slots ≡ dead
        → ThinRun f (taken_after f id.op.proxy h.proxy id (leg.Failed cause)) history []
    by_dead true pending noted e n dead =
        dead_thin f id.op.proxy h.proxy id (leg.Failed cause) pending noted history h.home fine tells e (noted_from h.proxy id (leg.Failed cause) pending e ∙ n) dead ((noted_is pending noted id.place (leg.Failed cause) n).fails refl)
    by_dead false pending noted e n alive =
        let p : ProxyView = h.proxy in
        let fails : refused_any noted.slots ≡ true = (noted_is pending noted id.place (leg.Failed cause) n).fails refl in
        let in_fleet : noted_by p id (leg.Failed cause) ≡ Some noted = noted_from p id (leg.Failed cause) pending e ∙ n in
        let answer : AnswerView = answer_of pending true in
        loud_thin f id.op.proxy p (after_take p id (leg.Failed cause)) (after_give_up (thin p) id.op) history (answered answer) (answered_by (taken_of p id (leg.Failed cause))) (GiveUp id.op) (note.Answered id.op) h.home
        (ap (λ o. thin (settled p (place_of_op p.outstanding id.op) o)) in_fleet ∙ settled_fails p id.op pending noted e alive fails)
        (record {
          proxy = thin p;
          answer = answer;
          home = at_mapped thin h.home;
          gives = ap given_up_in (first_of p id.op pending e alive).there;
          tells = refl;
          becomes = refl;
        }) refl fine
        (knows_more history (f.history ++ answered_by (taken_of p id (leg.Failed cause))) answer
        (subst (λ o. Tells history (f.history ++ answered_by (taken_by (leg.Failed cause) o))) (sym in_fleet) (tells_dead history f.history noted (leg.Failed cause) fails tells)))

    by_noted : (o : Option PendingView) (pending : PendingView) → pending_with h.proxy.outstanding id.op ≡ Some pending → with_reply pending id.place (leg.Failed cause) ≡ o → ThinRun f (taken_after f id.op.proxy h.proxy id (leg.Failed cause)) history []
    by_noted None pending e n = none_thin f id.op.proxy h.proxy id (leg.Failed cause) history h.home fine tells (noted_from h.proxy id (leg.Failed cause) pending e ∙ n)
    by_noted (Some noted) pending e n = by_dead (refused_any pending.slots) pending noted e n refl

    by_pending : (o : Option PendingView) → pending_with h.proxy.outstanding id.op ≡ o → ThinRun f (taken_after f id.op.proxy h.proxy id (leg.Failed cause)) history []
    by_pending None e =
        none_thin f id.op.proxy h.proxy id (leg.Failed cause) history h.home fine tells (ap (λ o. option_and_then (λ (x : PendingView). with_reply x id.place (leg.Failed cause)) o) e)
    by_pending (Some pending) e = by_noted (with_reply pending id.place (leg.Failed cause)) pending e refl

accepted_if : (b c d : Bool) → (d ≡ true → c ≡ true) → (if b then Some NumbersSpent else if c then Some NoRoom else None) ≡ None
    → (if b then Some NumbersSpent else if d then Some NoRoom else None) ≡ None
accepted_if true c d less e = absurd (let never : Some NumbersSpent ≡ None = e in cc)
accepted_if false true d less e = absurd (let never : Some NoRoom ≡ None = e in cc)
accepted_if false false true less e = absurd (let never : false ≡ true = less refl in cc)
accepted_if false false false less e = refl

-- with fewer requests under way there is room
accepted_thin : (p : ProxyView) → refusal_of p ≡ None → refusal_of (thin p) ≡ None
accepted_thin p e =
    accepted_if (p.next == 2 ^ 64 - 1) (nat_le p.room (length p.outstanding)) (nat_le p.room (length (filter is_alive p.outstanding)))
    (λ less. (
    let below : p.room ≤ length (filter is_alive p.outstanding) = leb-true p.room (length (filter is_alive p.outstanding)) less in
    let fewer_kept = fewer is_alive p.outstanding in
    le-leb p.room (length p.outstanding) (omega arith))) e

issued_thin : (p : ProxyView) (reading : ℕ) (asked : Request) → thin (after_issue p reading asked) ≡ after_issue (thin p) reading asked
issued_thin p reading asked =
    let new : PendingView = pending_of p reading asked in
    ap (λ x. record (after_issue p reading asked) { outstanding = x }) (kept_last is_alive p.outstanding new (ap not (opened_alive (sheets_of p reading asked))))

-- one event, after which the thin fleet is this
one_thin : (f f' : WorldView) (history later : List Entry) (middle : WorldView) (event : Event) (told : Note) (ticks : List Tick) → WorldStep (thin_world f history) event told middle
    → thin_world f' later ≡ middle → world_ticks_in event ≡ ticks → RepliesFine f' → Tells later f'.history → ThinRun f f' history ticks
one_thin f f' history later middle event told ticks step same quiet fine tells = record {
  later = later;
  events = event ∷ [];
  run = (middle, told, step, same);
  tells = tells;
  ticks_are = append-nil (world_ticks_in event) ∙ quiet;
  fine = fine;
}

thin_issues : (f f' : WorldView) (number : ℕ) (asked : Request) (told : Note) (history : List Entry) → RepliesFine f → Tells history f.history → Issues f number asked told f' → ThinRun f f' history []
thin_issues f f' number asked told history fine tells h =
    let p : ProxyView = h.proxy in
    let new : ProxyView = after_issue p h.reading asked in
    let gains : List Entry = entry.Issued (next_op p) number asked ∷ [] in
    let sent = f.sent ++ map (message_of f.nodes p.routing) (sheets_of p h.reading asked) in
    let after_it : WorldView = record f { proxies = slice_set f.proxies number new; sent = sent; history = f.history ++ gains } in
    let middle : WorldView = record (thin_world f history) { proxies = slice_set (map thin f.proxies) number (after_issue (thin p) h.reading asked); sent = sent; history = history ++ gains } in
    thin_to f after_it f' history [] h.becomes
    (one_thin f after_it history (history ++ gains) middle (Client number asked) told []
    (client_asks (thin_world f history) number asked told middle h.has_legs (record {
      proxy = thin p;
      reading = h.reading;
      home = at_mapped thin h.home;
      clock = h.clock;
      has_legs = h.has_legs;
      accepted = accepted_thin p h.accepted;
      tells = h.tells;
      becomes = refl;
    }))
    (ap (λ x. record f { proxies = x; sent = sent; history = history ++ gains })
    (map-set thin f.proxies number new ∙ ap (λ x. slice_set (map thin f.proxies) number x) (issued_thin p h.reading asked)))
    refl fine (Tells.issues (next_op p) number asked tells))

thin_asks : (f f' : WorldView) (number : ℕ) (asked : Request) (told : Note) (history : List Entry) → RepliesFine f → Tells history f.history → ClientAsks f number asked told f' → ThinRun f f' history []
thin_asks f f' number (request.Get keys) told history fine tells h = thin_issues f f' number (request.Get keys) told history fine tells h
thin_asks f f' number (request.Set key flags exptime block noreply) told history fine tells h = thin_issues f f' number (request.Set key flags exptime block noreply) told history fine tells h
thin_asks f f' number (request.Delete key noreply) told history fine tells h = thin_issues f f' number (request.Delete key noreply) told history fine tells h
thin_asks f f' number request.Quit told history fine tells h = thin_to f f f' history [] h.becomes (record {
  later = history;
  events = [];
  run = refl;
  tells = tells;
  ticks_are = refl;
  fine = fine;
})

tells_performed : (told heard : List Entry) (sheet : LegSheet) (command : NodeCommand) → Tells told heard → Tells (told ++ performed sheet command) (heard ++ performed sheet command)
tells_performed told heard sheet (Get key) t = subst (λ x. Tells x (heard ++ [])) (sym (append-nil told)) (subst (λ x. Tells told x) (sym (append-nil heard)) t)
tells_performed told heard sheet (Set key flags exptime block) t = Tells.stores (By sheet.id.op) (By sheet.id.op) key flags block t
tells_performed told heard sheet (Delete key) t = Tells.removed sheet.id.op sheet.side key (Tells.removes sheet.id.op sheet.side key t)

hit_fine : (o : Option NamedItem) → is_failed (hit_or_miss o) ≡ false
hit_fine None = refl
hit_fine (Some named) = refl

deleted_fine : (b : Bool) → is_failed (if b then leg.Deleted else leg.NotFound) ≡ false
deleted_fine true = refl
deleted_fine false = refl

-- a node's reply is no error
performed_fine : (old new : CacheView) (now : ℕ) (command : NodeCommand) (reply : LegReply) → RecencyStep old now command reply new → is_failed reply ≡ false
performed_fine old new now (Get key) reply step = ap is_failed step.answers ∙ hit_fine (live_item now key old.items)
performed_fine old new now (Set key flags exptime block) reply step = ap is_failed step.answers
performed_fine old new now (Delete key) reply step = ap is_failed step.answers ∙ deleted_fine (is_some (live_item now key old.items))

thin_delivers : (f f' : WorldView) (number now : ℕ) (told : Note) (history : List Entry) → RepliesFine f → Tells history f.history → Delivers f number now told f' → ThinRun f f' history []
thin_delivers f f' number now told history fine tells h =
    let delivery : Delivery = record { message = number; reply = h.reply } in
    let gains : List Entry = performed h.message.sheet h.message.sheet.command in
    let nodes = slice_set f.nodes h.message.node (record { name = h.node.name; cache = h.left }) in
    let after_it : WorldView = record f { nodes = nodes; replies = f.replies ++ delivery ∷ []; history = f.history ++ gains } in
    let middle : WorldView = record (thin_world f history) { nodes = nodes; replies = f.replies ++ delivery ∷ []; history = history ++ gains } in
    let reply : is_failed h.reply ≡ false = performed_fine h.node.cache h.left now h.message.sheet.command h.reply h.step in
    thin_to f after_it f' history [] h.becomes
    (one_thin f after_it history (history ++ gains) middle (Deliver number now) told []
    (record { message = h.message; node = h.node; reply = h.reply; left = h.left; sent = h.sent; there = h.there; step = h.step; tells = h.tells; becomes = refl })
    refl refl
    (λ k d at. elim (at_last f.replies delivery at) [ inl old ↦ fine k d old | inr last ↦ ap (λ (x : Delivery). is_failed x.reply) last.1 ∙ reply ])
    (tells_performed history f.history h.message.sheet h.message.sheet.command tells))

pub thin_step : (event : FleetEvent) (f f' : WorldView) (history : List Entry) → RepliesFine f → Tells history f.history → FleetStep f event f' → ThinRun f f' history (ticks_in event)
thin_step (FleetEvent.Happens (Clock proxy reading)) f f' history fine tells (told, h) =
    let readings = readings_after f.readings (record { proxy = proxy; reading = reading }) in
    let after_it : WorldView = record f { readings = readings } in
    thin_to f after_it f' history _ h.becomes
    (one_thin f after_it history history (record (thin_world f history) { readings = readings }) (Clock proxy reading) told _
    (record { home = subst (λ n. proxy < n) (sym (length-map f.proxies thin)) h.home; tells = h.tells; becomes = refl }) refl refl fine tells)
thin_step (FleetEvent.Happens (Client proxy asked)) f f' history fine tells (told, h) = thin_asks f f' proxy asked told history fine tells h
thin_step (FleetEvent.Happens (Deliver message now)) f f' history fine tells (told, h) = thin_delivers f f' message now told history fine tells h
thin_step (FleetEvent.Happens (Return reply)) f f' history fine tells (told, h) = thin_returns f f' reply told history fine tells h
thin_step (FleetEvent.Happens (GiveUp op)) f f' history fine tells (told, h) = thin_gives_up f f' op told history fine tells h
thin_step (FleetEvent.Happens (NodeRestart name)) f f' history fine tells (told, h) =
    let nodes = slice_set f.nodes (node_number f.nodes name) (record { name = h.node.name; cache = record h.node.cache { items = [] } }) in
    let after_it : WorldView = record f { nodes = nodes } in
    thin_to f after_it f' history [] h.becomes
    (one_thin f after_it history history (record (thin_world f history) { nodes = nodes }) (NodeRestart name) told []
    (record { node = h.node; there = h.there; tells = h.tells; becomes = refl }) refl refl fine tells)
thin_step (FleetEvent.Happens (ProxyRestart proxy)) f f' history fine tells (told, h) =
    let new : ProxyView = after_restart h.proxy in
    let after_it : WorldView = record f { proxies = slice_set f.proxies proxy new } in
    thin_to f after_it f' history [] h.becomes
    (one_thin f after_it history history (record (thin_world f history) { proxies = slice_set (map thin f.proxies) proxy (after_restart (thin h.proxy)) }) (ProxyRestart proxy) told []
    (record { proxy = thin h.proxy; home = at_mapped thin h.home; not_last = h.not_last; tells = h.tells; becomes = refl })
    (ap (λ x. record f { proxies = x; history = history }) (map-set thin f.proxies proxy new)) refl fine tells)
thin_step (FleetEvent.LegFails id cause) f f' history fine tells h = thin_fails f f' id cause history fine tells h

world_run_append : (es fs : List Event) (a b c : WorldView) → WorldRun a es b → WorldRun b fs c → WorldRun a (es ++ fs) c
world_run_append [] fs a b c h k = subst (λ x. WorldRun x fs c) h k
world_run_append (e ∷ es) fs a b c h k = (h.0, h.1, h.2, world_run_append es fs h.0 b c h.3 k)

world_ticks_append : (es fs : List Event) → world_ticks_of (es ++ fs) ≡ world_ticks_of es ++ world_ticks_of fs
world_ticks_append [] fs = refl
world_ticks_append (e ∷ es) fs = ap (λ t. world_ticks_in e ++ t) (world_ticks_append es fs) ∙ sym (append_assoc (world_ticks_in e) (world_ticks_of es) (world_ticks_of fs))

-- for each run of a fleet in which legs fail there is a run of the world that tells all that it tells but errors
pub thin_run : (events : List FleetEvent) (f f' : WorldView) (history : List Entry) → RepliesFine f → Tells history f.history → FleetRun f events f' → ThinRun f f' history (ticks_of events)
thin_run [] f f' history fine tells h = thin_to f f f' history [] h (record { later = history; events = []; run = refl; tells = tells; ticks_are = refl; fine = fine })
thin_run (event ∷ events) f f' history fine tells h =
    let first = thin_step event f h.0 history fine tells h.1 in
    let next = thin_run events h.0 f' first.later first.fine first.tells h.2 in
    record {
      later = next.later;
      events = first.events ++ next.events;
      run = world_run_append first.events next.events (thin_world f history) (thin_world h.0 first.later) (thin_world f' next.later) first.run next.run;
      tells = next.tells;
      ticks_are = world_ticks_append first.events next.events ∙ ap (λ t. t ++ world_ticks_of next.events) first.ticks_are ∙ ap (λ t. ticks_in event ++ t) next.ticks_are;
      fine = next.fine;
    }
