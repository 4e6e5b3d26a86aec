-- Each step keeps what every fleet shows.
use Rattle.std.proofs.Common.{◌≡◌, ℕ, ◌<◌, ◌≤◌, ◌==◌, ◌&&◌, ◌⊎◌, inl, inr, Bool, true, false, List, [], ◌∷◌, ◌++◌, length, map, remove, slice_get, slice_set, ℤ, All, Contains, Option, Some, None, if◌then◌else◌, refl, sym, ap, subst, ◌∙◌, arith}
use Rattle.std.specs.Option.{option_and_then}
use Rattle.std.proofs.lemmas.Bool.{cases_order, eqb-true}
use Rattle.std.proofs.lemmas.List.{append-nil}
use Rattle.std.proofs.lemmas.Option.{slice_get_read, get_or_from_slice_get}
use Rattle.mr_text.specs.declared.item.Item.{Item}
use Rattle.mr_text.specs.declared.request.Request.{Request}
use Rattle.mr_text.specs.declared.request.Request.TheVariants as request
use Rattle.mr_text.specs.declared.reply.Reply.TheVariants.{Items}
use Rattle.mr_history.specs.declared.op_id.OpId.{OpId}
use Rattle.mr_history.specs.declared.entry.Author.TheVariants.{By}
use Rattle.mr_history.specs.declared.entry.Entry.{Entry}
use Rattle.mr_history.specs.declared.entry.Entry.TheVariants.{Issued, Stored, Removed, Answered}
use Rattle.mr_history.specs.History.{IsIssued, WasIssued, IsAcknowledged, IsWellFormed}
use Rattle.mr_history.specs.Places.{At}
use Rattle.mr_join.specs.declared.leg_reply.LegReply.{LegReply}
use Rattle.mr_join.specs.declared.leg_reply.LegReply.TheVariants.{Hit}
use Rattle.mr_join.specs.Join.{Acknowledges}
use Rattle.mr_node.specs.declared.command.NodeCommand.{NodeCommand}
use Rattle.mr_node.specs.declared.command.NodeCommand.TheVariants as command
use Rattle.mr_phases.specs.declared.side.Side.{Side}
use Rattle.mr_phases.specs.Schedule.{Hop}
use Rattle.mr_pools.specs.Routing.{RoutingView}
use Rattle.mr_proxy.specs.declared.sheet.LegId.{LegId}
use Rattle.mr_proxy.specs.declared.sheet.LegSheet.{LegSheet}
use Rattle.mr_proxy.specs.declared.slot.Slot.{Slot}
use Rattle.mr_proxy.specs.declared.taken.Taken.TheVariants as taken
use Rattle.mr_proxy.specs.Slots.{is_awaiting, open_slot}
use Rattle.mr_history.specs.OpIds.{is_same_op}
use Rattle.mr_proxy.specs.Pending.{PendingView, is_complete, with_reply, with_reply_in}
use Rattle.mr_proxy.specs.Answer.{AnswerView, answer_of, reply_of}
use Rattle.mr_proxy.specs.Issue.{next_op, used_reading, sheets_of, pending_of, after_issue}
use Rattle.mr_proxy.specs.Sheets.{commands_of}
use Rattle.mr_proxy.specs.Sheets.{sheets_by}
use Rattle.mr_proxy.specs.ProxyView.{ProxyView}
use Rattle.mr_proxy.specs.Sheets.{IsSheetOf}
use Rattle.mr_proxy.specs.Whole.{IsWholeAnswer}
use Rattle.mr_proxy.specs.Sound.{IsSound, IsSoundPending, IsSoundAnswer, HasFound, WasDeleted, sheet_of}
use Rattle.mr_proxy.specs.Transitions.{place_of_op, pending_with, noted_by, settled, after_take, taken_by, taken_of, left_by, after_give_up, given_up_in, given_up_of, after_restart}
use Rattle.mr_world.specs.declared.event.Event.{Event}
use Rattle.mr_world.specs.declared.event.Event.TheVariants.{Clock, Client, Deliver, Return, GiveUp, NodeRestart, ProxyRestart}
use Rattle.mr_world.specs.declared.message.Message.{Message}
use Rattle.mr_world.specs.declared.message.Delivery.{Delivery}
use Rattle.mr_world.specs.declared.note.Note.{Note}
use Rattle.mr_world.specs.Facts.{IsRemovedBetween, WasSet, WasDelete, CameBack, WasFound, Facts, IsTold, IsSlotOf, IsUnderWay, IsFaithful}
use Rattle.mr_world.specs.declared.setup.HeldItem.{HeldItem}
use Rattle.mr_world.specs.Lists.{Has}
use Rattle.mr_world.specs.Setup.{SetupView, held_entry, Begins}
use Rattle.mr_world.specs.Steps.{message_of, performed, answered, answered_by, Issues, ClientAsks, Delivers, Returns, GivesUp, Restarts, WorldStep}
use Rattle.mr_world.specs.Tracked.{IsTracked, IsWaiting}
use Rattle.mr_world.specs.WorldView.{WorldView}
use Rattle.mr_world.proofs.Lists.{test_holds, at_within, at_one, at_left, at_before, at_cases, at_last, at_new, at_take, at_taken, at_none, at_set, has_left, has_right, has_cases, has_head, has_one, has_none, has_map, has_mapped, has_set, has_kept, has_written, has_removed, get_mapped}
use Rattle.mr_world.proofs.StartLemmas.{proxy_from}
use Rattle.mr_world.proofs.TrackedLemmas.{no_answer_performed, answered_one}

-- what grows

issued_left : {H : List Entry} {op : OpId} {q : Request} {i : ℕ} (K : List Entry) → IsIssued H op q i → IsIssued (H ++ K) op q i
issued_left K issued = record { proxy = issued.proxy; there = at_left K issued.there }

told_left : {H : List Entry} {m : Message} (K : List Entry) → IsTold H m → IsTold (H ++ K) m
told_left K t = record { request = t.request; place = t.place; issued = issued_left K t.issued; command = t.command }

came_replies : {S : List Message} {R : List Delivery} {m : Message} {r : LegReply} (U : List Delivery) → CameBack S R m r → CameBack S (R ++ U) m r
came_replies U c = record { number = c.number; from = c.from; came = at_left U c.came; was_sent = c.was_sent }

came_sent : {S : List Message} {R : List Delivery} {m : Message} {r : LegReply} (T : List Message) → CameBack S R m r → CameBack (S ++ T) R m r
came_sent T c = record { number = c.number; from = c.from; came = c.came; was_sent = at_left T c.was_sent }

removed_left : {H : List Entry} {op : OpId} {side : Side} {key : List ℕ} {i j : ℕ} (K : List Entry) → IsRemovedBetween H op side key i j → IsRemovedBetween (H ++ K) op side key i j
removed_left K r = record { place = r.place; there = at_left K r.there; after = r.after; before = r.before }

was_set_left : {H : List Entry} {op : OpId} {key : List ℕ} {flags : ℕ} {block : List ℕ} (K : List Entry) → WasSet H op key flags block → WasSet (H ++ K) op key flags block
was_set_left K s = record { exptime = s.exptime; noreply = s.noreply; place = s.place; issued = issued_left K s.issued }

was_delete_left : {H : List Entry} {op : OpId} {key : List ℕ} (K : List Entry) → WasDelete H op key → WasDelete (H ++ K) op key
was_delete_left K s = record { noreply = s.noreply; place = s.place; issued = issued_left K s.issued }

slot_replies : {S : List Message} {R : List Delivery} {s : Slot} (U : List Delivery) → IsSlotOf S R s → IsSlotOf S (R ++ U) s
slot_replies U s = record { message = s.message; has = s.has; sheet = s.sheet; noted = λ reply is. came_replies U (s.noted reply is) }

slot_sent : {S : List Message} {R : List Delivery} {s : Slot} (T : List Message) → IsSlotOf S R s → IsSlotOf (S ++ T) R s
slot_sent T s = record { message = s.message; has = has_left T s.has; sheet = s.sheet; noted = λ reply is. came_sent T (s.noted reply is) }

under_way_left : {S : List Message} {R : List Delivery} {H : List Entry} {e : PendingView} (U : List Delivery) (K : List Entry) → IsUnderWay S R H e → IsUnderWay S (R ++ U) (H ++ K) e
under_way_left U K u = record { place = u.place; issued = issued_left K u.issued; named = u.named; slots = λ s has. slot_replies U (u.slots s has); every = u.every }

under_way_history : {S : List Message} {R : List Delivery} {H : List Entry} {e : PendingView} (K : List Entry) → IsUnderWay S R H e → IsUnderWay S R (H ++ K) e
under_way_history K u = record { place = u.place; issued = issued_left K u.issued; named = u.named; slots = u.slots; every = u.every }

grow_under_way : {S : List Message} {R : List Delivery} {H : List Entry} {e : PendingView} (T : List Message) (K : List Entry) → IsUnderWay S R H e
    → ((m : Message) → Has T m → m.sheet.id.op ≡ e.op → ⊥) → IsUnderWay (S ++ T) R (H ++ K) e
grow_under_way {S = S} T K u none = record {
  place = u.place;
  issued = issued_left K u.issued;
  named = u.named;
  slots = λ s has. slot_sent T (u.slots s has);
  every = λ m has same. elim (has_cases S T has) [ inl old ↦ u.every m old same | inr new ↦ absurd (none m new same) ];
}

found_replies : {S : List Message} {R : List Delivery} {get : OpId} {item : Item} (U : List Delivery) → WasFound S R get item → WasFound S (R ++ U) get item
found_replies U f = record { message = f.message; of_get = f.of_get; asked = f.asked; came = came_replies U f.came }

found_sent : {S : List Message} {R : List Delivery} {get : OpId} {item : Item} (T : List Message) → WasFound S R get item → WasFound (S ++ T) R get item
found_sent T f = record { message = f.message; of_get = f.of_get; asked = f.asked; came = came_sent T f.came }

-- a history in order

was_issued : {H : List Entry} {op : OpId} {q : Request} {i : ℕ} → IsIssued H op q i → WasIssued H op
was_issued {q = q} {i = i} issued = record { place = i; request = q; issued = issued }

pub issue_before : {H : List Entry} {op : OpId} {p q : Request} {i j : ℕ} → IsWellFormed H → IsIssued H op p i → IsIssued H op q j → i < j → ⊥
issue_before {H = H} {p = p} {i = i} {j = j} formed a b less =
    (formed.fits j _ b.there).1 (record { place = i; request = p; issued = record { proxy = a.proxy; there = at_take j H less a.there } })

pub issued_place : {H : List Entry} {op : OpId} {p q : Request} {i j : ℕ} → IsWellFormed H → IsIssued H op p i → IsIssued H op q j → i ≡ j
issued_place {i = i} {j = j} formed a b =
    elim (cases_order i j) [
      | inl same ↦ same
      | inr apart ↦ elim apart [ inl less ↦ absurd (issue_before formed a b less) | inr less ↦ absurd (issue_before formed b a less) ]
    ]

same_request : {op : OpId} {x y : ℕ} {p q : Request} → Issued op x p ≡ Issued op y q → p ≡ q
same_request e = cc

issued_once : {H : List Entry} {op : OpId} {p q : Request} {i j : ℕ} → IsWellFormed H → IsIssued H op p i → IsIssued H op q j → p ≡ q
issued_once {H = H} {op = op} {p = p} {q = q} {i = i} {j = j} formed a b =
    let same = issued_place formed a b in
    same_request (at_one (subst (λ k. At H k (Issued op a.proxy p)) same a.there) b.there)

removed_after : {H : List Entry} {op : OpId} {side : Side} {key : List ℕ} {q : Request} {i j : ℕ} → IsWellFormed H → At H j (Removed op side key) → IsIssued H op q i → i < j
removed_after {H = H} {op = op} {q = q} {i = i} {j = j} formed at issued =
    let was = formed.fits j _ at in
    let (below, there) = at_taken j H was.issued.there in
    let first : IsIssued H op was.request was.place = record { proxy = was.issued.proxy; there = there } in
    let same = issued_place formed issued first in
    omega arith

pub answered_after : {H : List Entry} {op : OpId} {reply : _} {q : Request} {i j : ℕ} → IsWellFormed H → At H j (Answered op reply) → IsIssued H op q i → i < j
answered_after {H = H} {op = op} {q = q} {i = i} {j = j} formed at issued =
    let was = (formed.fits j _ at).0 in
    let (below, there) = at_taken j H was.issued.there in
    let first : IsIssued H op was.request was.place = record { proxy = was.issued.proxy; there = there } in
    let same = issued_place formed issued first in
    omega arith

-- an acknowledgement of a history that grew is an old one, or its answer is new
ack_cases : {H : List Entry} (K : List Entry) {d : OpId} {key : List ℕ} {i j : ℕ} → IsWellFormed (H ++ K) → (a : IsAcknowledged (H ++ K) d key i j)
    → (IsAcknowledged H d key i j) ⊎ ((length H ≤ j) × Has K (Answered d a.reply))
ack_cases {H = H} K {i = i} {j = j} formed a =
    elim (at_cases H K a.answered) [
      | inl old ↦
          let first : i < j = answered_after formed a.answered a.issued in
          let below = at_within old in
          inl (record {
            noreply = a.noreply;
            reply = a.reply;
            issued = record { proxy = a.issued.proxy; there = at_before H K a.issued.there (omega arith) };
            answered = old;
            acknowledges = a.acknowledges;
          })
      | inr new ↦ inr new
    ]

-- a command tells the request that it is of

pub contains_has : {X : Type 0} (xs : List X) (x : X) → Contains xs x → Has xs x
contains_has xs x c = record { place = c.0; there = record { gets = slice_get_read xs (length xs) (c.0) x refl (c.1) (sym (c.2)) } }

set_told : (q : Request) (key : List ℕ) (flags : ℕ) (exptime : ℤ) (block : List ℕ) → Has (commands_of q) (command.Set key flags exptime block)
    → (noreply : Bool) × (q ≡ request.Set key flags exptime block noreply)
set_told (request.Get keys) key flags exptime block h = let (x, has, is) = has_map command.Get keys h in cc
set_told (request.Set key' flags' exptime' block' noreply) key flags exptime block h = let e = has_one h in (noreply, cc)
set_told (request.Delete key' noreply) key flags exptime block h = let e = has_one h in cc
set_told request.Quit key flags exptime block h = has_none h

delete_told : (q : Request) (key : List ℕ) → Has (commands_of q) (command.Delete key) → (noreply : Bool) × (q ≡ request.Delete key noreply)
delete_told (request.Get keys) key h = let (x, has, is) = has_map command.Get keys h in cc
delete_told (request.Set key' flags' exptime' block' noreply) key h = let e = has_one h in cc
delete_told (request.Delete key' noreply) key h = let e = has_one h in (noreply, cc)
delete_told request.Quit key h = has_none h

stored_performed : (sheet : LegSheet) (c : NodeCommand) (op : OpId) (key : List ℕ) (flags : ℕ) (block : List ℕ) → Has (performed sheet c) (Stored (By op) key flags block)
    → (exptime : ℤ) × (c ≡ command.Set key flags exptime block) × (op ≡ sheet.id.op)
stored_performed sheet (command.Get k) op key flags block h = has_none h
stored_performed sheet (command.Set k f e b) op key flags block h = let is = has_one h in (e, cc, cc)
stored_performed sheet (command.Delete k) op key flags block h = let is = has_one h in cc

removed_performed : (sheet : LegSheet) (c : NodeCommand) (op : OpId) (side : Side) (key : List ℕ) → Has (performed sheet c) (Removed op side key)
    → (c ≡ command.Delete key) × (op ≡ sheet.id.op)
removed_performed sheet (command.Get k) op side key h = has_none h
removed_performed sheet (command.Set k f e b) op side key h = let is = has_one h in cc
removed_performed sheet (command.Delete k) op side key h = let is = has_one h in (cc, cc)

-- a delivery

pub delivers_faithful : (w : WorldView) (n now : ℕ) (note : Note) (new : WorldView) → Delivers w n now note new → IsWellFormed new.history
    → IsFaithful w.proxies w.sent w.replies w.history → IsFaithful new.proxies new.sent new.replies new.history
delivers_faithful w n now note new step formed' f =
    let m = step.message in
    let K = performed m.sheet m.sheet.command in
    let H = w.history in
    let delivery : Delivery = record { message = n; reply = step.reply } in
    let U = delivery ∷ [] in
    let formed : IsWellFormed (H ++ K) = subst (λ (x : WorldView). IsWellFormed x.history) step.becomes formed' in
    let told = f.told m (record { place = n; there = step.sent }) in
    subst (λ (x : WorldView). IsFaithful x.proxies x.sent x.replies x.history) (sym step.becomes) (record {
      told = λ message has. told_left K (f.told message has);
      removed = λ message reply key c is.
          elim (at_last w.replies delivery c.came) [
            | inl old ↦ has_left K (f.removed message reply key (record { number = c.number; from = c.from; came = old; was_sent = c.was_sent }) is)
            | inr fresh ↦
                let from : c.from ≡ n = ap (λ (x : Delivery). x.message) (fresh.1) in
                let same : message ≡ m = at_one (subst (λ k. At w.sent k message) from c.was_sent) step.sent in
                let there : m.sheet.command ≡ command.Delete key = ap (λ (x : Message). x.sheet.command) (sym same) ∙ is in
                let new_entry : Has K (Removed m.sheet.id.op m.sheet.side key) =
                subst (λ x. Has (performed m.sheet x) (Removed m.sheet.id.op m.sheet.side key)) (sym there) (has_head (Removed m.sheet.id.op m.sheet.side key) []) in
                subst (λ (x : Message). Has (H ++ K) (Removed x.sheet.id.op x.sheet.side key)) (sym same) (has_right H new_entry)
          ];
      waiting = λ pending waits. under_way_left U K (f.waiting pending waits);
      deletes = λ delete key issue done message a has of.
          elim (ack_cases K formed a) [
            | inl old ↦ removed_left K (f.deletes delete key issue done message old has of)
            | inr fresh ↦ absurd (no_answer_performed m.sheet m.sheet.command delete a.reply (fresh.1))
          ];
      sets = λ op key flags block place at.
          elim (at_cases H K at) [
            | inl old ↦ was_set_left K (f.sets op key flags block place old)
            | inr fresh ↦
                let (exptime, is, same) = stored_performed m.sheet m.sheet.command op key flags block (fresh.1) in
                let (noreply, request_is) = set_told told.request key flags exptime block
                (subst (Has (commands_of told.request)) is (contains_has (commands_of told.request) m.sheet.command told.command)) in
                subst (λ x. WasSet (H ++ K) x key flags block) (sym same) (was_set_left K (record {
                  exptime = exptime;
                  noreply = noreply;
                  place = told.place;
                  issued = subst (λ (q : Request). IsIssued H m.sheet.id.op q told.place) request_is told.issued;
                }))
          ];
      removals = λ op side key place at.
          elim (at_cases H K at) [
            | inl old ↦ was_delete_left K (f.removals op side key place old)
            | inr fresh ↦
                let (is, same) = removed_performed m.sheet m.sheet.command op side key (fresh.1) in
                let (noreply, request_is) = delete_told told.request key
                (subst (Has (commands_of told.request)) is (contains_has (commands_of told.request) m.sheet.command told.command)) in
                subst (λ x. WasDelete (H ++ K) x key) (sym same) (was_delete_left K (record {
                  noreply = noreply;
                  place = told.place;
                  issued = subst (λ (q : Request). IsIssued H m.sheet.id.op q told.place) request_is told.issued;
                }))
          ];
      hits = λ get items item answer at has.
          elim (at_cases H K at) [
            | inl old ↦ found_replies U (f.hits get items item answer old has)
            | inr fresh ↦ absurd (no_answer_performed m.sheet m.sheet.command get (Items items) (fresh.1))
          ];
    })

-- an issue

module _ (says : (routing : RoutingView) (hops : List Hop) (op : OpId) (u : ℕ) (q : Request) (place : ℕ) (sheet : LegSheet)
    → slice_get (sheets_by routing hops op u q) place ≡ Some sheet → IsSheetOf routing hops op u q place sheet) where
  issues_faithful : (w : WorldView) (n : ℕ) (q : Request) (note : Note) (new : WorldView) → Issues w n q note new → IsWellFormed new.history → IsTracked w
      → IsFaithful w.proxies w.sent w.replies w.history → IsFaithful new.proxies new.sent new.replies new.history
  issues_faithful w n q note new step formed' t f =
      let p = step.proxy in
      let u = step.reading in
      let op = next_op p in
      let sheets = sheets_of p u q in
      let f_message = message_of w.nodes p.routing in
      let T = map f_message sheets in
      let H = w.history in
      let S = w.sent in
      let K = Issued op n q ∷ [] in
      let formed : IsWellFormed (H ++ K) = subst (λ (x : WorldView). IsWellFormed x.history) step.becomes formed' in
      let issued : IsIssued (H ++ K) op q (length H) = record { proxy = n; there = at_new H (Issued op n q) } in
      let fresh : WasIssued H op → ⊥ = λ was.
      issue_before formed (issued_left K was.issued) issued (at_within was.issued.there) in
      let not_old : (m : Message) → Has S m → m.sheet.id.op ≡ op → ⊥ = λ m has same.
      fresh (subst (WasIssued H) same (was_issued (f.told m has).issued)) in
      let sent_by : (m : Message) → Has T m → (sheet : LegSheet) × Has sheets sheet × (m ≡ f_message sheet) = λ m has. has_map f_message sheets has in
      let named : (sheet : LegSheet) → Has sheets sheet → sheet.id.op ≡ op = λ sheet h.
      ap (λ (id : LegId). id.op) (says p.routing p.schedule op (used_reading p.last u) q h.place sheet h.there.gets).named in
      let came_old : (m : Message) (r : LegReply) → CameBack (S ++ T) w.replies m r → CameBack S w.replies m r = λ m r c.
      record { number = c.number; from = c.from; came = c.came; was_sent = at_before S T c.was_sent (t.replies c.number (record { message = c.from; reply = r }) c.came) } in
      let no_answer : (d : OpId) (reply : _) → Has K (Answered d reply) → ⊥ = λ d reply h. (let e = has_one h in cc) in
      subst (λ (x : WorldView). IsFaithful x.proxies x.sent x.replies x.history) (sym step.becomes) (record {
        told = λ m has. elim (has_cases S T has) [
          | inl old ↦ told_left K (f.told m old)
          | inr new ↦
              let (sheet, h, is) = sent_by m new in
              let by = says p.routing p.schedule op (used_reading p.last u) q h.place sheet h.there.gets in
              subst (IsTold (H ++ K)) (sym is) (record {
                request = q;
                place = length H;
                issued = subst (λ x. IsIssued (H ++ K) x q (length H)) (sym (named sheet h)) issued;
                command = by.command;
              })
        ];
        removed = λ m reply key c is. has_left K (f.removed m reply key (came_old m reply c) is);
        waiting = λ pending waits. elim (at_set w.proxies n (after_issue p u q) waits.home) [
          | inl here ↦
              elim (at_last p.outstanding (pending_of p u q) (subst (λ (x : ProxyView). At x.outstanding waits.place pending) (here.1) waits.there)) [
                | inl old ↦ grow_under_way T K (f.waiting pending (record { number = n; proxy = p; place = waits.place; home = step.home; there = old }))
                    (λ m has same.
                    let (sheet, h, is) = sent_by m has in
                    let way = f.waiting pending (record { number = n; proxy = p; place = waits.place; home = step.home; there = old }) in
                    fresh (subst (WasIssued H) (sym same ∙ ap (λ (x : Message). x.sheet.id.op) is ∙ named sheet h) (was_issued way.issued)))
                | inr new ↦
                    subst (IsUnderWay (S ++ T) w.replies (H ++ K)) (sym (new.1)) (record {
                      place = length H;
                      issued = issued;
                      named = λ s h. (let (sheet, h', is) = has_map open_slot sheets h in ap (λ (y : Slot). y.sheet.id.op) is ∙ named sheet h');
                      slots = λ s h.
                          let (sheet, h', is) = has_map open_slot sheets h in
                          record {
                            message = f_message sheet;
                            has = has_right S (has_mapped f_message sheets h');
                            sheet = ap (λ (x : Slot). x.sheet) (sym is);
                            noted = λ reply e. (let none = ap (λ (x : Slot). x.reply) is in cc);
                          };
                      every = λ m has same. elim (has_cases S T has) [
                        | inl old ↦ absurd (not_old m old same)
                        | inr fresh' ↦
                            let (sheet, h, is) = sent_by m fresh' in
                            record { slot = open_slot sheet; has = has_mapped open_slot sheets h; sheet = ap (λ (x : Message). x.sheet) (sym is) }
                      ];
                    })
              ]
          | inr there ↦
              let way = f.waiting pending (record { number = waits.number; proxy = waits.proxy; place = waits.place; home = there.1; there = waits.there }) in
              grow_under_way T K way
              (λ m has same.
              let (sheet, h, is) = sent_by m has in
              fresh (subst (WasIssued H) (sym same ∙ ap (λ (x : Message). x.sheet.id.op) is ∙ named sheet h) (was_issued way.issued)))
        ];
        deletes = λ delete key issue done m a has of. elim (ack_cases K formed a) [
          | inl old ↦ elim (has_cases S T has) [
            | inl before ↦ removed_left K (f.deletes delete key issue done m old before of)
            | inr new ↦
                let (sheet, h, is) = sent_by m new in
                absurd (fresh (subst (WasIssued H) (sym of ∙ ap (λ (x : Message). x.sheet.id.op) is ∙ named sheet h) (was_issued old.issued)))
          ]
          | inr new ↦ absurd (no_answer delete a.reply (new.1))
        ];
        sets = λ other key flags block place at. elim (at_last H (Issued op n q) at) [
          | inl old ↦ was_set_left K (f.sets other key flags block place old)
          | inr new ↦ let e = new.1 in cc
        ];
        removals = λ other side key place at. elim (at_last H (Issued op n q) at) [
          | inl old ↦ was_delete_left K (f.removals other side key place old)
          | inr new ↦ let e = new.1 in cc
        ];
        hits = λ get items item answer at has. elim (at_last H (Issued op n q) at) [
          | inl old ↦ found_sent T (f.hits get items item answer old has)
          | inr new ↦ let e = new.1 in cc
        ];
      })

-- what becomes of a request under way that takes a reply

both : (a b : Bool) → (a && b) ≡ true → (a ≡ true) × (b ≡ true)
both true b e = (refl, e)
both false b e = cc

same_op : (a b : OpId) → is_same_op a b ≡ true → a ≡ b
same_op a b e =
    let outer = both ((a.proxy == b.proxy) && (a.incarnation == b.incarnation)) (a.number == b.number) e in
    let inner = both (a.proxy == b.proxy) (a.incarnation == b.incarnation) (outer.0) in
    let proxy = eqb-true a.proxy b.proxy (inner.0) in
    let incarnation = eqb-true a.incarnation b.incarnation (inner.1) in
    let number = eqb-true a.number b.number (outer.1) in
    ap (λ x. record { proxy = x; incarnation = a.incarnation; number = a.number }) proxy
    ∙ ap (λ y. record { proxy = b.proxy; incarnation = y; number = a.number }) incarnation
    ∙ ap (λ z. record { proxy = b.proxy; incarnation = b.incarnation; number = z }) number

-- the request with the reply noted
record TookReply (p : ProxyView) (id : LegId) (reply : LegReply) (x : PendingView) : Type 0 where
  pub pending : PendingView
  pub index : ℕ
  pub there : At p.outstanding index pending
  pub named : pending.op ≡ id.op
  pub slot : Slot
  pub slot_there : At pending.slots id.place slot
  pub is : x ≡ record pending { slots = slice_set pending.slots id.place (record { sheet = slot.sheet; reply = Some reply }) }

took_if : (p : ProxyView) (id : LegId) (reply : LegReply) (x pending : PendingView) (at : ℕ) (slot : Slot) (b : Bool) → At p.outstanding at pending → pending.op ≡ id.op
    → At pending.slots id.place slot
    → (if b then Some (record pending { slots = slice_set pending.slots id.place (record { sheet = slot.sheet; reply = Some reply }) }) else None) ≡ Some x → TookReply p id reply x
took_if p id reply x pending at slot true there named slot_there e =
    record { pending = pending; index = at; there = there; named = named; slot = slot; slot_there = slot_there; is = (let same : record pending { slots = slice_set pending.slots id.place (record { sheet = slot.sheet; reply = Some reply }) } ≡ x = cc in sym same) }
took_if p id reply x pending at slot false there named slot_there e = cc

took_slot : (p : ProxyView) (id : LegId) (reply : LegReply) (x pending : PendingView) (at : ℕ) (o : Option Slot) → At p.outstanding at pending → pending.op ≡ id.op
    → slice_get pending.slots id.place ≡ o → with_reply_in pending id.place reply o ≡ Some x → TookReply p id reply x
took_slot p id reply x pending at None there named got e = cc
took_slot p id reply x pending at (Some slot) there named got e = took_if p id reply x pending at slot (is_awaiting slot reply) there named (record { gets = got }) e

took_in : (p : ProxyView) (id : LegId) (reply : LegReply) (x : PendingView) (o : Option PendingView) → pending_with p.outstanding id.op ≡ o
    → option_and_then (λ pending. with_reply pending id.place reply) o ≡ Some x → TookReply p id reply x
took_in p id reply x None got e = cc
took_in p id reply x (Some pending) got e =
    let passes = test_holds (λ (y : PendingView). is_same_op y.op id.op) p.outstanding pending got in
    took_slot p id reply x pending (place_of_op p.outstanding id.op) (slice_get pending.slots id.place) (record { gets = got }) (same_op pending.op id.op passes) refl e

took_reply : (p : ProxyView) (id : LegId) (reply : LegReply) (x : PendingView) → noted_by p id reply ≡ Some x → TookReply p id reply x
took_reply p id reply x e = took_in p id reply x (pending_with p.outstanding id.op) refl e

-- what is under way afterwards was under way before, or took the reply
after_if : (p : ProxyView) (place : ℕ) (noted x : PendingView) (b : Bool)
    → Has (if b then record p { outstanding = remove p.outstanding place } else record p { outstanding = slice_set p.outstanding place noted }).outstanding x
    → (Has p.outstanding x) ⊎ (x ≡ noted)
after_if p place noted x true h = inl (has_removed p.outstanding place h)
after_if p place noted x false h = elim (has_set p.outstanding place noted h) [ inl new ↦ inr new | inr old ↦ inl old ]

after_settled : (p : ProxyView) (id : LegId) (reply : LegReply) (x : PendingView) (o : Option PendingView) → noted_by p id reply ≡ o
    → Has (settled p (place_of_op p.outstanding id.op) o).outstanding x → (Has p.outstanding x) ⊎ TookReply p id reply x
after_settled p id reply x None is h = inl h
after_settled p id reply x (Some noted) is h =
    elim (after_if p (place_of_op p.outstanding id.op) noted x (is_complete noted) h) [
      | inl old ↦ inl old
      | inr new ↦ inr (took_reply p id reply x (is ∙ ap Some (sym new)))
    ]

-- the answer is that of the request that took the reply
answer_if : (noted : PendingView) (answer : AnswerView) (b : Bool) → (if b then taken.Answered (answer_of noted false) else taken.Waiting) ≡ taken.Answered answer
    → answer ≡ answer_of noted false
answer_if noted answer true e = let same : answer_of noted false ≡ answer = cc in sym same
answer_if noted answer false e = cc

answer_settled : (p : ProxyView) (id : LegId) (reply : LegReply) (answer : AnswerView) (o : Option PendingView) → noted_by p id reply ≡ o → taken_by reply o ≡ taken.Answered answer
    → (x : PendingView) × TookReply p id reply x × (answer ≡ answer_of x false)
answer_settled p id reply answer None is e = cc
answer_settled p id reply answer (Some noted) is e = (noted, took_reply p id reply noted is, answer_if noted answer (is_complete noted) e)

given_answer : (p : ProxyView) (at : ℕ) (answer : AnswerView) (o : Option PendingView) → slice_get p.outstanding at ≡ o → given_up_in o ≡ Some answer
    → (x : PendingView) × At p.outstanding at x × (answer ≡ answer_of x true)
given_answer p at answer None got e = cc
given_answer p at answer (Some pending) got e = (pending, record { gets = got }, (let same : answer_of pending true ≡ answer = cc in sym same))

after_left : (p : ProxyView) (at : ℕ) (x : PendingView) (o : Option PendingView) → Has (left_by p at o).outstanding x → Has p.outstanding x
after_left p at x None h = h
after_left p at x (Some pending) h = has_removed p.outstanding at h

module _ (says : (routing : RoutingView) (hops : List Hop) (op : OpId) (u : ℕ) (q : Request) (place : ℕ) (sheet : LegSheet)
    → slice_get (sheets_by routing hops op u q) place ≡ Some sheet → IsSheetOf routing hops op u q place sheet) where
  -- the slot of a place has the sheet of that place
  slot_named : (p : ProxyView) (e : PendingView) (k : ℕ) (s : Slot) → IsSoundPending p e → At e.slots k s → s.sheet.id.place ≡ k
  slot_named p e k s sound at =
      let there : slice_get (sheets_by p.routing p.schedule e.op e.reading e.request) k ≡ Some s.sheet =
      ap (λ l. slice_get l k) (sym sound.sheets) ∙ get_mapped sheet_of e.slots k s at.gets in
      ap (λ (id : LegId). id.place) (says p.routing p.schedule e.op e.reading e.request k s.sheet there).named

  -- the request that took a message's reply is under way
  took_under_way : (p : ProxyView) (S : List Message) (R : List Delivery) (H : List Entry) (m : Message) (reply : LegReply) (x : PendingView)
      → (took : TookReply p m.sheet.id reply x) → IsSoundPending p took.pending → IsUnderWay S R H took.pending → Has S m → CameBack S R m reply → IsUnderWay S R H x
  took_under_way p S R H m reply x took sound way has came =
      let e = took.pending in
      let id = m.sheet.id in
      let mine = way.every m has (sym took.named) in
      let place : mine.has.place ≡ id.place = sym (slot_named p e mine.has.place mine.slot sound mine.has.there) ∙ ap (λ (s : LegSheet). s.id.place) mine.sheet in
      let same : mine.slot ≡ took.slot = at_one (subst (λ k. At e.slots k mine.slot) place mine.has.there) took.slot_there in
      let sheet : m.sheet ≡ took.slot.sheet = sym mine.sheet ∙ ap (λ (s : Slot). s.sheet) same in
      let noted : Slot = record { sheet = took.slot.sheet; reply = Some reply } in
      subst (IsUnderWay S R H) (sym took.is) (record {
        place = way.place;
        issued = way.issued;
        named = λ s h. elim (has_set e.slots id.place noted h) [
          | inl new ↦ ap (λ (y : Slot). y.sheet.id.op) new ∙ way.named took.slot (record { place = id.place; there = took.slot_there })
          | inr old ↦ way.named s old
        ];
        slots = λ s h. elim (has_set e.slots id.place noted h) [
          | inl new ↦ subst (IsSlotOf S R) (sym new) (record {
            message = m;
            has = has;
            sheet = sheet;
            noted = λ other is. (let equal : reply ≡ other = cc in subst (CameBack S R m) equal came);
          })
          | inr old ↦ way.slots s old
        ];
        every = λ other h of.
            let slot = way.every other h of in
            elim (has_kept e.slots id.place noted took.slot_there slot.has) [
              | inl gone ↦ record { slot = noted; has = has_written e.slots id.place noted took.slot_there; sheet = ap (λ (s : Slot). s.sheet) (sym gone) ∙ slot.sheet }
              | inr kept ↦ record { slot = slot.slot; has = kept; sheet = slot.sheet }
            ];
      })

-- a request that is answered

record AnswerLaws : Type 0 where
  pub acknowledged : (answer : AnswerView) (key : List ℕ) (noreply : Bool) → IsWholeAnswer answer → answer.request ≡ request.Delete key noreply → Acknowledges (reply_of answer) → All WasDeleted answer.slots
  pub found : (answer : AnswerView) (items : List Item) → IsWholeAnswer answer → reply_of answer ≡ Items items → All (HasFound answer.slots) items

all_has : {X : Type 0} (P : X → Type 0) (xs : List X) (x : X) → All P xs → Has xs x → P x
all_has P xs x all h = subst P (get_or_from_slice_get xs h.place x x h.there.gets) (all h.place x (at_within h.there))

same_reply : {a b : OpId} {r s : _} → Answered a r ≡ Answered b s → (a ≡ b) × (r ≡ s)
same_reply e = (cc, cc)

answer_faithful : AnswerLaws → (P : List ProxyView) (S : List Message) (R : List Delivery) (H : List Entry) (x : PendingView) (answer : AnswerView) (b : Bool) → answer ≡ answer_of x b
    → IsWholeAnswer answer → IsWellFormed (H ++ answered answer) → IsUnderWay S R H x → IsFaithful P S R H
    → ((pending : PendingView) → IsWaiting P pending → IsUnderWay S R H pending) → IsFaithful P S R (H ++ answered answer)
answer_faithful L P S R H x answer b is whole formed way f waiting =
    let K = answered answer in
    record {
      told = λ m has. told_left K (f.told m has);
      removed = λ m reply key c command. has_left K (f.removed m reply key c command);
      waiting = λ pending waits. under_way_history K (waiting pending waits);
      deletes = λ delete key issue done m a has of. elim (ack_cases K formed a) [
        | inl old ↦ removed_left K (f.deletes delete key issue done m old has of)
        | inr new ↦
            let e = same_reply (answered_one answer (Answered delete a.reply) (new.1)) in
            let op : delete ≡ x.op = e.0 ∙ ap (λ (y : AnswerView). y.op) is in
            let own : IsIssued (H ++ K) delete x.request way.place = subst (λ o. IsIssued (H ++ K) o x.request way.place) (sym op) (issued_left K way.issued) in
            let asked : x.request ≡ request.Delete key a.noreply = issued_once formed own a.issued in
            let place : way.place ≡ issue = issued_place formed own a.issued in
            let gone = L.acknowledged answer key a.noreply whole (ap (λ (y : AnswerView). y.request) is ∙ asked) (subst Acknowledges (e.1) a.acknowledges) in
            let slot = way.every m has (of ∙ op) in
            let slots : x.slots ≡ answer.slots = sym (ap (λ (y : AnswerView). y.slots) is) in
            let deleted = all_has WasDeleted answer.slots slot.slot gone (subst (λ l. Has l slot.slot) slots slot.has) in
            let its = way.slots slot.slot slot.has in
            let told = f.told m has in
            let first : IsIssued (H ++ K) delete told.request told.place = subst (λ o. IsIssued (H ++ K) o told.request told.place) of (issued_left K told.issued) in
            let asked' : told.request ≡ request.Delete key a.noreply = issued_once formed first a.issued in
            let command_is : m.sheet.command ≡ command.Delete key =
            has_one (subst (λ (q : Request). Has (commands_of q) m.sheet.command) asked' (contains_has (commands_of told.request) m.sheet.command told.command)) in
            let same_sheet : its.message.sheet ≡ m.sheet = its.sheet ∙ slot.sheet in
            let there = f.removed its.message deleted.reply key (its.noted deleted.reply deleted.noted) (ap (λ (s : LegSheet). s.command) same_sheet ∙ command_is) in
            let there' : Has H (Removed m.sheet.id.op m.sheet.side key) = subst (λ (s : LegSheet). Has H (Removed s.id.op s.side key)) same_sheet there in
            let there'' : Has H (Removed delete m.sheet.side key) = subst (λ o. Has H (Removed o m.sheet.side key)) of there' in
            let below = at_within there''.there in
            let later = removed_after formed (at_left K there''.there) own in
            record { place = there''.place; there = at_left K there''.there; after = (let p = place in omega arith); before = (let past = new.0 in omega arith) }
      ];
      sets = λ op key flags block place at. elim (at_cases H K at) [
        | inl old ↦ was_set_left K (f.sets op key flags block place old)
        | inr new ↦ let e = answered_one answer _ (new.1) in cc
      ];
      removals = λ op side key place at. elim (at_cases H K at) [
        | inl old ↦ was_delete_left K (f.removals op side key place old)
        | inr new ↦ let e = answered_one answer _ (new.1) in cc
      ];
      hits = λ get items item at_answer at has. elim (at_cases H K at) [
        | inl old ↦ f.hits get items item at_answer old has
        | inr new ↦
            let e = same_reply (answered_one answer (Answered get (Items items)) (new.1)) in
            let op : x.op ≡ get = sym (e.0 ∙ ap (λ (y : AnswerView). y.op) is) in
            let found = all_has (HasFound answer.slots) items item (L.found answer items whole (sym (e.1))) has in
            let slots : answer.slots ≡ x.slots = ap (λ (y : AnswerView). y.slots) is in
            let has_slot : Has x.slots found.slot = record { place = found.place; there = record { gets = ap (λ l. slice_get l found.place) (sym slots) ∙ found.there } } in
            let its = way.slots found.slot has_slot in
            record {
              message = its.message;
              of_get = ap (λ (s : LegSheet). s.id.op) its.sheet ∙ way.named found.slot has_slot ∙ op;
              asked = ap (λ (s : LegSheet). s.command) its.sheet ∙ found.command;
              came = its.noted (Hit item.flags item.block) found.hit;
            }
      ];
    }

-- each event

-- the laws of the layers below
pub record FactLaws : Type 0 where
  pub says : (routing : RoutingView) (hops : List Hop) (op : OpId) (u : ℕ) (q : Request) (place : ℕ) (sheet : LegSheet)
      → slice_get (sheets_by routing hops op u q) place ≡ Some sheet → IsSheetOf routing hops op u q place sheet
  pub last_reply : (p : ProxyView) (id : LegId) (reply : LegReply) (answer : AnswerView) → IsSound p → taken_of p id reply ≡ taken.Answered answer → IsSoundAnswer p answer
  pub given_up : (p : ProxyView) (op : OpId) (answer : AnswerView) → IsSound p → given_up_of p op ≡ Some answer → IsSoundAnswer p answer
  pub acknowledged : (answer : AnswerView) (key : List ℕ) (noreply : Bool) → IsWholeAnswer answer → answer.request ≡ request.Delete key noreply → Acknowledges (reply_of answer)
      → All WasDeleted answer.slots
  pub found : (answer : AnswerView) (items : List Item) → IsWholeAnswer answer → reply_of answer ≡ Items items → All (HasFound answer.slots) items

sound_pending : (p : ProxyView) (e : PendingView) → IsSound p → Has p.outstanding e → IsSoundPending p e
sound_pending p e s h = all_has (IsSoundPending p) p.outstanding e s.pendings h

-- the requests of one proxy change
under_way_set : (P : List ProxyView) (n : ℕ) (p q : ProxyView) (U : PendingView → Type 0) → At P n p → ((pending : PendingView) → IsWaiting P pending → U pending)
    → ((pending : PendingView) → Has q.outstanding pending → U pending) → (pending : PendingView) → IsWaiting (slice_set P n q) pending → U pending
under_way_set P n p q U home old mine pending w =
    elim (at_set P n q w.home) [
      | inl e ↦ mine pending (record { place = w.place; there = subst (λ (x : ProxyView). At x.outstanding w.place pending) (e.1) w.there })
      | inr e ↦ old pending (record { number = w.number; proxy = w.proxy; place = w.place; home = e.1; there = w.there })
    ]

-- the state stays but for the requests of a proxy
same_but_proxies : (P Q : List ProxyView) (S : List Message) (R : List Delivery) (H : List Entry) → IsFaithful P S R H
    → ((pending : PendingView) → IsWaiting Q pending → IsUnderWay S R H pending) → IsFaithful Q S R H
same_but_proxies P Q S R H f waiting =
    record { told = f.told; removed = f.removed; waiting = waiting; deletes = f.deletes; sets = f.sets; removals = f.removals; hits = f.hits }

module _ (L : FactLaws) where
  took_faithful : (P Q : List ProxyView) (p : ProxyView) (S : List Message) (R : List Delivery) (H : List Entry) (id : LegId) (reply : LegReply) (t : _) → taken_of p id reply ≡ t
      → IsSound p → IsWellFormed (H ++ answered_by t) → IsFaithful P S R H
      → ((pending : PendingView) → IsWaiting Q pending → IsUnderWay S R H pending)
      → ((x : PendingView) → TookReply p id reply x → IsUnderWay S R H x) → IsFaithful Q S R (H ++ answered_by t)
  took_faithful P Q p S R H id reply taken.Waiting is sound formed f waiting took =
      subst (IsFaithful Q S R) (sym (append-nil H)) (same_but_proxies P Q S R H f waiting)
  took_faithful P Q p S R H id reply (taken.Stranger back) is sound formed f waiting took =
      subst (IsFaithful Q S R) (sym (append-nil H)) (same_but_proxies P Q S R H f waiting)
  took_faithful P Q p S R H id reply (taken.Answered answer) is sound formed f waiting took =
      let (x, mine, equal) = answer_settled p id reply answer (noted_by p id reply) refl is in
      let whole = (L.last_reply p id reply answer sound is).whole in
      answer_faithful (record { acknowledged = L.acknowledged; found = L.found }) Q S R H x answer false equal whole formed (took x mine)
      (same_but_proxies P Q S R H f waiting) waiting

  returns_faithful : (w : WorldView) (n : ℕ) (note : Note) (new : WorldView) → Returns w n note new → IsWellFormed new.history → IsTracked w
      → IsFaithful w.proxies w.sent w.replies w.history → IsFaithful new.proxies new.sent new.replies new.history
  returns_faithful w n note new step formed' t f =
      let p = step.proxy in
      let m = step.message in
      let id = m.sheet.id in
      let after = after_take p id step.reply in
      let sound = (t.proxies step.sender p step.home).sound in
      let formed : IsWellFormed (w.history ++ answered_by (taken_of p id step.reply)) = subst (λ (x : WorldView). IsWellFormed x.history) step.becomes formed' in
      let has : Has w.sent m = record { place = step.from; there = step.sent } in
      let came : CameBack w.sent w.replies m step.reply = record { number = n; from = step.from; came = step.came; was_sent = step.sent } in
      let mine : (e : PendingView) → Has p.outstanding e → IsUnderWay w.sent w.replies w.history e = λ e h.
      f.waiting e (record { number = step.sender; proxy = p; place = h.place; home = step.home; there = h.there }) in
      let took : (x : PendingView) → TookReply p id step.reply x → IsUnderWay w.sent w.replies w.history x = λ x k.
      took_under_way L.says p w.sent w.replies w.history m step.reply x k (sound_pending p k.pending sound (record { place = k.index; there = k.there }))
      (mine k.pending (record { place = k.index; there = k.there })) has came in
      subst (λ (x : WorldView). IsFaithful x.proxies x.sent x.replies x.history) (sym step.becomes)
      (took_faithful w.proxies (slice_set w.proxies step.sender after) p w.sent w.replies w.history id step.reply (taken_of p id step.reply) refl sound formed f
      (under_way_set w.proxies step.sender p after (IsUnderWay w.sent w.replies w.history) step.home f.waiting
      (λ e h. elim (after_settled p id step.reply e (noted_by p id step.reply) refl h) [ inl old ↦ mine e old | inr k ↦ took e k ]))
      took)

  gives_up_faithful : (w : WorldView) (op : OpId) (note : Note) (new : WorldView) → GivesUp w op note new → IsWellFormed new.history → IsTracked w
      → IsFaithful w.proxies w.sent w.replies w.history → IsFaithful new.proxies new.sent new.replies new.history
  gives_up_faithful w op note new step formed' t f =
      let p = step.proxy in
      let after = after_give_up p op in
      let sound = (t.proxies op.proxy p step.home).sound in
      let formed : IsWellFormed (w.history ++ answered step.answer) = subst (λ (x : WorldView). IsWellFormed x.history) step.becomes formed' in
      let mine : (e : PendingView) → Has p.outstanding e → IsUnderWay w.sent w.replies w.history e = λ e h.
      f.waiting e (record { number = op.proxy; proxy = p; place = h.place; home = step.home; there = h.there }) in
      let (x, there, equal) = given_answer p (place_of_op p.outstanding op) step.answer (pending_with p.outstanding op) refl step.gives in
      let waiting = under_way_set w.proxies op.proxy p after (IsUnderWay w.sent w.replies w.history) step.home f.waiting
      (λ e h. mine e (after_left p (place_of_op p.outstanding op) e (pending_with p.outstanding op) h)) in
      subst (λ (x : WorldView). IsFaithful x.proxies x.sent x.replies x.history) (sym step.becomes)
      (answer_faithful (record { acknowledged = L.acknowledged; found = L.found }) (slice_set w.proxies op.proxy after) w.sent w.replies w.history x step.answer true equal
      (L.given_up p op step.answer sound step.gives).whole formed (mine x (record { place = place_of_op p.outstanding op; there = there }))
      (same_but_proxies w.proxies (slice_set w.proxies op.proxy after) w.sent w.replies w.history f waiting) waiting)

  restarts_faithful : (w : WorldView) (n : ℕ) (note : Note) (new : WorldView) → Restarts w n note new → IsFaithful w.proxies w.sent w.replies w.history
      → IsFaithful new.proxies new.sent new.replies new.history
  restarts_faithful w n note new step f =
      let after = after_restart step.proxy in
      subst (λ (x : WorldView). IsFaithful x.proxies x.sent x.replies x.history) (sym step.becomes)
      (same_but_proxies w.proxies (slice_set w.proxies n after) w.sent w.replies w.history f
      (under_way_set w.proxies n step.proxy after (IsUnderWay w.sent w.replies w.history) step.home f.waiting (λ e h. has_none h)))

  asks_faithful : (w : WorldView) (n : ℕ) (q : Request) (note : Note) (new : WorldView) → ClientAsks w n q note new → IsWellFormed new.history → IsTracked w
      → IsFaithful w.proxies w.sent w.replies w.history → IsFaithful new.proxies new.sent new.replies new.history
  asks_faithful w n (request.Get keys) note new step formed t f = issues_faithful L.says w n (request.Get keys) note new step formed t f
  asks_faithful w n (request.Set key flags exptime block noreply) note new step formed t f =
      issues_faithful L.says w n (request.Set key flags exptime block noreply) note new step formed t f
  asks_faithful w n (request.Delete key noreply) note new step formed t f = issues_faithful L.says w n (request.Delete key noreply) note new step formed t f
  asks_faithful w n request.Quit note new step formed t f = subst (λ (x : WorldView). IsFaithful x.proxies x.sent x.replies x.history) (sym step.becomes) f

  pub step_faithful : (w : WorldView) (event : Event) (note : Note) (new : WorldView) → WorldStep w event note new → IsWellFormed new.history → IsTracked w
      → IsFaithful w.proxies w.sent w.replies w.history → IsFaithful new.proxies new.sent new.replies new.history
  step_faithful w (Clock proxy reading) note new step formed t f = subst (λ (x : WorldView). IsFaithful x.proxies x.sent x.replies x.history) (sym step.becomes) f
  step_faithful w (Client proxy q) note new step formed t f = asks_faithful w proxy q note new step formed t f
  step_faithful w (Deliver message now) note new step formed t f = delivers_faithful w message now note new step formed f
  step_faithful w (Return reply) note new step formed t f = returns_faithful w reply note new step formed t f
  step_faithful w (GiveUp op) note new step formed t f = gives_up_faithful w op note new step formed t f
  step_faithful w (NodeRestart node) note new step formed t f = subst (λ (x : WorldView). IsFaithful x.proxies x.sent x.replies x.history) (sym step.becomes) f
  step_faithful w (ProxyRestart proxy) note new step formed t f = restarts_faithful w proxy note new step f

pub facts_of : (w : WorldView) → IsTracked w → IsFaithful w.proxies w.sent w.replies w.history → Facts w
facts_of w t f = record { nodes = λ message has. t.goes has.place message has.there; deletes = f.deletes; sets = f.sets; removals = f.removals; hits = f.hits }

held_entries : (items : List HeldItem) (e : Entry) → Has (map held_entry items) e → (item : HeldItem) × (e ≡ held_entry item)
held_entries items e h = let (item, has, is) = has_map held_entry items h in (item, is)

pub begin_faithful : (setup : SetupView) (w : WorldView) → Begins setup w → IsFaithful w.proxies w.sent w.replies w.history
begin_faithful setup w b =
    let entries : (e : Entry) (k : ℕ) → At w.history k e → (item : HeldItem) × (e ≡ held_entry item) = λ e k at.
    held_entries setup.held e (record { place = k; there = subst (λ l. At l k e) b.history at }) in
    record {
      told = λ m has. has_none (subst (λ l. Has l m) b.sent has);
      removed = λ m reply key c is. at_none (subst (λ l. At l c.from m) b.sent c.was_sent);
      waiting = λ pending waits.
          let (proxy, at, is) = proxy_from 0 setup.proxies waits.number waits.proxy (subst (λ l. slice_get l waits.number ≡ Some waits.proxy) b.proxies waits.home.gets) in
          at_none (subst (λ (x : ProxyView). At x.outstanding waits.place pending) is waits.there);
      deletes = λ delete key issue done m a has of. has_none (subst (λ l. Has l m) b.sent has);
      sets = λ op key flags block place at. (let (item, is) = entries _ place at in cc);
      removals = λ op side key place at. (let (item, is) = entries _ place at in cc);
      hits = λ get items item place at has. (let (held, is) = entries _ place at in cc);
    }
