-- What holds of every proxy on its way from a fresh one.
use Rattle.std.proofs.Common.{◌≡◌, ℕ, zero, suc, ◌<◌, ◌≤◌, ◌⊎◌, Bool, true, false, not, ◌&&◌, List, [], ◌∷◌, length, map, take, drop, get_or, remove, slice_get, slice_set, All, Option, Some, None, unwrap_or, if◌then◌else◌, refl, sym, ap, subst, ◌∙◌, inl, inr, arith}
use Rattle.std.specs.List.{list_any}
use Rattle.std.specs.Option.{option_and_then}
use Rattle.std.proofs.lemmas.List.Elements.{All-append, All-take, All-drop, All-set, All-push, All-map, All-weaker}
use Rattle.std.proofs.lemmas.List.Quantifiers.{all_pairs_push, all_pairs_remove}
use Rattle.std.proofs.lemmas.Option.{slice_get_within, slice_get-get_or}
use Rattle.std.proofs.lemmas.List.{length-map, get_or-map}
use Rattle.std.proofs.lemmas.Nat.{mod_below}
use Rattle.mr_text.specs.declared.cause.Cause.TheVariants.{LegLost}
use Rattle.mr_text.specs.declared.item.Item.{Item}
use Rattle.mr_text.specs.declared.request.Request.{Request}
use Rattle.mr_text.specs.declared.request.Request.TheVariants as request
use Rattle.mr_text.specs.declared.reply.Reply.TheVariants as reply
use Rattle.mr_history.specs.declared.op_id.OpId.{OpId}
use Rattle.mr_join.specs.declared.leg_reply.LegReply.{LegReply}
use Rattle.mr_join.specs.declared.leg_reply.LegReply.TheVariants.{Hit, Miss, Stored, Deleted, NotFound, Failed}
use Rattle.mr_join.specs.Join.{joined_reply, AreHits, IsHitOf, Acknowledges, HasSucceeded}
use Rattle.mr_phases.specs.declared.phase_name.PhaseName.{PhaseName}
use Rattle.mr_phases.specs.declared.phase_name.PhaseName.TheVariants.{OldOnly, BothReadOld, BothReadNew, NewOnly}
use Rattle.mr_phases.specs.Schedule.{Hop, IsSchedule, phase_of, hop_of}
use Rattle.mr_phases.specs.Sides.{delete_sides_of}
use Rattle.mr_phases.specs.Pools.{pool_number}
use Rattle.mr_phases.specs.declared.side.Side.{Side}
use Rattle.mr_phases.specs.declared.side.Side.TheVariants.{Old, New}
use Rattle.mr_pools.specs.Routing.{RoutingView, IsRouting, pool_of}
use Rattle.mr_pools.specs.Hash.{spot_by}
use Rattle.mr_node.specs.Command.{key_of_command}
use Rattle.mr_node.specs.declared.command.NodeCommand.{NodeCommand}
use Rattle.mr_node.specs.declared.command.NodeCommand.TheVariants.{Get, Set, Delete}
use Rattle.mr_proxy.specs.declared.sheet.LegId.{LegId}
use Rattle.mr_proxy.specs.declared.sheet.LegSheet.{LegSheet}
use Rattle.mr_proxy.specs.declared.taken.Taken.TheVariants.{Waiting, Answered}
use Rattle.mr_proxy.specs.declared.slot.Slot.{Slot}
use Rattle.mr_proxy.specs.Slots.{open_slot, is_open, reply_of_slot, is_of_kind, is_awaiting}
use Rattle.mr_proxy.specs.Pending.{PendingView, is_complete, with_reply, with_reply_in}
use Rattle.mr_proxy.specs.Answer.{AnswerView, answer_of, reply_of}
use Rattle.mr_proxy.specs.ProxyView.{ProxyView, fresh_proxy}
use Rattle.mr_proxy.specs.Issue.{next_op, used_reading, sheets_of, pending_of, after_issue}
use Rattle.mr_proxy.specs.Transitions.{place_of_op, pending_with, settled, taken_by, taken_of, left_by, given_up_in, given_up_of}
use Rattle.mr_proxy.specs.Sheets.{pool_at, HaveAsManyHops, HasHop, IsPlaced, sheets_by, sheets_from, targets_of}
use Rattle.mr_proxy.specs.Whole.{IsCommandAt, IsLegAt, IsOfItsKind, IsWholeAnswer}
use Rattle.mr_proxy.specs.Sound.{HasLegs, ProxyStep, sheet_of, IsSoundPending, IsSoundAnswer, IsSound, HasFound, WasDeleted}
use Rattle.mr_proxy.specs.Sound.ProxyStep.{issues, takes, gives_up, restarts}
use Rattle.mr_proxy.proofs.SheetLemmas.{get_map, mapped, only, sheets_say_lem, gets_ask_in_order_lem}

-- a proxy that keeps its names, its numbers at least, and its pools and phases
same_pending : (p : ProxyView) (list : List PendingView) (pending : PendingView) → IsSoundPending p pending → IsSoundPending (record p { outstanding = list }) pending
same_pending p list pending s =
    record { proxy = s.proxy; incarnation = s.incarnation; number = s.number; sheets = s.sheets; kinds = s.kinds; waits = s.waits }

pub removed : (p : ProxyView) (n : ℕ) → n < length p.outstanding → IsSound p → IsSound (record p { outstanding = remove p.outstanding n })
removed p n within s =
    let list = remove p.outstanding n in
    let q : ProxyView = record p { outstanding = list } in
    let all : All (IsSoundPending q) p.outstanding = All-weaker (IsSoundPending p) (IsSoundPending q) (same_pending p list) p.outstanding s.pendings in
    record {
      routing = s.routing;
      schedule = s.schedule;
      hops = s.hops;
      pendings = All-append (IsSoundPending q) (take n p.outstanding) (drop (suc n) p.outstanding)
          (All-take (IsSoundPending q) n p.outstanding all) (All-drop (IsSoundPending q) (suc n) p.outstanding all);
      in_order = all_pairs_remove (λ (a b : PendingView). a.op.number < b.op.number) p.outstanding n within s.in_order;
    }

-- a write that keeps the name
number_written : (list : List PendingView) (n : ℕ) (old new : PendingView) (k : ℕ) (d : PendingView) → slice_get list n ≡ Some old → new.op ≡ old.op
    → (get_or (slice_set list n new) k d).op.number ≡ (get_or list k d).op.number
number_written [] n old new k d e same = refl
number_written (x ∷ list) zero old new zero d e same =
    let is : x ≡ old = cc in ap (λ (op : OpId). op.number) same ∙ ap (λ (y : PendingView). y.op.number) (sym is)
number_written (x ∷ list) zero old new (suc k) d e same = refl
number_written (x ∷ list) (suc n) old new zero d e same = refl
number_written (x ∷ list) (suc n) old new (suc k) d e same = number_written list n old new k d e same

length_written : {X : Type 0} (list : List X) (n : ℕ) (x : X) → length (slice_set list n x) ≡ length list
length_written [] n x = refl
length_written (y ∷ list) zero x = refl
length_written (y ∷ list) (suc n) x = ap suc (length_written list n x)

written : (p : ProxyView) (n : ℕ) (old new : PendingView) → slice_get p.outstanding n ≡ Some old → new.op ≡ old.op → IsSoundPending p new → IsSound p
    → IsSound (record p { outstanding = slice_set p.outstanding n new })
written p n old new got same sound s =
    let list = slice_set p.outstanding n new in
    let q : ProxyView = record p { outstanding = list } in
    let all : All (IsSoundPending q) p.outstanding = All-weaker (IsSoundPending p) (IsSoundPending q) (same_pending p list) p.outstanding s.pendings in
    record {
      routing = s.routing;
      schedule = s.schedule;
      hops = s.hops;
      pendings = All-set (IsSoundPending q) p.outstanding n new (same_pending p list new sound) all;
      in_order = λ i j d before within.
          let first = number_written p.outstanding n old new i d got same in
          let second = number_written p.outstanding n old new j d got same in
          let count = length_written p.outstanding n new in
          let order = s.in_order i j d before (omega arith) in
          omega arith;
    }

-- what noting a reply makes of a request
pub record IsNoting (pending noted : PendingView) (place : ℕ) (reply : LegReply) : Type 0 where
  pub slot : Slot
  pub there : slice_get pending.slots place ≡ Some slot
  pub awaited : is_awaiting slot reply ≡ true
  pub is : noted ≡ record pending { slots = slice_set pending.slots place (record { sheet = slot.sheet; reply = Some reply }) }

noting_slot : (pending noted : PendingView) (place : ℕ) (reply : LegReply) (slot : Slot) (t : Bool) → slice_get pending.slots place ≡ Some slot
    → is_awaiting slot reply ≡ t
    → (if t then Some (record pending { slots = slice_set pending.slots place (record { sheet = slot.sheet; reply = Some reply }) }) else None) ≡ Some noted
    → IsNoting pending noted place reply
noting_slot pending noted place reply slot true got awaited e =
    let same : record pending { slots = slice_set pending.slots place (record { sheet = slot.sheet; reply = Some reply }) } ≡ noted = cc in
    record { slot = slot; there = got; awaited = awaited; is = sym same }
noting_slot pending noted place reply slot false got awaited e = cc

pub noting_in : (pending noted : PendingView) (place : ℕ) (reply : LegReply) (o : Option Slot) → slice_get pending.slots place ≡ o
    → with_reply_in pending place reply o ≡ Some noted → IsNoting pending noted place reply
noting_in pending noted place reply None got e = cc
noting_in pending noted place reply (Some slot) got e = noting_slot pending noted place reply slot (is_awaiting slot reply) got refl e

sheets_written : (slots : List Slot) (place : ℕ) (slot : Slot) (reply : Option LegReply) → slice_get slots place ≡ Some slot
    → map sheet_of (slice_set slots place (record { sheet = slot.sheet; reply = reply })) ≡ map sheet_of slots
sheets_written [] place slot reply e = refl
sheets_written (x ∷ slots) zero slot reply e = let is : x ≡ slot = cc in ap (λ (s : Slot). s.sheet ∷ map sheet_of slots) (sym is)
sheets_written (x ∷ slots) (suc place) slot reply e = ap (λ l. x.sheet ∷ l) (sheets_written slots place slot reply e)

second : (a b : Bool) → (a && b) ≡ true → b ≡ true
second true b e = e
second false b e = cc

told_at : (routing : RoutingView) (hops : List Hop) (op : OpId) (u : ℕ) (q : Request) (place : ℕ) (sheet : LegSheet)
    → slice_get (sheets_by routing hops op u q) place ≡ Some sheet → IsCommandAt q place sheet.command
told_at routing hops op u (request.Get keys) place sheet e =
    let asks = gets_ask_in_order_lem routing hops op u keys place sheet e in
    get_map Get keys place asks.key asks.there ∙ ap Some (sym asks.command)
told_at routing hops op u (request.Set key flags exptime block noreply) place sheet e =
    only (Set key flags exptime block) sheet.command (sheets_say_lem routing hops op u (request.Set key flags exptime block noreply) place sheet e).command
told_at routing hops op u (request.Delete key noreply) place sheet e =
    only (Delete key) sheet.command (sheets_say_lem routing hops op u (request.Delete key noreply) place sheet e).command
told_at routing hops op u request.Quit place sheet e =
    let c = (sheets_say_lem routing hops op u request.Quit place sheet e).command in
    let below = c.1 in
    absurd (omega arith)

-- each leg is the request's of its place
leg_at : (routing : RoutingView) (hops : List Hop) (op : OpId) (u : ℕ) (q : Request) (slots : List Slot) → map sheet_of slots ≡ sheets_by routing hops op u q
    → (place : ℕ) (slot : Slot) → slice_get slots place ≡ Some slot → IsLegAt op q place slot
leg_at routing hops op u q slots e place slot got =
    let sheet : slice_get (sheets_by routing hops op u q) place ≡ Some slot.sheet =
    ap (λ l. slice_get l place) (sym e) ∙ get_map sheet_of slots place slot got in
    let says = sheets_say_lem routing hops op u q place slot.sheet sheet in
    record { named = says.named; told = told_at routing hops op u q place slot.sheet sheet }

has_leg : (slots : List Slot) → not (list_any is_open slots) ≡ false → 1 ≤ length slots
has_leg [] e = cc
has_leg (slot ∷ slots) e = omega arith

noted_answer : (p : ProxyView) (pending noted : PendingView) (place : ℕ) (reply : LegReply) (given_up : Bool) → IsSoundPending p pending
    → IsNoting pending noted place reply → given_up ≡ list_any is_open noted.slots → IsSoundAnswer p (answer_of noted given_up)
noted_answer p pending noted place reply given_up s n is_given_up =
    let slot : Slot = record { sheet = n.slot.sheet; reply = Some reply } in
    let slots = slice_set pending.slots place slot in
    let kind : IsOfItsKind slot = λ other e.
    let same : reply ≡ other = cc in
    ap (is_of_kind n.slot.sheet.command) (sym same) ∙ second (is_open n.slot) (is_of_kind n.slot.sheet.command reply) n.awaited in
    let op : noted.op ≡ pending.op = ap (λ (x : PendingView). x.op) n.is in
    let proxy = ap (λ (x : OpId). x.proxy) op in
    let incarnation = ap (λ (x : OpId). x.incarnation) op in
    let number = ap (λ (x : OpId). x.number) op in
    let below = s.number in
    let sheets : map sheet_of noted.slots ≡ sheets_by p.routing p.schedule noted.op noted.reading noted.request =
    subst (λ (x : PendingView). map sheet_of x.slots ≡ sheets_by p.routing p.schedule x.op x.reading x.request) (sym n.is)
    (sheets_written pending.slots place n.slot (Some reply) n.there ∙ s.sheets) in
    let some : 1 ≤ length pending.slots = has_leg pending.slots s.waits in
    let count : length noted.slots ≡ length pending.slots =
    ap (λ (x : PendingView). length x.slots) n.is ∙ length_written pending.slots place slot in
    record {
      proxy = proxy ∙ s.proxy;
      incarnation = incarnation ∙ s.incarnation;
      number = omega arith;
      sheets = sheets;
      whole =
          record {
            has_leg = omega arith;
            legs = leg_at p.routing p.schedule noted.op noted.reading noted.request noted.slots sheets;
            kinds = subst (λ (x : PendingView). All IsOfItsKind x.slots) (sym n.is) (All-set IsOfItsKind pending.slots place slot kind s.kinds);
            given_up = is_given_up;
          };
    }

noted_sound : (p : ProxyView) (pending noted : PendingView) (place : ℕ) (reply : LegReply) → IsSoundPending p pending
    → IsNoting pending noted place reply → is_complete noted ≡ false → IsSoundPending p noted
noted_sound p pending noted place reply s n open_left =
    let a = noted_answer p pending noted place reply (list_any is_open noted.slots) s n refl in
    record { proxy = a.proxy; incarnation = a.incarnation; number = a.number; sheets = a.sheets; kinds = a.whole.kinds; waits = open_left }

pending_sound : (p : ProxyView) (n : ℕ) (pending : PendingView) → slice_get p.outstanding n ≡ Some pending → IsSound p → IsSoundPending p pending
pending_sound p n pending got s =
    let at = slice_get_within p.outstanding n pending got in
    let read = slice_get-get_or p.outstanding n pending at in
    let is : get_or p.outstanding n pending ≡ pending = cc in
    subst (IsSoundPending p) is (s.pendings n pending at)

settled_noted : (p : ProxyView) (n : ℕ) (pending noted : PendingView) (place : ℕ) (reply : LegReply) (t : Bool) → slice_get p.outstanding n ≡ Some pending
    → IsNoting pending noted place reply → is_complete noted ≡ t → IsSound p
    → IsSound (if t then record p { outstanding = remove p.outstanding n } else record p { outstanding = slice_set p.outstanding n noted })
settled_noted p n pending noted place reply true got noting complete s = removed p n (slice_get_within p.outstanding n pending got) s
settled_noted p n pending noted place reply false got noting complete s =
    let sound = pending_sound p n pending got s in
    written p n pending noted got (ap (λ (x : PendingView). x.op) noting.is) (noted_sound p pending noted place reply sound noting complete) s

settled_by : (p : ProxyView) (n : ℕ) (pending : PendingView) (place : ℕ) (reply : LegReply) (w : Option PendingView) → slice_get p.outstanding n ≡ Some pending
    → with_reply pending place reply ≡ w → IsSound p → IsSound (settled p n w)
settled_by p n pending place reply None got e s = s
settled_by p n pending place reply (Some noted) got e s =
    settled_noted p n pending noted place reply (is_complete noted) got (noting_in pending noted place reply (slice_get pending.slots place) refl e) refl s

take_sound : (p : ProxyView) (n place : ℕ) (reply : LegReply) (o : Option PendingView) → slice_get p.outstanding n ≡ o → IsSound p
    → IsSound (settled p n (option_and_then (λ pending. with_reply pending place reply) o))
take_sound p n place reply None got s = s
take_sound p n place reply (Some pending) got s = settled_by p n pending place reply (with_reply pending place reply) got refl s

leave_sound : (p : ProxyView) (n : ℕ) (o : Option PendingView) → slice_get p.outstanding n ≡ o → IsSound p → IsSound (left_by p n o)
leave_sound p n None got s = s
leave_sound p n (Some pending) got s = removed p n (slice_get_within p.outstanding n pending got) s

delete_waits : (routing : RoutingView) (hop : ℕ) (op : OpId) (command : NodeCommand) (phase : PhaseName)
    → not (list_any is_open (map open_slot (sheets_from routing hop op 0 (targets_of (delete_sides_of phase) (command ∷ []))))) ≡ false
delete_waits routing hop op command OldOnly = refl
delete_waits routing hop op command BothReadOld = refl
delete_waits routing hop op command BothReadNew = refl
delete_waits routing hop op command NewOnly = refl

issued_waits : (p : ProxyView) (t : ℕ) (q : Request) → HasLegs q → is_complete (pending_of p t q) ≡ false
issued_waits p t (request.Get []) legs = absurd (omega arith)
issued_waits p t (request.Get (key ∷ keys)) legs = refl
issued_waits p t (request.Set key flags exptime block noreply) legs = refl
issued_waits p t (request.Delete key noreply) legs =
    delete_waits p.routing (hop_of p.schedule (used_reading p.last t)) (next_op p) (Delete key) (phase_of p.schedule (used_reading p.last t))
issued_waits p t request.Quit legs = absurd legs

sheets_opened : (sheets : List LegSheet) → map sheet_of (map open_slot sheets) ≡ sheets
sheets_opened [] = refl
sheets_opened (sheet ∷ sheets) = ap (λ l. sheet ∷ l) (sheets_opened sheets)

older_pending : (p : ProxyView) (t : ℕ) (q : Request) (pending : PendingView) → IsSoundPending p pending → IsSoundPending (after_issue p t q) pending
older_pending p t q pending s =
    let below = s.number in
    record { proxy = s.proxy; incarnation = s.incarnation; number = omega arith; sheets = s.sheets; kinds = s.kinds; waits = s.waits }

pub issue_sound : (p : ProxyView) (t : ℕ) (q : Request) → HasLegs q → IsSound p → IsSound (after_issue p t q)
issue_sound p t q legs s =
    let new = after_issue p t q in
    let unnoted : (sheet : LegSheet) → IsOfItsKind (open_slot sheet) = λ sheet reply e. cc in
    let sound : IsSoundPending new (pending_of p t q) =
    record {
      proxy = refl;
      incarnation = refl;
      number = omega arith;
      sheets = sheets_opened (sheets_of p t q);
      kinds = All-map IsOfItsKind open_slot (sheets_of p t q) (λ k d below. unnoted (get_or (sheets_of p t q) k d));
      waits = issued_waits p t q legs;
    } in
    record {
      routing = s.routing;
      schedule = s.schedule;
      hops = s.hops;
      pendings = All-push (IsSoundPending new) p.outstanding (pending_of p t q)
          (All-weaker (IsSoundPending p) (IsSoundPending new) (older_pending p t q) p.outstanding s.pendings) sound;
      in_order = all_pairs_push (λ (a b : PendingView). a.op.number < b.op.number) p.outstanding (pending_of p t q) s.in_order
          (λ k d below. (s.pendings k d below).number);
    }

pub steps_keep_sound_lem : (old new : ProxyView) → IsSound old → ProxyStep old new → IsSound new
steps_keep_sound_lem old new s (issues t q legs accepted) = issue_sound old t q legs s
steps_keep_sound_lem old new s (takes id reply) = take_sound old (place_of_op old.outstanding id.op) id.place reply (pending_with old.outstanding id.op) refl s
steps_keep_sound_lem old new s (gives_up op) = leave_sound old (place_of_op old.outstanding op) (pending_with old.outstanding op) refl s
steps_keep_sound_lem old new s restarts =
    record { routing = s.routing; schedule = s.schedule; hops = s.hops; pendings = λ k d below. absurd (omega arith); in_order = λ i j d before below. absurd (omega arith) }

none_open : (b : Bool) → not b ≡ true → false ≡ b
none_open true e = cc
none_open false e = refl

some_open : (b : Bool) → not b ≡ false → true ≡ b
some_open true e = refl
some_open false e = cc

completed_sound : (p : ProxyView) (n : ℕ) (pending noted : PendingView) (place : ℕ) (reply : LegReply) (answer : AnswerView) (t : Bool)
    → slice_get p.outstanding n ≡ Some pending → IsNoting pending noted place reply → is_complete noted ≡ t → IsSound p
    → (if t then Answered (answer_of noted false) else Waiting) ≡ Answered answer → IsSoundAnswer p answer
completed_sound p n pending noted place reply answer true got noting complete s e =
    let is : answer_of noted false ≡ answer = cc in
    subst (IsSoundAnswer p) is
    (noted_answer p pending noted place reply false (pending_sound p n pending got s) noting (none_open (list_any is_open noted.slots) complete))
completed_sound p n pending noted place reply answer false got noting complete s e = cc

taken_by_sound : (p : ProxyView) (n : ℕ) (pending : PendingView) (place : ℕ) (reply : LegReply) (answer : AnswerView) (w : Option PendingView)
    → slice_get p.outstanding n ≡ Some pending → with_reply pending place reply ≡ w → IsSound p → taken_by reply w ≡ Answered answer
    → IsSoundAnswer p answer
taken_by_sound p n pending place reply answer None got e s is = cc
taken_by_sound p n pending place reply answer (Some noted) got e s is =
    let noting = noting_in pending noted place reply (slice_get pending.slots place) refl e in
    completed_sound p n pending noted place reply answer (is_complete noted) got noting refl s is

taken_in_sound : (p : ProxyView) (n place : ℕ) (reply : LegReply) (answer : AnswerView) (o : Option PendingView) → slice_get p.outstanding n ≡ o → IsSound p
    → taken_by reply (option_and_then (λ pending. with_reply pending place reply) o) ≡ Answered answer → IsSoundAnswer p answer
taken_in_sound p n place reply answer None got s is = cc
taken_in_sound p n place reply answer (Some pending) got s is =
    taken_by_sound p n pending place reply answer (with_reply pending place reply) got refl s is

pub last_reply_answers_lem : (p : ProxyView) (id : LegId) (reply : LegReply) (answer : AnswerView) → IsSound p
    → taken_of p id reply ≡ Answered answer → IsSoundAnswer p answer
last_reply_answers_lem p id reply answer s is =
    taken_in_sound p (place_of_op p.outstanding id.op) id.place reply answer (pending_with p.outstanding id.op) refl s is

given_up_in_sound : (p : ProxyView) (n : ℕ) (answer : AnswerView) (o : Option PendingView) → slice_get p.outstanding n ≡ o → IsSound p
    → given_up_in o ≡ Some answer → IsSoundAnswer p answer
given_up_in_sound p n answer None got s e = cc
given_up_in_sound p n answer (Some pending) got s e =
    let is : answer_of pending true ≡ answer = cc in
    let a = pending_sound p n pending got s in
    let sound : IsSoundAnswer p (answer_of pending true) =
    record {
      proxy = a.proxy;
      incarnation = a.incarnation;
      number = a.number;
      sheets = a.sheets;
      whole =
          record {
            has_leg = has_leg pending.slots a.waits;
            legs = leg_at p.routing p.schedule pending.op pending.reading pending.request pending.slots a.sheets;
            kinds = a.kinds;
            given_up = some_open (list_any is_open pending.slots) a.waits;
          };
    } in
    subst (IsSoundAnswer p) is sound

pub given_up_early_lem : (p : ProxyView) (op : OpId) (answer : AnswerView) → IsSound p → given_up_of p op ≡ Some answer → IsSoundAnswer p answer
given_up_early_lem p op answer s e = given_up_in_sound p (place_of_op p.outstanding op) answer (pending_with p.outstanding op) refl s e

hit_noted : (o : Option LegReply) (flags : ℕ) (block : List ℕ) → unwrap_or o (Failed LegLost) ≡ Hit flags block → o ≡ Some (Hit flags block)
hit_noted None flags block e = cc
hit_noted (Some reply) flags block e = ap Some e

-- the command of a get's leg names the key of its place
key_at : (keys : List (List ℕ)) (place : ℕ) (key : List ℕ) (command : NodeCommand) → slice_get keys place ≡ Some key
    → slice_get (map Get keys) place ≡ Some command → command ≡ Get key
key_at keys place key command there told =
    let got = get_map Get keys place key there in cc

found_by : (answer : AnswerView) (keys : List (List ℕ)) (item : Item) → IsWholeAnswer answer → answer.request ≡ request.Get keys
    → IsHitOf keys (map reply_of_slot answer.slots) item → HasFound answer.slots item
found_by answer keys item s asked h =
    let m = mapped reply_of_slot answer.slots h.place (Hit item.flags item.block) h.hit in
    let leg = s.legs h.place m.from m.there in
    let told = subst (λ q. IsCommandAt q h.place m.from.sheet.command) asked leg.told in
    record {
      place = h.place;
      slot = m.from;
      there = m.there;
      command = key_at keys h.place item.key m.from.sheet.command h.key told;
      hit = hit_noted m.from.reply item.flags item.block (sym m.is);
    }

pub items_were_found_lem : ((q : Request) (replies : List LegReply) (items : List Item) → joined_reply q replies ≡ reply.Items items → AreHits q replies items)
    → (answer : AnswerView) (items : List Item) → IsWholeAnswer answer
    → reply_of answer ≡ reply.Items items → All (HasFound answer.slots) items
items_were_found_lem hits answer items s e =
    let h = hits answer.request (map reply_of_slot answer.slots) items e in
    All-weaker (IsHitOf h.keys (map reply_of_slot answer.slots)) (HasFound answer.slots) (λ item found. found_by answer h.keys item s h.asked found) items h.found

deleted_by : (key : List ℕ) (r : LegReply) → is_of_kind (Delete key) r ≡ true → HasSucceeded r → (r ≡ Deleted) ⊎ (r ≡ NotFound)
deleted_by key (Hit flags block) kind mild = cc
deleted_by key Miss kind mild = cc
deleted_by key Stored kind mild = cc
deleted_by key Deleted kind mild = inl refl
deleted_by key NotFound kind mild = inr refl
deleted_by key (Failed cause) kind mild = absurd (omega arith)

was_noted : (o : Option LegReply) → HasSucceeded (unwrap_or o (Failed LegLost)) → (r : LegReply) × (o ≡ Some r) × HasSucceeded r
was_noted None mild = absurd (omega arith)
was_noted (Some r) mild = (r, refl, mild)

slot_deleted : (key : List ℕ) (slot : Slot) → slot.sheet.command ≡ Delete key → IsOfItsKind slot → HasSucceeded (reply_of_slot slot) → WasDeleted slot
slot_deleted key slot command kind mild =
    let (r, noted, good) = was_noted slot.reply mild in
    record { reply = r; noted = noted; deleted = deleted_by key r (ap (λ c. is_of_kind c r) (sym command) ∙ kind r noted) good }

pub acknowledged_by_legs_lem : ((q : Request) (replies : List LegReply) → Acknowledges (joined_reply q replies) → All HasSucceeded replies)
    → (answer : AnswerView) (key : List ℕ) (noreply : Bool) → IsWholeAnswer answer
    → answer.request ≡ request.Delete key noreply → Acknowledges (reply_of answer) → All WasDeleted answer.slots
acknowledged_by_legs_lem all answer key noreply s asked a k d below =
    let slots = answer.slots in
    let slot = get_or slots k d in
    let leg = s.legs k slot (slice_get-get_or slots k d below) in
    let command : slot.sheet.command ≡ Delete key = subst (λ q. IsCommandAt q k slot.sheet.command) asked leg.told in
    let outcomes = all answer.request (map reply_of_slot slots) a in
    let count : length (map reply_of_slot slots) ≡ length slots = length-map slots reply_of_slot in
    let mild = outcomes k (reply_of_slot d) (omega arith) in
    let read : get_or (map reply_of_slot slots) k (reply_of_slot d) ≡ reply_of_slot slot = get_or-map reply_of_slot slots k d (reply_of_slot d) below in
    slot_deleted key slot command (s.kinds k d below) (subst HasSucceeded read mild)

-- a fresh proxy is sound where its routing and its schedule are
pub fresh_sound : (number incarnation : ℕ) (routing : RoutingView) (hops : List Hop) (room : ℕ) → IsRouting routing → IsSchedule hops
    → HaveAsManyHops routing hops → IsSound (fresh_proxy number incarnation routing hops room)
fresh_sound number incarnation routing hops room apart phases many =
    record { routing = apart; schedule = phases; hops = many; pendings = λ k d below. absurd (omega arith); in_order = λ i j d before below. absurd (omega arith) }

opened_some : (sheets : List LegSheet) → not (list_any is_open (map open_slot sheets)) ≡ false → 1 ≤ length sheets
opened_some [] e = cc
opened_some (sheet ∷ sheets) e = omega arith

-- an accepted request has a leg
pub issued_some : (p : ProxyView) (t : ℕ) (q : Request) → HasLegs q → 1 ≤ length (sheets_of p t q)
issued_some p t q legs = opened_some (sheets_of p t q) (issued_waits p t q legs)

pool_there : (routing : RoutingView) (hop : ℕ) (side : Side) → HasHop routing hop → pool_number hop side < length routing.pools
pool_there routing hop Old there = omega arith
pool_there routing hop New there = there

-- each node of a request's sheets is one of its pool
pub nodes_within : (routing : RoutingView) (hops : List Hop) (op : OpId) (u : ℕ) (q : Request) → IsRouting routing
    → HasHop routing (hop_of hops u) → All (IsPlaced routing) (sheets_by routing hops op u q)
nodes_within routing hops op u q r has k d below =
    let sheets = sheets_by routing hops op u q in
    let sheet = get_or sheets k d in
    let says = sheets_say_lem routing hops op u q k sheet (slice_get-get_or sheets k d below) in
    let node = says.node in
    let there = pool_there routing sheet.hop sheet.side (subst (HasHop routing) (sym says.hop) has) in
    let sized = r.sized (pool_at sheet) there in
    let some = sized.not_empty in
    let least = mod_below (spot_by routing.hash (key_of_command sheet.command)) (length (pool_of routing (pool_at sheet))) (omega arith) in
    record { pool = there; within = omega arith }
