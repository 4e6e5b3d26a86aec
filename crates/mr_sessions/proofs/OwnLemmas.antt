-- How a session knows the request's own answer.
use Rattle.std.proofs.Common.{◌≡◌, ℕ, suc, ◌+◌, ◌≤◌, List, [], ◌∷◌, length, map, slice_get, Some, refl, sym, ap, subst, ◌∙◌, arith}
use Rattle.std.proofs.lemmas.List.{length-map}
use Rattle.mr_text.specs.declared.request.Request.{Request}
use Rattle.mr_text.specs.declared.request.Request.TheVariants as request
use Rattle.mr_history.specs.declared.op_id.OpId.{OpId}
use Rattle.mr_phases.specs.Schedule.{Hop, phase_of}
use Rattle.mr_phases.specs.Sides.{delete_sides_of}
use Rattle.mr_phases.specs.declared.phase_name.PhaseName.{PhaseName}
use Rattle.mr_phases.specs.declared.phase_name.PhaseName.TheVariants.{OldOnly, BothReadOld, BothReadNew, NewOnly}
use Rattle.mr_pools.specs.Routing.{RoutingView}
use Rattle.mr_node.specs.declared.command.NodeCommand.{NodeCommand}
use Rattle.mr_node.specs.declared.command.NodeCommand.TheVariants.{Get, Set, Delete}
use Rattle.mr_proxy.specs.Answer.{AnswerView}
use Rattle.mr_proxy.specs.Issue.{next_op, sheets_of, used_reading}
use Rattle.mr_proxy.specs.ProxyView.{ProxyView}
use Rattle.mr_proxy.specs.Sheets.{legs_of, sheets_by}
use Rattle.mr_proxy.specs.Sound.{sheet_of}
use Rattle.mr_proxy.specs.Whole.{IsCommandAt, IsLegAt, IsWholeAnswer}
use Rattle.mr_proxy.specs.declared.sheet.LegId.{LegId}
use Rattle.mr_proxy.specs.declared.sheet.LegSheet.{LegSheet}
use Rattle.mr_proxy.specs.declared.slot.Slot.{Slot}
use Rattle.mr_proxy.proofs.DraftLemmas.{sheets_count}
use Rattle.mr_proxy.proofs.SheetLemmas.{get_map, only, sheets_say_lem, gets_ask_in_order_lem}
use Rattle.mr_desks.specs.Desk.{DeskIssues}
use Rattle.mr_desks.specs.Issuing.{ClockCall}
use Rattle.mr_desks.specs.Recorded.{Gave}
use Rattle.mr_sessions.specs.declared.destinations.Destination.{Destination}
use Rattle.mr_sessions.specs.Own.{IssuedView, issued_of, IsAnswerTo}
use Rattle.mr_sessions.specs.steps.Destinations.{destination_of, slot_destination, WentAs, IsLegOf, HasItsLegs}

-- the sheet of a place is told what the request says of that place
told_at : (routing : RoutingView) (hops : List Hop) (op : OpId) (u : ℕ) (q : Request) (place : ℕ) (sheet : LegSheet)
    → slice_get (sheets_by routing hops op u q) place ≡ Some sheet → IsCommandAt q place sheet.command
told_at routing hops op u (request.Get keys) place sheet e =
    let asks = gets_ask_in_order_lem routing hops op u keys place sheet e in
    get_map Get keys place asks.key asks.there ∙ ap (λ (c : NodeCommand). Some c) (sym asks.command)
told_at routing hops op u (request.Set key flags exptime block noreply) place sheet e =
    only (Set key flags exptime block) sheet.command (sheets_say_lem routing hops op u (request.Set key flags exptime block noreply) place sheet e).command
told_at routing hops op u (request.Delete key noreply) place sheet e =
    only (Delete key) sheet.command (sheets_say_lem routing hops op u (request.Delete key noreply) place sheet e).command
told_at routing hops op u request.Quit place sheet e = cc

few_sides : (phase : PhaseName) → length (delete_sides_of phase) ≤ 2
few_sides OldOnly = omega arith
few_sides BothReadOld = omega arith
few_sides BothReadNew = omega arith
few_sides NewOnly = omega arith

most_legs : (q : Request) (sides : ℕ) → sides ≤ 2 → legs_of q sides ≤ legs_of q 2
most_legs (request.Get keys) sides few = omega arith
most_legs (request.Set key flags exptime block noreply) sides few = omega arith
most_legs (request.Delete key noreply) sides few = few
most_legs request.Quit sides few = omega arith

few_legs : (routing : RoutingView) (hops : List Hop) (op : OpId) (u : ℕ) (q : Request) → length (sheets_by routing hops op u q) ≤ legs_of q 2
few_legs routing hops op u q =
    let all = sheets_count routing hops op u q in
    let few = most_legs q (length (delete_sides_of (phase_of hops u))) (few_sides (phase_of hops u)) in
    omega (arith, all, few)

-- the sheets of a request are its legs
sheets_are_legs : (core : ProxyView) (t : ℕ) (q : Request) → 1 ≤ length (sheets_of core t q) → HasItsLegs (issued_of (next_op core) q (sheets_of core t q))
sheets_are_legs core t q some = record {
  some = some;
  few = few_legs core.routing core.schedule (next_op core) (used_reading core.last t) q;
  each = λ place sheet there. record {
    named = (sheets_say_lem core.routing core.schedule (next_op core) (used_reading core.last t) q place sheet there).named;
    told = told_at core.routing core.schedule (next_op core) (used_reading core.last t) q place sheet there;
  };
}

-- a desk gives a request its legs
pub its_legs : {K : Type 0} (gave : Gave) (call : ClockCall K) (share : ℕ) (q : Request) (op : OpId) (legs : List LegSheet)
    → DeskIssues gave call share q op legs → 1 ≤ length legs → HasItsLegs (issued_of op q legs)
its_legs gave call share q op legs issues some =
    subst (λ (o : OpId). HasItsLegs (issued_of o q legs)) (sym issues.named)
    (subst (λ (l : List LegSheet). HasItsLegs (issued_of (next_op issues.core) q l)) (sym issues.sent)
    (sheets_are_legs issues.core issues.reading q (subst (λ (l : List LegSheet). 1 ≤ length l) issues.sent some)))

same_command : (q : Request) (place : ℕ) (one other : NodeCommand) → IsCommandAt q place one → IsCommandAt q place other → one ≡ other
same_command (request.Get keys) place one other is is' = let same = sym is ∙ is' in cc
same_command (request.Set key flags exptime block noreply) place one other is is' = is ∙ sym is'
same_command (request.Delete key noreply) place one other is is' = is ∙ sym is'
same_command request.Quit place one other is is' = absurd is

equal_sheets : (one other : LegSheet) → one.id ≡ other.id → destination_of one ≡ destination_of other → one.command ≡ other.command → one ≡ other
equal_sheets one other id goes command =
    ap (λ (i : LegId). record one { id = i }) id
    ∙ ap (λ (d : Destination). record one { id = other.id; hop = d.hop; side = d.side; node = d.node }) goes
    ∙ ap (λ (c : NodeCommand). record other { command = c }) command

-- the leg of a place that goes to the same node is the same
same_sheet : (issued : IssuedView) (place : ℕ) (slot : Slot) (leg : LegSheet) → IsLegAt issued.op issued.request place slot → IsLegOf issued place leg
    → slot_destination slot ≡ destination_of leg → sheet_of slot ≡ leg
same_sheet issued place slot leg is is' goes =
    equal_sheets slot.sheet leg (is.named ∙ sym is'.named) goes
    (same_command issued.request place slot.sheet.command leg.command is.told is'.told)

same_sheets : (issued : IssuedView) (first : ℕ) (slots : List Slot) (legs : List LegSheet)
    → ((place : ℕ) (slot : Slot) → slice_get slots place ≡ Some slot → IsLegAt issued.op issued.request (first + place) slot)
    → ((place : ℕ) (leg : LegSheet) → slice_get legs place ≡ Some leg → IsLegOf issued (first + place) leg)
    → map slot_destination slots ≡ map destination_of legs → map sheet_of slots ≡ legs
same_sheets issued first [] [] its are go = refl
same_sheets issued first [] (leg ∷ legs) its are go = cc
same_sheets issued first (slot ∷ slots) [] its are go = cc
same_sheets issued first (slot ∷ slots) (leg ∷ legs) its are go =
    let goes : slot_destination slot ≡ destination_of leg = cc in
    let others : map slot_destination slots ≡ map destination_of legs = cc in
    let next : (place : ℕ) → first + suc place ≡ first + 1 + place = λ place. omega arith in
    let here : sheet_of slot ≡ leg = same_sheet issued (first + 0) slot leg (its 0 slot refl) (are 0 leg refl) goes in
    let there : map sheet_of slots ≡ legs = same_sheets issued (first + 1) slots legs
    (λ place s e. subst (λ n. IsLegAt issued.op issued.request n s) (next place) (its (suc place) s e))
    (λ place l e. subst (λ n. IsLegOf issued n l) (next place) (are (suc place) l e)) others in
    ap (λ (l : LegSheet). l ∷ map sheet_of slots) here ∙ ap (λ (l : List LegSheet). leg ∷ l) there

-- the answer of this name and text, whose legs went where those of the request went, is its own
pub is_own : (issued : IssuedView) (answer : AnswerView) → HasItsLegs issued → answer.op ≡ issued.op → answer.request ≡ issued.request
    → map slot_destination answer.slots ≡ map destination_of issued.legs → IsWholeAnswer answer → IsAnswerTo issued answer
is_own issued answer has op request went whole = record {
  op = op;
  request = request;
  legs = same_sheets issued 0 answer.slots issued.legs its are went;
  whole = whole;
}
  where
    none : (place : ℕ) → place ≡ 0 + place
    none place = omega arith

    its : (place : ℕ) (slot : Slot) → slice_get answer.slots place ≡ Some slot → IsLegAt issued.op issued.request (0 + place) slot
    its place slot there =
        subst (λ n. IsLegAt issued.op issued.request n slot) (none place)
        (subst (λ (q : Request). IsLegAt issued.op q place slot) request
        (subst (λ (o : OpId). IsLegAt o answer.request place slot) op (whole.legs place slot there)))

    are : (place : ℕ) (leg : LegSheet) → slice_get issued.legs place ≡ Some leg → IsLegOf issued (0 + place) leg
    are place leg there = subst (λ n. IsLegOf issued n leg) (none place) (has.each place leg there)

destinations_of : (slots : List Slot) → map slot_destination slots ≡ map destination_of (map sheet_of slots)
destinations_of [] = refl
destinations_of (slot ∷ slots) = ap (λ (l : List Destination). slot_destination slot ∷ l) (destinations_of slots)

-- the request's own answer has its name and its text, and its legs went where those of the request went
pub own_went : (issued : IssuedView) (answer : AnswerView) → IsAnswerTo issued answer
    → WentAs issued.op issued.request (map destination_of issued.legs) answer
own_went issued answer own = record {
  same_op = own.op;
  same_request = own.request;
  went = destinations_of answer.slots ∙ ap (map destination_of) own.legs;
}

-- an answer has a leg
pub some_legs : (issued : IssuedView) (answer : AnswerView) → IsAnswerTo issued answer → 1 ≤ length issued.legs
some_legs issued answer own = let all = ap (λ (l : List LegSheet). length l) own.legs in let some = own.whole.has_leg in omega (arith, length-map answer.slots sheet_of)
