-- The sheets of legs that are added one by one.
use Rattle.std.proofs.Common.{◌≡◌, ℕ, suc, ◌+◌, ◌<◌, ◌≤◌, List, [], ◌∷◌, ◌++◌, length, map, take, get_or, sum_by, refl, sym, ap, ◌∙◌, arith, append_assoc, ◌^◌}
use Rattle.std.proofs.lemmas.List.{map-append, take_more, length-take-le}
use Rattle.std.proofs.lemmas.List.Sums.{sum_by-cons}
use Rattle.mr_text.specs.Key.{FitLine}
use Rattle.mr_text.specs.declared.request.Request.{Request}
use Rattle.mr_text.specs.declared.request.Request.TheVariants as request
use Rattle.mr_history.specs.declared.op_id.OpId.{OpId}
use Rattle.mr_phases.specs.Schedule.{Hop, hop_of, phase_of}
use Rattle.mr_phases.specs.Sides.{read_side_of, sides_at}
use Rattle.mr_phases.specs.declared.side.RequestKind.TheVariants as kind
use Rattle.mr_phases.specs.declared.side.Side.{Side}
use Rattle.mr_pools.specs.Routing.{RoutingView}
use Rattle.mr_node.specs.declared.command.NodeCommand.{NodeCommand}
use Rattle.mr_node.specs.declared.command.NodeCommand.TheVariants.{Get, Delete}
use Rattle.mr_proxy.specs.declared.sheet.LegSheet.{LegSheet}
use Rattle.mr_proxy.specs.Sheets.{Target, legs_of, targets_of, sheet_at, sheets_by, sheets_from}

pub length-sheets_from : (routing : RoutingView) (hop : ℕ) (op : OpId) (place : ℕ) (targets : List Target) → length (sheets_from routing hop op place targets) ≡ length targets
length-sheets_from routing hop op place [] = refl
length-sheets_from routing hop op place (target ∷ targets) = ap suc (length-sheets_from routing hop op (place + 1) targets)

sheets_push : (routing : RoutingView) (hop : ℕ) (op : OpId) (place : ℕ) (targets : List Target) (target : Target)
    → sheets_from routing hop op place (targets ++ target ∷ []) ≡ sheets_from routing hop op place targets ++ sheet_at routing hop op (place + length targets) target ∷ []
sheets_push routing hop op place [] target = let none : place + 0 ≡ place = omega arith in rw none
sheets_push routing hop op place (first ∷ targets) target =
    let next : place + 1 + length targets ≡ place + suc (length targets) = omega arith in
    ap (λ l. sheet_at routing hop op place first ∷ l)
    (sheets_push routing hop op (place + 1) targets target ∙ ap (λ n. sheets_from routing hop op (place + 1) targets ++ sheet_at routing hop op n target ∷ []) next)

-- one more leg
added : (routing : RoutingView) (hop : ℕ) (op : OpId) (targets : List Target) (target : Target) (now : List LegSheet)
    → now ≡ sheets_from routing hop op 0 targets
    → now ++ sheet_at routing hop op (length now) target ∷ [] ≡ sheets_from routing hop op 0 (targets ++ target ∷ [])
added routing hop op targets target now e =
    let all : length now ≡ length targets = ap length e ∙ length-sheets_from routing hop op 0 targets in
    let count : length now ≡ 0 + length targets = omega arith in
    ap (λ l. l ++ sheet_at routing hop op (length now) target ∷ []) e
    ∙ ap (λ n. sheets_from routing hop op 0 targets ++ sheet_at routing hop op n target ∷ []) count
    ∙ sym (sheets_push routing hop op 0 targets target)

targets_push : (sides : List Side) (commands : List NodeCommand) (command : NodeCommand)
    → targets_of sides (commands ++ command ∷ []) ≡ targets_of sides commands ++ targets_of sides (command ∷ [])
targets_push sides [] command = refl
targets_push sides (first ∷ commands) command =
    ap (λ l. map (λ (side : Side). record { side = side; command = first }) sides ++ l) (targets_push sides commands command)
    ∙ sym (append_assoc (map (λ (side : Side). record { side = side; command = first }) sides) (targets_of sides commands) (targets_of sides (command ∷ [])))

-- one more key of a get
pub get_added : (routing : RoutingView) (hop : ℕ) (op : OpId) (side : Side) (keys : List (List ℕ)) (i : ℕ) (key : List ℕ) (now : List LegSheet)
    → i < length keys → key ≡ get_or keys i key
    → now ≡ sheets_from routing hop op 0 (targets_of (side ∷ []) (map Get (take i keys)))
    → now ++ sheet_at routing hop op (length now) (record { side = side; command = Get key }) ∷ []
    ≡ sheets_from routing hop op 0 (targets_of (side ∷ []) (map Get (take (i + 1) keys)))
get_added routing hop op side keys i key now within is e =
    let more : take (i + 1) keys ≡ take i keys ++ key ∷ [] = take_more keys i key within ∙ ap (λ k. take i keys ++ k ∷ []) (sym is) in
    added routing hop op (targets_of (side ∷ []) (map Get (take i keys))) (record { side = side; command = Get key }) now e
    ∙ ap (sheets_from routing hop op 0)
    (sym (ap (λ l. targets_of (side ∷ []) (map Get l)) more
    ∙ ap (targets_of (side ∷ [])) (map-append Get (take i keys) (key ∷ []))
    ∙ targets_push (side ∷ []) (map Get (take i keys)) (Get key)))

targets_by_side : (sides more : List Side) (command : NodeCommand)
    → targets_of (sides ++ more) (command ∷ []) ≡ targets_of sides (command ∷ []) ++ targets_of more (command ∷ [])
targets_by_side [] more command = refl
targets_by_side (side ∷ sides) more command = ap (λ l. record { side = side; command = command } ∷ l) (targets_by_side sides more command)

-- one more side of a delete
pub delete_added : (routing : RoutingView) (hop : ℕ) (op : OpId) (sides : List Side) (command : NodeCommand) (i : ℕ) (d : Side) (now : List LegSheet)
    → i < length sides
    → now ≡ sheets_from routing hop op 0 (targets_of (take i sides) (command ∷ []))
    → now ++ sheet_at routing hop op (length now) (record { side = get_or sides i d; command = command }) ∷ []
    ≡ sheets_from routing hop op 0 (targets_of (take (i + 1) sides) (command ∷ []))
delete_added routing hop op sides command i d now within e =
    added routing hop op (targets_of (take i sides) (command ∷ [])) (record { side = get_or sides i d; command = command }) now e
    ∙ ap (sheets_from routing hop op 0)
    (sym (ap (λ l. targets_of l (command ∷ [])) (take_more sides i d within) ∙ targets_by_side (take i sides) (get_or sides i d ∷ []) command))

-- a key takes a byte of a line, at least
pub short_line : (keys : List (List ℕ)) → length keys ≤ sum_by (λ key. length key + 1) keys
short_line [] = omega arith
short_line (key ∷ keys) = let head = sum_by-cons (λ (k : List ℕ). length k + 1) key keys in omega (arith, short_line keys)

pub few_keys : (keys : List (List ℕ)) → FitLine keys → length keys < 2 ^ 32
few_keys keys fits = omega (arith, short_line keys)

length-gets : (side : Side) (keys : List (List ℕ)) → length (targets_of (side ∷ []) (map Get keys)) ≡ length keys
length-gets side [] = refl
length-gets side (key ∷ keys) = ap suc (length-gets side keys)

-- how many legs there are so far
pub get_count : (routing : RoutingView) (hop : ℕ) (op : OpId) (side : Side) (keys : List (List ℕ)) (i : ℕ) (now : List LegSheet)
    → now ≡ sheets_from routing hop op 0 (targets_of (side ∷ []) (map Get (take i keys)))
    → i < length keys → length now ≡ i
get_count routing hop op side keys i now e within =
    let targets : List Target = targets_of (side ∷ []) (map Get (take i keys)) in
    ap length e ∙ length-sheets_from routing hop op 0 targets ∙ length-gets side (take i keys) ∙ length-take-le i keys (omega arith)

get_length : (routing : RoutingView) (hop : ℕ) (op : OpId) (side : Side) (keys : List (List ℕ))
    → length (sheets_from routing hop op 0 (targets_of (side ∷ []) (map Get keys))) ≡ length keys
get_length routing hop op side keys = length-sheets_from routing hop op 0 (targets_of (side ∷ []) (map Get keys)) ∙ length-gets side keys

length-deletes : (sides : List Side) (command : NodeCommand) → length (targets_of sides (command ∷ [])) ≡ length sides
length-deletes [] command = refl
length-deletes (side ∷ sides) command = ap suc (length-deletes sides command)

pub delete_count : (routing : RoutingView) (hop : ℕ) (op : OpId) (sides : List Side) (command : NodeCommand) (i : ℕ) (now : List LegSheet)
    → now ≡ sheets_from routing hop op 0 (targets_of (take i sides) (command ∷ []))
    → i < length sides → length now ≡ i
delete_count routing hop op sides command i now e within =
    let targets : List Target = targets_of (take i sides) (command ∷ []) in
    ap length e ∙ length-sheets_from routing hop op 0 targets ∙ length-deletes (take i sides) command ∙ length-take-le i sides (omega arith)

delete_length : (routing : RoutingView) (hop : ℕ) (op : OpId) (sides : List Side) (command : NodeCommand)
    → length (sheets_from routing hop op 0 (targets_of sides (command ∷ []))) ≡ length sides
delete_length routing hop op sides command = length-sheets_from routing hop op 0 (targets_of sides (command ∷ [])) ∙ length-deletes sides command

-- a request has a leg for each key and each side
pub sheets_count : (routing : RoutingView) (hops : List Hop) (op : OpId) (u : ℕ) (q : Request)
    → length (sheets_by routing hops op u q) ≡ legs_of q (length (sides_at hops kind.Delete u))
sheets_count routing hops op u (request.Get keys) = get_length routing (hop_of hops u) op (read_side_of (phase_of hops u)) keys
sheets_count routing hops op u (request.Set key flags exptime block noreply) = refl
sheets_count routing hops op u (request.Delete key noreply) = delete_length routing (hop_of hops u) op (sides_at hops kind.Delete u) (Delete key)
sheets_count routing hops op u request.Quit = refl
