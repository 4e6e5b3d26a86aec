-- What the sheets of a request say of its reading.
use Rattle.std.proofs.Common.{◌≡◌, ℕ, zero, suc, ◌+◌, ◌<◌, ◌⊎◌, Bool, List, [], ◌∷◌, ◌++◌, length, map, get_or, slice_get, Contains, Some, refl, sym, ap, subst, ◌∙◌, inl, inr, arith}
use Rattle.std.proofs.lemmas.Option.{slice_get_within, get_or_from_slice_get, slice_get-get_or}
use Rattle.mr_text.specs.declared.request.Request.{Request}
use Rattle.mr_text.specs.declared.request.Request.TheVariants as request
use Rattle.mr_history.specs.declared.op_id.OpId.{OpId}
use Rattle.mr_phases.specs.declared.side.Side.{Side}
use Rattle.mr_phases.specs.Schedule.{Hop, phase_of, hop_of}
use Rattle.mr_phases.specs.Sides.{sides_at, read_side_of, delete_sides_of}
use Rattle.mr_phases.specs.Pools.{read_pool, delete_pools, pool_number}
use Rattle.mr_pools.specs.Routing.{RoutingView}
use Rattle.mr_node.specs.declared.command.NodeCommand.{NodeCommand}
use Rattle.mr_node.specs.declared.command.NodeCommand.TheVariants.{Get, Set, Delete}
use Rattle.mr_proxy.specs.declared.sheet.LegSheet.{LegSheet}
use Rattle.mr_proxy.specs.Sheets.{pool_at, Target, targets_of, sheet_at, sheets_from, sheets_by, kind_of, commands_of, IsSheetOf, GoesBy, DeletesIn, AsksFor}

-- a place in a list
pub record Has {X : Type 0} (list : List X) (x : X) : Type 0 where
  pub place : ℕ
  pub there : slice_get list place ≡ Some x

pub contains : {X : Type 0} (list : List X) (x : X) → Has list x → Contains list x
contains list x h = (h.place, slice_get_within list h.place x h.there, get_or_from_slice_get list h.place x x h.there)

pub has : {X : Type 0} (list : List X) (x : X) → Contains list x → Has list x
has list x h =
    let (k, below, is) = h in
    record { place = k; there = slice_get-get_or list k x below ∙ ap Some is }

pub has_later : {X : Type 0} (y : X) (list : List X) (x : X) → Has list x → Has (y ∷ list) x
has_later y list x h = record { place = suc h.place; there = h.there }

pub get_left : {X : Type 0} (xs ys : List X) (i : ℕ) (x : X) → slice_get xs i ≡ Some x → slice_get (xs ++ ys) i ≡ Some x
get_left [] ys i x e = cc
get_left (z ∷ xs) ys zero x e = e
get_left (z ∷ xs) ys (suc i) x e = get_left xs ys i x e

get_apart : {X : Type 0} (xs ys : List X) (i : ℕ) (x : X) → slice_get (xs ++ ys) i ≡ Some x → Has xs x ⊎ Has ys x
get_apart [] ys i x e = inr (record { place = i; there = e })
get_apart (z ∷ xs) ys zero x e = inl (record { place = 0; there = e })
get_apart (z ∷ xs) ys (suc i) x e = elim (get_apart xs ys i x e) [ inl h ↦ inl (has_later z xs x h) | inr h ↦ inr h ]

pub get_map : {X Y : Type 0} (f : X → Y) (xs : List X) (i : ℕ) (x : X) → slice_get xs i ≡ Some x → slice_get (map f xs) i ≡ Some (f x)
get_map f [] i x e = cc
get_map f (y ∷ xs) zero x e = let same : y ≡ x = cc in ap (λ z. Some (f z)) same
get_map f (y ∷ xs) (suc i) x e = get_map f xs i x e

-- what stands in a mapped list
pub record IsMapped {X Y : Type 0} (f : X → Y) (xs : List X) (i : ℕ) (y : Y) : Type 0 where
  pub from : X
  pub there : slice_get xs i ≡ Some from
  pub is : y ≡ f from

pub mapped : {X Y : Type 0} (f : X → Y) (xs : List X) (i : ℕ) (y : Y) → slice_get (map f xs) i ≡ Some y → IsMapped f xs i y
mapped f [] i y e = cc
mapped f (x ∷ xs) zero y e = let same : f x ≡ y = cc in record { from = x; there = refl; is = sym same }
mapped f (x ∷ xs) (suc i) y e = let h = mapped f xs i y e in record { from = h.from; there = h.there; is = h.is }

-- a target is a side and a command of theirs
record IsTargetOf (sides : List Side) (commands : List NodeCommand) (target : Target) : Type 0 where
  side : Has sides target.side
  command : Has commands target.command

target_in : (sides : List Side) (commands : List NodeCommand) (k : ℕ) (target : Target) → slice_get (targets_of sides commands) k ≡ Some target
    → IsTargetOf sides commands target
target_in sides [] k target e = cc
target_in sides (command ∷ commands) k target e =
    let to : Side → Target = λ side. record { side = side; command = command } in
    elim (get_apart (map to sides) (targets_of sides commands) k target e) [
      | inl h ↦
          let m = mapped to sides h.place target h.there in
          record {
            side = subst (Has sides) (sym (ap (λ (t : Target). t.side) m.is)) (record { place = h.place; there = m.there });
            command = record { place = 0; there = ap (λ (t : Target). Some t.command) (sym m.is) };
          }
      | inr h ↦
          let rest = target_in sides commands h.place target h.there in
          record { side = rest.side; command = has_later command commands target.command rest.command }
    ]

-- the sheet of a place is that of the target there
record IsSheetIn (routing : RoutingView) (hop : ℕ) (op : OpId) (first : ℕ) (targets : List Target) (k : ℕ) (sheet : LegSheet) : Type 0 where
  target : Target
  there : slice_get targets k ≡ Some target
  is : sheet ≡ sheet_at routing hop op (first + k) target

sheet_in : (routing : RoutingView) (hop : ℕ) (op : OpId) (first : ℕ) (targets : List Target) (k : ℕ) (sheet : LegSheet)
    → slice_get (sheets_from routing hop op first targets) k ≡ Some sheet → IsSheetIn routing hop op first targets k sheet
sheet_in routing hop op first [] k sheet e = cc
sheet_in routing hop op first (target ∷ targets) zero sheet e =
    let same : sheet_at routing hop op first target ≡ sheet = cc in
    let none : first ≡ first + 0 = omega arith in
    record { target = target; there = refl; is = sym same ∙ ap (λ n. sheet_at routing hop op n target) none }
sheet_in routing hop op first (target ∷ targets) (suc k) sheet e =
    let h = sheet_in routing hop op (first + 1) targets k sheet e in
    let next : first + 1 + k ≡ first + suc k = omega arith in
    record { target = h.target; there = h.there; is = h.is ∙ ap (λ n. sheet_at routing hop op n h.target) next }

sheet_for : (routing : RoutingView) (hop : ℕ) (op : OpId) (first : ℕ) (targets : List Target) (k : ℕ) (target : Target)
    → slice_get targets k ≡ Some target → slice_get (sheets_from routing hop op first targets) k ≡ Some (sheet_at routing hop op (first + k) target)
sheet_for routing hop op first [] k target e = cc
sheet_for routing hop op first (t ∷ targets) zero target e =
    let same : t ≡ target = cc in
    let none : first ≡ first + 0 = omega arith in
    ap (λ u. Some (sheet_at routing hop op first u)) same ∙ ap (λ n. Some (sheet_at routing hop op n target)) none
sheet_for routing hop op first (t ∷ targets) (suc k) target e =
    let next : first + 1 + k ≡ first + suc k = omega arith in
    sheet_for routing hop op (first + 1) targets k target e ∙ ap (λ n. Some (sheet_at routing hop op n target)) next

pub sheets_say_lem : (routing : RoutingView) (hops : List Hop) (op : OpId) (u : ℕ) (q : Request) (place : ℕ) (sheet : LegSheet)
    → slice_get (sheets_by routing hops op u q) place ≡ Some sheet → IsSheetOf routing hops op u q place sheet
sheets_say_lem routing hops op u q place sheet e =
    let sides = sides_at hops (kind_of q) u in
    let h = sheet_in routing (hop_of hops u) op 0 (targets_of sides (commands_of q)) place sheet e in
    let t = target_in sides (commands_of q) place h.target h.there in
    let zero_first : 0 + place ≡ place = omega arith in
    subst (IsSheetOf routing hops op u q place) (sym (h.is ∙ ap (λ n. sheet_at routing (hop_of hops u) op n h.target) zero_first))
    (record { named = refl; hop = refl; node = refl; side = contains sides h.target.side t.side; command = contains (commands_of q) h.target.command t.command })

pub only : {X : Type 0} (y x : X) → Contains (y ∷ []) x → x ≡ y
only y x h = only_at y x h.0 h.1 h.2
  where
    only_at : {X : Type 0} (y x : X) (k : ℕ) → k < 1 → get_or (y ∷ []) k x ≡ x → x ≡ y
    only_at y x zero below e = sym e
    only_at y x (suc k) below e = absurd (omega arith)

mapped_in : {X Y : Type 0} (f : X → Y) (xs : List X) (x : X) → Contains xs x → Contains (map f xs) (f x)
mapped_in f xs x h = let there = has xs x h in contains (map f xs) (f x) (record { place = there.place; there = get_map f xs there.place x there.there })

read_side_goes : (hops : List Hop) (u : ℕ) (side : Side) → Contains (read_side_of (phase_of hops u) ∷ []) side
    → pool_number (hop_of hops u) side ≡ read_pool hops u
read_side_goes hops u side s = ap (pool_number (hop_of hops u)) (only (read_side_of (phase_of hops u)) side s)

goes : (hops : List Hop) (u : ℕ) (q : Request) (side : Side) (command : NodeCommand) → Contains (sides_at hops (kind_of q) u) side
    → Contains (commands_of q) command → GoesBy hops u (pool_number (hop_of hops u) side) command
goes hops u (request.Get keys) side command s c =
    let h = has (map Get keys) command c in
    let m = mapped Get keys h.place command h.there in
    subst (GoesBy hops u (pool_number (hop_of hops u) side)) (sym m.is) (read_side_goes hops u side s)
goes hops u (request.Set key flags exptime block noreply) side command s c =
    subst (GoesBy hops u (pool_number (hop_of hops u) side)) (sym (only (Set key flags exptime block) command c)) (read_side_goes hops u side s)
goes hops u (request.Delete key noreply) side command s c =
    subst (GoesBy hops u (pool_number (hop_of hops u) side)) (sym (only (Delete key) command c))
    (mapped_in (pool_number (hop_of hops u)) (delete_sides_of (phase_of hops u)) side s)
goes hops u request.Quit side command s c = let below = c.1 in absurd (omega arith)

pub pools_by_reading_lem : (routing : RoutingView) (hops : List Hop) (op : OpId) (u : ℕ) (q : Request) (place : ℕ) (sheet : LegSheet)
    → slice_get (sheets_by routing hops op u q) place ≡ Some sheet → GoesBy hops u (pool_at sheet) sheet.command
pools_by_reading_lem routing hops op u q place sheet e =
    let h = sheets_say_lem routing hops op u q place sheet e in
    subst (λ hop. GoesBy hops u (pool_number hop sheet.side) sheet.command) (sym h.hop) (goes hops u q sheet.side sheet.command h.side h.command)

pub delete_goes_lem : (routing : RoutingView) (hops : List Hop) (op : OpId) (u : ℕ) (key : List ℕ) (noreply : Bool) (pool : ℕ)
    → Contains (delete_pools hops u) pool → DeletesIn (sheets_by routing hops op u (request.Delete key noreply)) op pool key
delete_goes_lem routing hops op u key noreply pool c =
    let sides = delete_sides_of (phase_of hops u) in
    let h = has (delete_pools hops u) pool c in
    let m = mapped (pool_number (hop_of hops u)) sides h.place pool h.there in
    let to : Side → Target = λ side. record { side = side; command = Delete key } in
    let target = get_left (map to sides) [] h.place (to m.from) (get_map to sides h.place m.from m.there) in
    record {
      place = h.place;
      sheet = sheet_at routing (hop_of hops u) op (0 + h.place) (to m.from);
      there = sheet_for routing (hop_of hops u) op 0 (targets_of sides (Delete key ∷ [])) h.place (to m.from) target;
      same_op = refl;
      same_pool = sym m.is;
      command = refl;
    }

target_of_get : (side : Side) (keys : List (List ℕ)) (k : ℕ) (target : Target) → slice_get (targets_of (side ∷ []) (map Get keys)) k ≡ Some target
    → (key : List ℕ) × (slice_get keys k ≡ Some key) × (target.command ≡ Get key)
target_of_get side [] k target e = cc
target_of_get side (key ∷ keys) zero target e =
    let first : Target = record { side = side; command = Get key } in
    let same : first ≡ target = cc in
    (key, refl, ap (λ (t : Target). t.command) (sym same))
target_of_get side (key ∷ keys) (suc k) target e = target_of_get side keys k target e

pub gets_ask_in_order_lem : (routing : RoutingView) (hops : List Hop) (op : OpId) (u : ℕ) (keys : List (List ℕ)) (place : ℕ) (sheet : LegSheet)
    → slice_get (sheets_by routing hops op u (request.Get keys)) place ≡ Some sheet → AsksFor keys place sheet
gets_ask_in_order_lem routing hops op u keys place sheet e =
    let side = read_side_of (phase_of hops u) in
    let h = sheet_in routing (hop_of hops u) op 0 (targets_of (side ∷ []) (map Get keys)) place sheet e in
    let (key, there, is) = target_of_get side keys place h.target h.there in
    record { key = key; there = there; command = ap (λ (s : LegSheet). s.command) h.is ∙ is }
