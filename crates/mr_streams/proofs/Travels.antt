-- Legs that are put together to travel together: what is known of each is known of all.
use Rattle.std.proofs.Common.{◌≡◌, ℕ, ◌+◌, ◌≤◌, Bool, true, false, ◌&&◌, cond, List, [], ◌∷◌, ◌++◌, All, length, map, sum_by, refl, sym, ap, ◌∙◌, subst, arith}
use Rattle.std.specs.List.{AllByRecursion}
use Rattle.std.proofs.lemmas.List.Elements.{All-head, All-cons, All-nil}
use Rattle.std.proofs.lemmas.List.Sums.{sum_by-cons, sum_by-append}
use Rattle.mr_text.specs.Key.{IsKey}
use Rattle.mr_text.specs.Limits.{MAX_LINE}
use Rattle.mr_text.specs.Valid.{IsValidRequest}
use Rattle.mr_text.specs.declared.request.Request.{Request}
use Rattle.mr_text.specs.declared.request.Request.TheVariants as request
use Rattle.mr_history.specs.declared.op_id.OpId.{OpId}
use Rattle.mr_node.specs.declared.command.NodeCommand.{NodeCommand}
use Rattle.mr_node.specs.declared.command.NodeCommand.TheVariants.{Get, Set, Delete}
use Rattle.mr_phases.specs.Schedule.{Hop, hop_of, phase_of}
use Rattle.mr_phases.specs.Sides.{read_side_of, sides_at}
use Rattle.mr_phases.specs.declared.side.Side.{Side}
use Rattle.mr_phases.specs.declared.side.RequestKind.TheVariants as kind
use Rattle.mr_pools.specs.Routing.{RoutingView}
use Rattle.mr_proxy.specs.NodeRequests.{key_of, request_for, request_with}
use Rattle.mr_proxy.specs.Sheets.{sheet_at, sheets_by, sheets_from, targets_of}
use Rattle.mr_proxy.specs.declared.sheet.LegSheet.{LegSheet}
use Rattle.mr_loop.specs.Links.{is_get, legs_of, sent_by, travelling, travels_with, with_traveller}
use Rattle.mr_loop.specs.declared.asker.Asker.{Asker}
use Rattle.mr_loop.specs.declared.sent_legs.SentLeg.{SentLeg}
use Rattle.mr_loop.proofs.TravelLemmas.{behind}
use Rattle.mr_streams.specs.Flows.{AreGets}
use Rattle.mr_streams.proofs.Mirrors.{FitsLine}
use Rattle.mr_streams.proofs.Performing.{request_many, request_one}
use Rattle.mr_streams.proofs.Together.{AllGets, get_is}

-- what holds of each leg by itself, and of one more behind others, holds of all that travel
module _ (P : LegSheet → Type 0) (Q : SentLeg → Type 0) (asker : Asker) (alone : (sheet : LegSheet) → P sheet → Q (sent_by asker sheet))
    (joins : (sheet : LegSheet) (sent : SentLeg) → P sheet → Q sent → travels_with sheet sent.leg ≡ true → Q (behind sheet sent)) where
  one_travels : (sheet : LegSheet) (sents : List SentLeg) → P sheet → AllByRecursion Q sents → AllByRecursion Q (with_traveller asker sheet sents)
  one_travels sheet [] one all = (alone sheet one, tt)
  one_travels sheet (sent ∷ sents) one all =
      elim (travels_with sheet sent.leg) as (λ b. travels_with sheet sent.leg ≡ b → AllByRecursion Q (cond b (behind sheet sent ∷ sents) (sent ∷ with_traveller asker sheet sents))) [
        | true ↦ λ e. (joins sheet sent one all.0 e, all.1)
        | false ↦ λ e. (all.0, one_travels sheet sents one all.1)
      ] refl

  pub all_travel : (sheets : List LegSheet) (sents : List SentLeg) → AllByRecursion P sheets → AllByRecursion Q sents → AllByRecursion Q (travelling asker sents sheets)
  all_travel [] sents each all = all
  all_travel (sheet ∷ sheets) sents each all = all_travel sheets (with_traveller asker sheet sents) each.1 (one_travels sheet sents each.0 all)

three_true : (a b c d : Bool) → (a && b && c && d) ≡ true → (a ≡ true) × (b ≡ true)
three_true true true true true e = (refl, refl)
three_true true true true false e = cc
three_true true true false d e = cc
three_true true false c d e = cc
three_true false b c d e = cc

-- the gets among legs
pub both_gets : (sheet leg : LegSheet) → travels_with sheet leg ≡ true → (is_get sheet.command ≡ true) × (is_get leg.command ≡ true)
both_gets sheet leg e = three_true (is_get sheet.command) (is_get leg.command) _ _ e

gets_behind : (sheets : List LegSheet) (sheet : LegSheet) → AllGets sheets → is_get sheet.command ≡ true → AllGets (sheets ++ sheet ∷ [])
gets_behind [] sheet all one = (one, tt)
gets_behind (first ∷ sheets) sheet all one = (all.0, gets_behind sheets sheet all.1 one)

as_gets : (leg : LegSheet) (others : List LegSheet) → AllGets (leg ∷ others) → AreGets leg others
as_gets leg [] all = tt
as_gets leg (other ∷ others) all = all

all_gets : (leg : LegSheet) (others : List LegSheet) → is_get leg.command ≡ true → AreGets leg others → AllGets (leg ∷ others)
all_gets leg [] get are = (get, tt)
all_gets leg (other ∷ others) get are = are

-- one more get among gets
pub more_gets : (sheet leg : LegSheet) (others : List LegSheet) → travels_with sheet leg ≡ true → AreGets leg others → AreGets leg (others ++ sheet ∷ [])
more_gets sheet leg others e are =
    let both = both_gets sheet leg e in
    let all = all_gets leg others both.1 are in
    as_gets leg (others ++ sheet ∷ []) (both.1, gets_behind others sheet all.1 both.0)

-- each of some, and one more
pub all_behind : {X : Type 0} (P : X → Type 0) (xs : List X) (x : X) → AllByRecursion P xs → P x → AllByRecursion P (xs ++ x ∷ [])
all_behind P [] x all one = (one, tt)
all_behind P (first ∷ xs) x all one = (all.0, all_behind P xs x all.1 one)

-- what a leg adds to the line of a get
abbrev pub weight_of : NodeCommand → ℕ
weight_of (Get key) = length key + 1
weight_of (Set key flags exptime block) = 0
weight_of (Delete key) = 0

abbrev pub weight : LegSheet → ℕ
weight sheet = weight_of sheet.command

abbrev pub weights : List LegSheet → ℕ
weights sheets = sum_by weight sheets

abbrev sent_weight : SentLeg → ℕ
sent_weight sent = weights (legs_of sent)

weighs_more : (sheet : LegSheet) (sent : SentLeg) → sent_weight (behind sheet sent) ≡ sent_weight sent + weight sheet
weighs_more sheet sent =
    let own = sum_by-cons weight sent.leg sent.others in
    let more = sum_by-cons weight sent.leg (sent.others ++ sheet ∷ []) in
    let both = sum_by-append weight sent.others (sheet ∷ []) in
    let last = sum_by-cons weight sheet [] in
    omega arith

one_weighs : (asker : Asker) (sheet : LegSheet) (sents : List SentLeg) → sum_by sent_weight (with_traveller asker sheet sents) ≡ sum_by sent_weight sents + weight sheet
one_weighs asker sheet [] =
    let only = sum_by-cons sent_weight (sent_by asker sheet) [] in
    let leg = sum_by-cons weight sheet [] in
    omega arith
one_weighs asker sheet (sent ∷ sents) =
    elim (travels_with sheet sent.leg) as (λ b. sum_by sent_weight (cond b (behind sheet sent ∷ sents) (sent ∷ with_traveller asker sheet sents)) ≡ sum_by sent_weight (sent ∷ sents) + weight sheet) [
      | true ↦ (
          let new = sum_by-cons sent_weight (behind sheet sent) sents in
          let old = sum_by-cons sent_weight sent sents in
          let more = weighs_more sheet sent in
          omega arith)
      | false ↦ (
          let new = sum_by-cons sent_weight sent (with_traveller asker sheet sents) in
          let old = sum_by-cons sent_weight sent sents in
          let rest = one_weighs asker sheet sents in
          omega arith)
    ]

all_weigh : (asker : Asker) (sheets : List LegSheet) (sents : List SentLeg) → sum_by sent_weight (travelling asker sents sheets) ≡ sum_by sent_weight sents + weights sheets
all_weigh asker [] sents = omega arith
all_weigh asker (sheet ∷ sheets) sents =
    let first = one_weighs asker sheet sents in
    let rest = all_weigh asker sheets (with_traveller asker sheet sents) in
    let sum = sum_by-cons weight sheet sheets in
    omega arith

each_light : (sents : List SentLeg) (most : ℕ) → sum_by sent_weight sents ≤ most → AllByRecursion (λ (sent : SentLeg). sent_weight sent ≤ most) sents
each_light [] most h = tt
each_light (sent ∷ sents) most h =
    let sum = sum_by-cons sent_weight sent sents in
    let here : sent_weight sent ≤ most = omega arith in
    let rest : sum_by sent_weight sents ≤ most = omega arith in
    (here, each_light sents most rest)

-- the text of each leg by itself can be read
abbrev pub IsReadableSheet : LegSheet → Type 0
IsReadableSheet sheet = IsValidRequest (request_for sheet.command)

key_is : (sheet : LegSheet) → is_get sheet.command ≡ true → IsReadableSheet sheet → IsKey (key_of sheet)
key_is sheet get valid =
    let asked : IsValidRequest (request_for (Get (key_of sheet))) = subst (λ c. IsValidRequest (request_for c)) (sym (get_is sheet.command get)) valid in
    All-head IsKey (key_of sheet) [] asked.are_keys

keys_are : (sheets : List LegSheet) → AllGets sheets → AllByRecursion IsReadableSheet sheets → All IsKey (map key_of sheets)
keys_are [] gets valid = All-nil IsKey
keys_are (sheet ∷ sheets) gets valid = All-cons IsKey (key_of sheet) (map key_of sheets) (key_is sheet gets.0 valid.0) (keys_are sheets gets.1 valid.1)

key_weight : (sheet : LegSheet) → is_get sheet.command ≡ true → weight sheet ≡ length (key_of sheet) + 1
key_weight sheet get = ap weight_of (sym (get_is sheet.command get))

keys_weigh : (sheets : List LegSheet) → AllGets sheets → sum_by (λ (key : List ℕ). length key + 1) (map key_of sheets) ≡ weights sheets
keys_weigh [] gets = refl
keys_weigh (sheet ∷ sheets) gets =
    let own = key_weight sheet gets.0 in
    let rest = keys_weigh sheets gets.1 in
    let keys = sum_by-cons (λ (key : List ℕ). length key + 1) (key_of sheet) (map key_of sheets) in
    let sum = sum_by-cons weight sheet sheets in
    omega arith

-- what gets ask together can be read where it fits a line
together_valid : (leg : LegSheet) (others : List LegSheet) → AreGets leg others → AllByRecursion IsReadableSheet (leg ∷ others) → 3 + weights (leg ∷ others) ≤ MAX_LINE
    → IsValidRequest (request_with leg.command others)
together_valid leg [] gets valid fits = subst IsValidRequest (sym (request_one leg.command)) valid.0
together_valid leg (other ∷ others) gets valid fits =
    let sheets : List LegSheet = leg ∷ other ∷ others in
    let weigh = keys_weigh sheets gets in
    subst IsValidRequest (sym (request_many leg.command (other ∷ others) gets.0))
    (record { some = omega arith; fit = omega arith; are_keys = keys_are sheets gets valid })

-- what is known of what travels, whatever it weighs
record IsFit (sent : SentLeg) : Type 0 where
  gets : AreGets sent.leg sent.others
  valid : AllByRecursion IsReadableSheet (legs_of sent)

fit_all : (asker : Asker) (sheets : List LegSheet) → AllByRecursion IsReadableSheet sheets → AllByRecursion IsFit (travelling asker [] sheets)
fit_all asker sheets valid =
    all_travel IsReadableSheet IsFit asker (λ sheet one. record { gets = tt; valid = (one, tt) })
    (λ sheet sent one h e. record {
      gets = more_gets sheet sent.leg sent.others e h.gets;
      valid = (h.valid.0, all_behind IsReadableSheet sent.others sheet h.valid.1 one);
    })
    sheets [] valid tt

-- what travels can be read
pub record IsTravelling (sent : SentLeg) : Type 0 where
  pub gets : AreGets sent.leg sent.others
  pub valid : IsValidRequest (request_with sent.leg.command sent.others)

each_travels : (sents : List SentLeg) (most : ℕ) → 3 + most ≤ MAX_LINE → AllByRecursion IsFit sents → AllByRecursion (λ (sent : SentLeg). sent_weight sent ≤ most) sents
    → AllByRecursion IsTravelling sents
each_travels [] most fits fit light = tt
each_travels (sent ∷ sents) most fits fit light = (
  (let here = light.0 in record { gets = fit.0.gets; valid = together_valid sent.leg sent.others fit.0.gets fit.0.valid (omega arith) }),
  each_travels sents most fits fit.1 light.1,
)

-- the legs of a request fit together
abbrev pub FitTogether : List LegSheet → Type 0
FitTogether sheets = 3 + weights sheets ≤ MAX_LINE

pub travel_valid : (asker : Asker) (sheets : List LegSheet) → AllByRecursion IsReadableSheet sheets → FitTogether sheets → AllByRecursion IsTravelling (travelling asker [] sheets)
travel_valid asker sheets valid fits =
    let sum = all_weigh asker sheets [] in
    each_travels (travelling asker [] sheets) (weights sheets) fits (fit_all asker sheets valid) (each_light (travelling asker [] sheets) (weights sheets) (omega arith))

-- the legs of a get weigh what its keys do
pub gets_weigh : (routing : RoutingView) (hop : ℕ) (op : OpId) (place : ℕ) (side : Side) (keys : List (List ℕ))
    → weights (sheets_from routing hop op place (targets_of (side ∷ []) (map Get keys))) ≡ sum_by (λ (key : List ℕ). length key + 1) keys
gets_weigh routing hop op place side [] = refl
gets_weigh routing hop op place side (key ∷ keys) =
    let rest = gets_weigh routing hop op (place + 1) side keys in
    let sheets : List LegSheet = sheets_from routing hop op (place + 1) (targets_of (side ∷ []) (map Get keys)) in
    let keys_sum : sum_by (λ (k : List ℕ). length k + 1) (key ∷ keys) ≡ (length key + 1) + sum_by (λ (k : List ℕ). length k + 1) keys = sum_by-cons (λ (k : List ℕ). length k + 1) key keys in
    let sum : weights (sheets_from routing hop op place (targets_of (side ∷ []) (map Get (key ∷ keys)))) ≡ (length key + 1) + weights sheets =
    sum_by-cons weight (sheet_at routing hop op place (record { side = side; command = Get key })) sheets in
    sum ∙ ap (λ n. (length key + 1) + n) rest ∙ sym keys_sum

-- those of any other request weigh nothing
pub others_weigh : (routing : RoutingView) (hop : ℕ) (op : OpId) (place : ℕ) (sides : List Side) (command : NodeCommand) → weight_of command ≡ 0
    → weights (sheets_from routing hop op place (targets_of sides (command ∷ []))) ≡ 0
others_weigh routing hop op place [] command none = refl
others_weigh routing hop op place (side ∷ sides) command none =
    let rest = others_weigh routing hop op (place + 1) sides command none in
    let sheets : List LegSheet = sheets_from routing hop op (place + 1) (targets_of sides (command ∷ [])) in
    let sum : weights (sheets_from routing hop op place (targets_of (side ∷ sides) (command ∷ []))) ≡ weight_of command + weights sheets =
    sum_by-cons weight (sheet_at routing hop op place (record { side = side; command = command })) sheets in
    sum ∙ ap (λ n. n + weights sheets) none ∙ (let none_more : 0 + weights sheets ≡ weights sheets = omega arith in none_more) ∙ rest

-- the legs of a request that was read fit together
pub legs_fit : (routing : RoutingView) (hops : List Hop) (op : OpId) (u : ℕ) (asked : Request) → FitsLine asked → FitTogether (sheets_by routing hops op u asked)
legs_fit routing hops op u (request.Get keys) fits =
    let weigh = gets_weigh routing (hop_of hops u) op 0 (read_side_of (phase_of hops u)) keys in
    omega arith
legs_fit routing hops op u (request.Set key flags exptime block noreply) fits =
    let weigh = others_weigh routing (hop_of hops u) op 0 (sides_at hops kind.Set u) (Set key flags exptime block) refl in
    omega arith
legs_fit routing hops op u (request.Delete key noreply) fits =
    let weigh = others_weigh routing (hop_of hops u) op 0 (sides_at hops kind.Delete u) (Delete key) refl in
    omega arith
legs_fit routing hops op u request.Quit fits = omega arith
