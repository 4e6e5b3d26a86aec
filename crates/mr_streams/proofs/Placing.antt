-- A leg goes over the link to the node that its sheet names.
use Rattle.std.proofs.Common.{◌≡◌, ℕ, zero, suc, ◌+◌, ◌<◌, List, [], ◌∷◌, ◌++◌, length, slice_get, get_or, Some, sym, ap, ◌∙◌, subst, arith}
use Rattle.std.specs.Prelude.{slice_index_or, take}
use Rattle.std.specs.List.{flat_map}
use Rattle.std.proofs.lemmas.List.Sums.{sum_by-cons}
use Rattle.std.proofs.lemmas.Nat.{mod_below}
use Rattle.std.proofs.lemmas.Option.{slice_get-get_or}
use Rattle.mr_history.specs.Places.{At}
use Rattle.mr_history.specs.declared.op_id.OpId.{OpId}
use Rattle.mr_text.specs.declared.request.Request.{Request}
use Rattle.mr_node.specs.Command.{key_of_command}
use Rattle.mr_phases.specs.Pools.{pool_number}
use Rattle.mr_phases.specs.Schedule.{Hop, hop_of}
use Rattle.mr_phases.specs.declared.side.Side.{Side}
use Rattle.mr_phases.specs.declared.side.Side.TheVariants.{Old, New}
use Rattle.mr_pools.specs.Hash.{spot_by}
use Rattle.mr_pools.specs.Names.{HasNode, name_at}
use Rattle.mr_pools.specs.Routing.{RoutingView, pool_of}
use Rattle.mr_proxy.specs.Sheets.{sheets_by, IsSheetOf, pool_at}
use Rattle.mr_proxy.specs.declared.sheet.LegSheet.{LegSheet}
use Rattle.mr_loop.specs.Links.{link_of, nodes_before}
use Rattle.mr_world.specs.Headline.{IsPlan}
use Rattle.mr_streams.specs.Steps.{names_of}
use Rattle.mr_streams.proofs.Lists.{at_left, at_right}

got_name : (pools : List (List (List ℕ))) (n k : ℕ) → n < length pools → k < length (slice_index_or pools n [])
    → slice_get (flat_map (λ pool. pool) pools) (nodes_before pools n + k) ≡ Some (slice_index_or (slice_index_or pools n []) k [])
got_name [] n k below within = absurd (omega arith)
got_name (pool ∷ pools) zero k below within =
    let none : nodes_before (pool ∷ pools) 0 + k ≡ k = omega arith in
    let own : At pool k (get_or pool k []) = record { gets = slice_get-get_or pool k [] within } in
    let all : At (pool ++ flat_map (λ p. p) pools) k (get_or pool k []) = at_left (flat_map (λ p. p) pools) own in
    ap (λ x. slice_get (flat_map (λ p. p) (pool ∷ pools)) x) none ∙ all.gets
got_name (pool ∷ pools) (suc n) k below within =
    let first : nodes_before (pool ∷ pools) (suc n) ≡ length pool + nodes_before pools n = sum_by-cons length pool (take n pools) in
    let more : nodes_before (pool ∷ pools) (suc n) + k ≡ length pool + (nodes_before pools n + k) = omega (arith, first) in
    let later : At (flat_map (λ p. p) pools) (nodes_before pools n + k) (slice_index_or (slice_index_or pools n []) k []) = record { gets = got_name pools n k (omega arith) within } in
    ap (λ x. slice_get (flat_map (λ p. p) (pool ∷ pools)) x) more ∙ (at_right pool later).gets

-- the link of a sheet goes to the node of the name that the routing has for it
pub link_named : (routing : RoutingView) (sheet : LegSheet) → HasNode routing (pool_at sheet) sheet.node
    → At (names_of routing) (link_of routing sheet) (name_at routing (pool_at sheet) sheet.node)
link_named routing sheet has = record { gets = got_name routing.pools (pool_at sheet) sheet.node has.pool has.within }

-- what is known of sheets
pub record SheetLaws : Type 0 where
  pub say : (routing : RoutingView) (hops : List Hop) (op : OpId) (u : ℕ) (request : Request) (place : ℕ) (sheet : LegSheet)
      → slice_get (sheets_by routing hops op u request) place ≡ Some sheet → IsSheetOf routing hops op u request place sheet
  pub within : (hops : List Hop) (t : ℕ) → 0 < length hops → hop_of hops t < length hops

pool_within : (hop pools : ℕ) (side : Side) → hop + 1 < pools → pool_number hop side < pools
pool_within hop pools Old h = omega arith
pool_within hop pools New h = h

-- each sheet of a request goes to a node that is there
pub sheet_placed : SheetLaws → (routing : RoutingView) (hops : List Hop) (op : OpId) (u : ℕ) (request : Request) (place : ℕ) (sheet : LegSheet) → IsPlan routing hops
    → slice_get (sheets_by routing hops op u request) place ≡ Some sheet → HasNode routing (pool_at sheet) sheet.node
sheet_placed laws routing hops op u request place sheet plan there =
    let says = laws.say routing hops op u request place sheet there in
    let hop : hop_of hops u < length hops = laws.within hops u plan.schedule.begins in
    let many : length routing.pools ≡ length hops + 1 = plan.chain in
    let next : sheet.hop + 1 < length routing.pools = (let e = says.hop in omega arith) in
    let below : pool_at sheet < length routing.pools = pool_within sheet.hop (length routing.pools) sheet.side next in
    let some = (plan.sound.sized (pool_at sheet) below).not_empty in
    record {
      pool = below;
      within = subst (λ n. n < length (pool_of routing (pool_at sheet))) (sym says.node)
          (mod_below (spot_by routing.hash (key_of_command sheet.command)) (length (pool_of routing (pool_at sheet))) (omega arith));
    }
