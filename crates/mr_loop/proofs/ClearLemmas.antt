-- Which link is full, leg by leg and key by key.
use Rattle.std.proofs.Common.{◌≡◌, ℕ, zero, suc, ◌+◌, ◌&&◌, Bool, true, false, List, [], ◌∷◌, Some, None, cond, map, refl, sym, ap, ◌∙◌}
use Rattle.mr_text.specs.declared.request.Request.{Request}
use Rattle.mr_text.specs.declared.request.Request.TheVariants as asked
use Rattle.mr_history.specs.declared.op_id.OpId.{OpId}
use Rattle.mr_node.specs.declared.command.NodeCommand.TheVariants.{Get}
use Rattle.mr_phases.specs.Pools.{pool_number}
use Rattle.mr_phases.specs.Schedule.{Hop, hop_of, phase_of}
use Rattle.mr_phases.specs.Sides.{read_side_of}
use Rattle.mr_phases.specs.declared.side.Side.{Side}
use Rattle.mr_pools.specs.Routing.{RoutingView}
use Rattle.mr_proxy.specs.Sheets.{sheets_by, sheets_from, targets_of}
use Rattle.mr_loop.specs.declared.link.Link.{Link}
use Rattle.mr_proxy.specs.declared.sheet.LegSheet.{LegSheet}
use Rattle.mr_loop.specs.Links.{first_full, has_place, has_place_in, link_of, link_of_key}
use Rattle.mr_loop.specs.steps.Clearing.{full_of_keys, have_places}

-- the legs of a get are those of its keys
pub keys_same : (most : ℕ) (routing : RoutingView) (hop : ℕ) (op : OpId) (place : ℕ) (side : Side) (keys : List (List ℕ)) (links : List Link)
    → full_of_keys most routing (pool_number hop side) keys links
    ≡ first_full most routing (sheets_from routing hop op place (targets_of (side ∷ []) (map Get keys))) links
keys_same most routing hop op place side [] links = refl
keys_same most routing hop op place side (key ∷ keys) links =
    ap (λ o. cond (has_place most links (link_of_key routing (pool_number hop side) key)) o (Some (link_of_key routing (pool_number hop side) key)))
    (keys_same most routing hop op (place + 1) side keys links)

-- the legs of a get that is judged by a reading
pub get_same : (most : ℕ) (routing : RoutingView) (hops : List Hop) (op : OpId) (u : ℕ) (hop pool : ℕ) (side : Side) (keys : List (List ℕ)) (request : Request) (links : List Link)
    → hop ≡ hop_of hops u → side ≡ read_side_of (phase_of hops u) → pool ≡ pool_number hop side → request ≡ asked.Get keys
    → full_of_keys most routing pool keys links ≡ first_full most routing (sheets_by routing hops op u request) links
get_same most routing hops op u hop pool side keys request links h s p r =
    ap (λ n. full_of_keys most routing n keys links) p
    ∙ keys_same most routing hop op 0 side keys links
    ∙ ap (λ n. first_full most routing (sheets_from routing n op 0 (targets_of (side ∷ []) (map Get keys))) links) h
    ∙ ap (λ (x : Side). first_full most routing (sheets_from routing (hop_of hops u) op 0 (targets_of (x ∷ []) (map Get keys))) links) s
    ∙ ap (λ (x : Request). first_full most routing (sheets_by routing hops op u x) links) (sym r)

both_true : (a b : Bool) → (a && b) ≡ true → (a ≡ true) × (b ≡ true)
both_true true true e = (refl, refl)
both_true true false e = cc
both_true false b e = cc

-- where each link has a place, so has the one of any number
has_there : (most : ℕ) (links : List Link) → have_places most links ≡ true → (number : ℕ) → has_place most links number ≡ true
has_there most [] e number = refl
has_there most (link ∷ links) e zero = (both_true (has_place_in most (Some link)) (have_places most links) e).0
has_there most (link ∷ links) e (suc number) = has_there most links (both_true (has_place_in most (Some link)) (have_places most links) e).1 number

-- and no leg goes over a link that is full
pub none_full : (most : ℕ) (routing : RoutingView) (sheets : List LegSheet) (links : List Link) → have_places most links ≡ true
    → first_full most routing sheets links ≡ None
none_full most routing [] links e = refl
none_full most routing (sheet ∷ sheets) links e =
    let here = has_there most links e (link_of routing sheet) in
    ap (λ t. cond t (first_full most routing sheets links) (Some (link_of routing sheet))) here ∙ none_full most routing sheets links e
