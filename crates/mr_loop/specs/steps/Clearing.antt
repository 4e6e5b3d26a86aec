-- Which link is full, by the keys and the sides of a request.
use Rattle.std.specs.Prelude.{ℕ, Bool, List, [], ◌∷◌, Option, Some, None, if◌then◌else◌}
use Rattle.std.specs.List.{list_all}
use Rattle.mr_phases.specs.Pools.{pool_number}
use Rattle.mr_phases.specs.declared.side.Side.{Side}
use Rattle.mr_pools.specs.Routing.{RoutingView}
use Rattle.mr_loop.specs.declared.link.Link.{Link}
use Rattle.mr_loop.specs.Links.{has_place, has_place_in, link_of_key}

-- each link has a place
abbrev pub have_places : ℕ → List Link → Bool
have_places most links = list_all (λ link. has_place_in most (Some link)) links

abbrev pub full_of_keys : ℕ → RoutingView → ℕ → List (List ℕ) → List Link → Option ℕ
full_of_keys most routing pool [] links = None
full_of_keys most routing pool (key ∷ keys) links =
    if has_place most links (link_of_key routing pool key) then full_of_keys most routing pool keys links
    else Some (link_of_key routing pool key)

abbrev pub full_of_sides : ℕ → RoutingView → ℕ → List Side → List ℕ → List Link → Option ℕ
full_of_sides most routing hop [] key links = None
full_of_sides most routing hop (side ∷ sides) key links =
    if has_place most links (link_of_key routing (pool_number hop side) key) then full_of_sides most routing hop sides key links
    else Some (link_of_key routing (pool_number hop side) key)
