-- The room that an answer needs.
use Rattle.std.specs.Prelude.{◌≡◌, ℕ, ◌≤◌, List, [], ◌∷◌, length}
use Rattle.mr_text.specs.declared.item.Item.{Item}
use Rattle.mr_text.specs.declared.request.Request.{Request}
use Rattle.mr_text.specs.declared.request.Request.TheVariants.{Get, Set, Delete, Quit}

-- for how many items there has to be room, where these keys are asked for: a single one stands in its list itself
abbrev pub room_needed : List (List ℕ) → ℕ
room_needed [] = 0
room_needed (key ∷ []) = 0
room_needed (key ∷ other ∷ keys) = length (key ∷ other ∷ keys)

-- for how many items of an answer to the request there has to be room
abbrev pub most_items : Request → ℕ
most_items (Get keys) = room_needed keys
most_items (Set key flags exptime block noreply) = 0
most_items (Delete key noreply) = 0
most_items Quit = 0

-- nothing is there yet, and it all fits
pub record HasRoomFor (request : Request) (items : List Item) (capacity : ℕ) : Type 0 where
  pub unused : items ≡ []
  pub fits : most_items request ≤ capacity
