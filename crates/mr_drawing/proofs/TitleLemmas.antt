-- Texts behind references are the texts.
use Rattle.std.proofs.Common.{◌≡◌, ℕ, zero, suc, List, [], ◌∷◌, map, slice_get, refl}
use Rattle.std.specs.Borrow.{Bor}
use Rattle.mr_drawing.specs.Over.{bytes_at, text_at}

pub text_of_map : (texts : List (Bor (List ℕ))) (place : ℕ) → text_at (map (λ text. text.now) texts) place ≡ bytes_at (slice_get texts place)
text_of_map [] place = refl
text_of_map (text ∷ texts) zero = refl
text_of_map (text ∷ texts) (suc place) = text_of_map texts place
