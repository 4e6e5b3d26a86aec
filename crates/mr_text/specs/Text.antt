-- Lines of the text.
use Rattle.std.specs.Prelude.{◌≡◌, ℕ, List, [], ◌∷◌, ◌++◌}
use Rattle.mr_lines.specs.Lines.{without_carriage_return}
use Rattle.mr_text.specs.Line.{HasLineFeed}

-- the bytes are one line with its end: a line feed, and a carriage return before it that isn't the line's
-- (from: protocol.txt, "Commands"; the bare line feed own)
pub record IsLine (bytes line : List ℕ) : Type 0 where
  pub raw : List ℕ
  pub ends : bytes ≡ raw ++ 10 ∷ []
  pub only_end : ¬ HasLineFeed raw
  pub reads : line ≡ without_carriage_return raw
