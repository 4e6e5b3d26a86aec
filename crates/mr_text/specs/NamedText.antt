-- The texts of errors that have a name.
use Rattle.std.specs.Prelude.{ℕ, List, [], ◌∷◌, codes, IsTrue}
use Rattle.std.specs.List.{list_any}
use Rattle.std.specs.Str.{bytes_eq}

-- what a refused request is answered, and then what a failed one is
abbrev pub named_texts : List (List ℕ)
named_texts =
    codes "line too long" ∷ codes "bad key" ∷ codes "bad number" ∷ codes "wrong words" ∷ codes "data too long" ∷
    codes "bad data end" ∷ codes "leg lost" ∷ codes "busy" ∷ codes "out of memory" ∷ codes "clock fault" ∷
    codes "book full" ∷ codes "numbers spent" ∷ codes "node refused" ∷ []

-- the text is the name of a cause
abbrev pub IsNamedText : List ℕ → Type 0
IsNamedText text = IsTrue (list_any (bytes_eq text) named_texts)
