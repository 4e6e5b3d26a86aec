-- The words of a line.
use Rattle.std.specs.Prelude.{ℕ, ◌==◌, Bool, true, false, not, List, [], ◌∷◌, filter, if◌then◌else◌}

-- a byte in front of the first piece
abbrev pub begun_with : ℕ → List (List ℕ) → List (List ℕ)
begun_with byte [] = (byte ∷ []) ∷ []
begun_with byte (piece ∷ pieces) = (byte ∷ piece) ∷ pieces

-- the pieces between the spaces, empty ones too
abbrev pub pieces_of : List ℕ → List (List ℕ)
pieces_of [] = [] ∷ []
pieces_of (byte ∷ bytes) = if byte == 32 then [] ∷ pieces_of bytes else begun_with byte (pieces_of bytes)

-- no byte is there
abbrev pub is_empty : List ℕ → Bool
is_empty [] = true
is_empty (byte ∷ bytes) = false

-- the words: the pieces between the spaces that aren't empty (from: protocol.txt, "Commands"; several spaces own)
abbrev pub words_of : List ℕ → List (List ℕ)
words_of line = filter (λ piece. not (is_empty piece)) (pieces_of line)

-- the bytes from the first that is no space
abbrev pub drop_spaces : List ℕ → List ℕ
drop_spaces [] = []
drop_spaces (byte ∷ bytes) = if byte == 32 then drop_spaces bytes else byte ∷ bytes
