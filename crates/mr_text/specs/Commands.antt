-- The words of a request's line.
use Rattle.std.specs.Prelude.{◌≡◌, ℕ, ◌<◌, ◌^◌, ◌⊎◌, Bool, true, false, List, [], ◌∷◌, All, Contains, ℤ, pos, neg_ℤ, ◌≤ℤ◌, codes, IsTrue, ◌↔◌, ◌-◌}
use Rattle.mr_lines.specs.Numbers.{IsNumber, IsSigned}
use Rattle.mr_text.specs.Key.{IsKey, HasKey}

-- what the words of a line say, before it is asked whether they may
-- (from: protocol.txt, "Retrieval command", "Storage commands", "Deletion")
pub data Shape : Type 0 where
  GetShape : (keys : List (List ℕ)) → Shape
  SetShape : (key flags exptime bytes : List ℕ) (noreply : Bool) → Shape
  DeleteShape : (key : List ℕ) (noreply : Bool) → Shape
  QuitShape : Shape

-- the words of each request; the word 0 of a delete says nothing
-- (from: protocol.txt, "Retrieval command", "Storage commands", "Deletion"; the word 0 own)
abbrev pub HasShape : List (List ℕ) → Shape → Type 0
HasShape words (GetShape keys) = (words ≡ codes "get" ∷ keys) × HasKey keys
HasShape words (SetShape key flags exptime bytes false) = words ≡ codes "set" ∷ key ∷ flags ∷ exptime ∷ bytes ∷ []
HasShape words (SetShape key flags exptime bytes true) = words ≡ codes "set" ∷ key ∷ flags ∷ exptime ∷ bytes ∷ codes "noreply" ∷ []
HasShape words (DeleteShape key false) = (words ≡ codes "delete" ∷ key ∷ []) ⊎ (words ≡ codes "delete" ∷ key ∷ codes "0" ∷ [])
HasShape words (DeleteShape key true) =
    (words ≡ codes "delete" ∷ key ∷ codes "noreply" ∷ []) ⊎ (words ≡ codes "delete" ∷ key ∷ codes "0" ∷ codes "noreply" ∷ [])
HasShape words QuitShape = words ≡ codes "quit" ∷ []

-- the words that begin a request
abbrev pub command_words : List (List ℕ)
command_words = codes "get" ∷ codes "set" ∷ codes "delete" ∷ codes "quit" ∷ []

-- the words of commands that aren't served and that a block follows
abbrev pub block_command_words : List (List ℕ)
block_command_words = codes "add" ∷ codes "replace" ∷ codes "append" ∷ codes "prepend" ∷ codes "cas" ∷ []

-- the line is no request: it has no word, or begins with none of theirs; it closes where a block follows
-- (from: protocol.txt, "Error strings"; which ones close own)
abbrev pub IsUnknown : List (List ℕ) → Bool → Type 0
IsUnknown [] closes = closes ≡ false
IsUnknown (word ∷ words) closes = (¬ Contains command_words word) × (IsTrue closes ↔ Contains block_command_words word)

-- the first word is a request's, but the words are not (from: protocol.txt, "Error strings")
abbrev pub AreWrong : List (List ℕ) → Type 0
AreWrong [] = ⊥
AreWrong (word ∷ words) = Contains command_words word × ((shape : Shape) → ¬ HasShape (word ∷ words) shape)

-- the keys are keys
abbrev pub HasKeys : Shape → Type 0
HasKeys (GetShape keys) = All IsKey keys
HasKeys (SetShape key flags exptime bytes noreply) = IsKey key
HasKeys (DeleteShape key noreply) = IsKey key
HasKeys QuitShape = Unit {0}

-- the range of exptime (from: protocol.txt, "Storage commands"; ranges own)
abbrev pub IsExptime : ℤ → Type 0
IsExptime number = (neg_ℤ (pos (2 ^ 63)) ≤ℤ number) × (number ≤ℤ pos (2 ^ 63 - 1))

-- what the numbers of a set's line say (from: protocol.txt, "Storage commands"; ranges own)
pub record Numbers (flags exptime bytes : List ℕ) (flags_number : ℕ) (exptime_number : ℤ) (length : ℕ) : Type 0 where
  pub flags_is : IsNumber flags flags_number
  pub flags_fits : flags_number < 2 ^ 32
  pub exptime_is : IsSigned exptime exptime_number
  pub exptime_fits : IsExptime exptime_number
  pub length_is : IsNumber bytes length
  pub length_fits : length < 2 ^ 64
