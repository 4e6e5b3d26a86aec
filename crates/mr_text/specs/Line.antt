-- What the text of an error is that has no name of its own.
use Rattle.std.specs.Prelude.{◌≡◌, ℕ, ◌<◌, ◌≤◌, ◌⊎◌, List, length, Contains, Result, Ok, Err}
use Rattle.mr_text.specs.Limits.{MAX_ERROR_TEXT}
use Rattle.mr_text.specs.declared.error.TextError.{TextError}
use Rattle.mr_text.specs.declared.error.TextError.TheVariants.{LineTooLong, WrongWords, OutOfMemory}
use Rattle.mr_text.specs.NamedText.{IsNamedText}

-- a line feed is among the bytes
abbrev pub HasLineFeed : List ℕ → Type 0
HasLineFeed bytes = Contains bytes 10

-- it stands on one line, has room there, and is no named cause's
pub record IsErrorText (bytes : List ℕ) : Type 0 where
  pub not_long : length bytes ≤ MAX_ERROR_TEXT
  pub one_line : ¬ HasLineFeed bytes
  pub not_named : ¬ IsNamedText bytes

-- the text of the bytes, or LineTooLong, or else WrongWords; want of memory only where it is a text
abbrev pub IsLineOf : List ℕ → Result (List ℕ) TextError → Type 0
IsLineOf bytes (Ok line) = IsErrorText bytes × (line ≡ bytes)
IsLineOf bytes (Err e) =
    ((e ≡ LineTooLong) × (MAX_ERROR_TEXT < length bytes)) ⊎
    ((e ≡ WrongWords) × (length bytes ≤ MAX_ERROR_TEXT) × (HasLineFeed bytes ⊎ IsNamedText bytes)) ⊎
    ((e ≡ OutOfMemory) × IsErrorText bytes)
