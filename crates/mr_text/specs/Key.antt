-- What a key is: the bytes that name an item.
use Rattle.std.specs.Prelude.{◌≡◌, ◌≢◌, ℕ, ◌+◌, ◌<◌, ◌≤◌, ◌⊎◌, ◌==◌, ◌&&◌, Bool, not, nat_lt, nat_le, List, [], length, All, sum_by, Result, Ok, Err}
use Rattle.std.specs.List.{list_all}
use Rattle.mr_text.specs.Limits.{MAX_KEY, MAX_LINE, MAX_ITEMS}
use Rattle.mr_text.specs.declared.error.TextError.{TextError}
use Rattle.mr_text.specs.declared.error.TextError.TheVariants.{WrongWords, LineTooLong}

-- a byte of a key is neither a control character nor a space (from: protocol.txt, "Keys")
abbrev pub IsKeyByte : ℕ → Type 0
IsKeyByte byte = (32 < byte) × (byte ≢ 127)

-- a key: 1 to 250 bytes, each of which may stand in one (from: protocol.txt, "Keys")
pub record IsKey (bytes : List ℕ) : Type 0 where
  pub not_empty : 1 ≤ length bytes
  pub not_long : length bytes ≤ MAX_KEY
  pub printable : All IsKeyByte bytes

-- the same as tests
abbrev pub key_byte_test : ℕ → Bool
key_byte_test byte = nat_lt 32 byte && not (byte == 127)

-- a test for keys
unfoldable pub key_test : List ℕ → Bool
key_test bytes = nat_le 1 (length bytes) && nat_le (length bytes) MAX_KEY && list_all key_byte_test bytes

-- at least one key
abbrev pub HasKey : List (List ℕ) → Type 0
HasKey keys = 1 ≤ length keys

-- how long a `get` line of the keys is: the command, and each key with a space before it
abbrev pub get_line_length : List (List ℕ) → ℕ
get_line_length keys = 3 + sum_by (λ key. length key + 1) keys

-- that line is no longer than a line may be
abbrev pub FitLine : List (List ℕ) → Type 0
FitLine keys = get_line_length keys ≤ MAX_LINE

-- so few that a reply has an item for each
abbrev pub AreFew : List (List ℕ) → Type 0
AreFew keys = length keys ≤ MAX_ITEMS

-- the list of the keys, or WrongWords where there is none, or LineTooLong where they don't fit a line
abbrev pub IsKeyListOf : List (List ℕ) → Result (List (List ℕ)) TextError → Type 0
IsKeyListOf keys (Ok list) = HasKey keys × FitLine keys × (list ≡ keys)
IsKeyListOf keys (Err e) = ((keys ≡ []) × (e ≡ WrongWords)) ⊎ (HasKey keys × (¬ FitLine keys) × (e ≡ LineTooLong))
