-- The characters of a text, one after another.
use Rattle.std.proofs.Common.{◌≡◌, ℕ, ◌++◌, List, [], ◌∷◌, length, arith}
use Rattle.std.specs.Prelude.{encode_utf8}
use Rattle.std.specs.Str.{chars, IsUtf8}
use Rattle.std.proofs.lemmas.Str.{chars_past_char, IsUtf8-past_char, chars-nil}

-- what the first character is, and that a text comes after it
pub first_point : (text rest : List ℕ) (point : ℕ) → IsUtf8 text → text ≡ encode_utf8 point ++ rest → chars text ≡ point ∷ chars rest
first_point text rest point utf8 is = chars_past_char text rest point utf8 is

pub text_after : (text rest : List ℕ) (point : ℕ) → IsUtf8 text → text ≡ encode_utf8 point ++ rest → IsUtf8 rest
text_after text rest point utf8 is = IsUtf8-past_char text rest point utf8 is

pub no_point : (text : List ℕ) → length text ≡ 0 → chars text ≡ []
no_point [] is = chars-nil
no_point (byte ∷ bytes) is = absurd (omega arith)
