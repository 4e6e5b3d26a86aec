-- The digest of a configuration.
use Rattle.std.specs.Prelude.{◌≡◌, ℕ, List, Some, false}
use Rattle.hex.specs.Hex.{encode_lower}
use Rattle.serde_json.specs.Data.{Data}
use Rattle.serde_json.specs.Read.{read}
use Rattle.serde_json.specs.Written.{has_float, compact_text}
use Rattle.sha2.specs.Sha256.{sha256}
use Rattle.mr_configs.specs.Config.{IsJson}

-- the compact text of a value; of one whose numbers aren't all whole, a text that reads back as it
pub record IsCompactText (value : Data) (text : List ℕ) : Type 0 where
  pub whole : has_float value ≡ false → text ≡ compact_text value
  pub reads_back : read text ≡ Some value

-- the SHA-256 of a text, in lower-case hexadecimal digits
abbrev pub digits_of_text : List ℕ → List ℕ
digits_of_text text = encode_lower (sha256 text)

-- the bytes are JSON, and this is the digest of the compact text of their value
-- (from: SHA-256, as `sha2` computes it; of what text own)
pub record IsDigest (bytes digest : List ℕ) : Type 0 where
  pub value : Data
  pub text : List ℕ
  pub json : IsJson bytes value
  pub written : IsCompactText value text
  pub digits : digest ≡ digits_of_text text
