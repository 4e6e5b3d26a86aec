-- The body of a response.
use Rattle.std.specs.Prelude.{◌≡◌, ℕ, ◌≤◌, List, length, map, All, codes, decimal}
use Rattle.std.specs.Char.{to_ascii_lowercase}
use Rattle.httparse.specs.Grammar.{ResponseHead, ReadsResponse, status_code}
use Rattle.httparse.specs.Spans.{name_and_value}
use Rattle.mr_http.specs.Heard.{MAX_FIELDS}
use Rattle.mr_http.specs.declared.error.FetchFault.{FetchFault}
use Rattle.mr_http.specs.declared.error.FetchFault.TheVariants.{NoResponse, OutOfMemory}

-- two names of fields are one, in upper or lower case
abbrev pub AreOneName : List ℕ → List ℕ → Type 0
AreOneName name other = map to_ascii_lowercase name ≡ map to_ascii_lowercase other

-- what a field, with its value, says of a body of so many bytes: that it has so many, and nothing of a coding that it is sent in
-- (from: RFC 9112)
pub record Agrees (bytes : ℕ) (field : List ℕ × List ℕ) : Type 0 where
  pub length_is : AreOneName field.0 (codes "Content-Length") → field.1 ≡ decimal bytes
  pub is_plain : ¬ AreOneName field.0 (codes "Transfer-Encoding")

-- the response has this whole body: all that follows its head, of status 200, whose fields agree with it
-- (from: RFC 9112)
pub record IsBody (response body : List ℕ) : Type 0 where
  pub head : ResponseHead
  pub reads : ReadsResponse response head body
  pub well : status_code head ≡ 200
  pub few : length head.fields ≤ MAX_FIELDS
  pub agree : All (Agrees (length body)) (map name_and_value head.fields)

-- the response has no body
abbrev pub HasNoBody : List ℕ → Type 0
HasNoBody response = (body : List ℕ) → ¬ IsBody response body

-- why the body of a response isn't given: it has none, or there was no memory for the one that it has
abbrev pub HasNoneFor : List ℕ → FetchFault → Type 0
HasNoneFor response NoResponse = HasNoBody response
HasNoneFor response OutOfMemory = (body : List ℕ) × IsBody response body
HasNoneFor response fault = ⊥
