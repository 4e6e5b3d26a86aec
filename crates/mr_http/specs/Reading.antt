-- What is read of the head of a request.
use Rattle.std.specs.Prelude.{◌≡◌, ℕ, ◌<◌, ◌≤◌, ◌+◌, List, [], ◌++◌, length, Bool, true, false}
use Rattle.mr_text.specs.Source.{SourceView}
use Rattle.mr_http.specs.Heard.{Hears}
use Rattle.mr_http.specs.declared.heard.Heard.{Heard}
use Rattle.mr_http.specs.declared.reading.HeadFault.{HeadFault}
use Rattle.mr_http.specs.declared.reading.HeadFault.TheVariants.{ReadFault, OutOfMemory}

-- how many bytes of a head are read at most
abbrev pub MAX_HEAD : ℕ
MAX_HEAD = 8192

-- how many reads are made at most: each but the last brings a byte
abbrev pub most_reads : ℕ
most_reads = 8193

-- one read brought a piece, which is empty at the end of the input alone
pub record AddsPiece (before after : List ℕ) (old new : SourceView) (ended : Bool) : Type 0 where
  pub piece : List ℕ
  pub added : after ≡ before ++ piece
  pub taken : new.taken ≡ old.taken ++ piece
  pub steady : new.failures ≡ old.failures
  pub few : length after ≤ MAX_HEAD
  pub brought : ended ≡ false → 0 < length piece
  pub stopped : ended ≡ true → piece ≡ []

-- a failed read, or one of which memory was refused for what it brought
abbrev pub Fails : HeadFault → SourceView → SourceView → Type 0
Fails ReadFault old new = new.failures ≡ old.failures + 1
Fails OutOfMemory old new = new.failures ≡ old.failures

-- these bytes were read, no more than there may be, and this is heard of them; no read failed
pub record HeadIs (bytes : List ℕ) (heard : Heard) (old new : SourceView) : Type 0 where
  pub steady : new.failures ≡ old.failures
  pub few : length bytes ≤ MAX_HEAD
  pub taken : new.taken ≡ old.taken ++ bytes
  pub hears : Hears bytes heard
