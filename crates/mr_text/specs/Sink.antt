-- A place to write to, as contracts see it, and what one call and a whole text do to it.
use Rattle.std.specs.Prelude.{◌≡◌, ℕ, ◌+◌, List, ◌++◌, Bool, true, false, Option, Result, Ok, Err}
use Rattle.std.specs.Io.KnownBytes.{Appends}
use Rattle.mr_text.specs.declared.error.WriteFault.{WriteFault}

-- what a sink tells of itself
pub record SinkView : Type 0 where
  -- the bytes of the calls that succeeded
  pub written : List ℕ
  -- the bytes of all calls, those that failed included
  pub handed : List ℕ
  -- how often it was called
  pub calls : ℕ
  -- how often a call failed
  pub failures : ℕ
  -- whether the last call failed
  pub last_failed : Bool
  -- all that it holds, where that is known
  pub contents : Option (List ℕ)

-- all of the text went out, by calls that succeeded
pub record HasWritten (text : List ℕ) (old new : SinkView) : Type 0 where
  pub written : new.written ≡ old.written ++ text
  pub handed : new.handed ≡ old.handed ++ text
  pub steady : new.failures ≡ old.failures
  pub holds : Appends old.contents new.contents text

-- A beginning of the text went out, and the piece behind it was handed to a call that failed. That call was the last.
pub record HasStopped (text : List ℕ) (old new : SinkView) : Type 0 where
  pub front : List ℕ
  pub piece : List ℕ
  pub rest : List ℕ
  pub splits : text ≡ front ++ (piece ++ rest)
  pub written : new.written ≡ old.written ++ front
  pub handed : new.handed ≡ old.handed ++ (front ++ piece)
  pub failed : new.failures ≡ old.failures + 1
  pub last : new.last_failed ≡ true

-- what a writer of the text leaves, when it succeeds and when it passes on a fault
abbrev pub Writes : List ℕ → SinkView → Result (Unit {0}) WriteFault → SinkView → Type 0
Writes text old (Ok _) new = HasWritten text old new
Writes text old (Err _) new = HasStopped text old new

-- one call hands over these bytes, all at once: they are written, or it fails
abbrev pub IsOneWrite : List ℕ → SinkView → Result (Unit {0}) WriteFault → SinkView → Type 0
IsOneWrite bytes old (Ok _) new = HasWritten bytes old new × (new.last_failed ≡ false) × (new.calls ≡ old.calls + 1)
IsOneWrite bytes old (Err _) new =
    (new.written ≡ old.written) × (new.handed ≡ old.handed ++ bytes) × (new.failures ≡ old.failures + 1) × (new.last_failed ≡ true)
    × (new.calls ≡ old.calls + 1)
