-- Files to load, as contracts see them, and what one load does to them.
use Rattle.std.specs.Prelude.{◌≡◌, ◌≢◌, ℕ, ◌+◌, ◌≤◌, ◌⊎◌, List, ◌++◌, take, length, Result, Ok, Err}
use Rattle.std.specs.declared.io.ErrorKind.{ErrorKind}
use Rattle.std.specs.declared.io.ErrorKind.TheVariants.{OutOfMemory}
use Rattle.mr_tool.specs.declared.sources.LoadFault.{LoadFault}
use Rattle.mr_tool.specs.declared.sources.LoadFault.TheVariants.{Unreadable, Memory}

-- what is known of the file at a path: nothing, that it can't be read, or the bytes that it holds
pub data Known : Type 0 where
  Unknown : Known
  Absent : Known
  Holds : (bytes : List ℕ) → Known

-- files as contracts see them
pub record SourcesView : Type 0 where
  -- what is known of the file at each path
  pub files : List ℕ → Known
  -- the paths that were asked for, one behind the other
  pub asked : List ℕ
  -- the bytes that were given, those of one file behind those of the other
  pub given : List ℕ
  -- how often a file was asked for
  pub loads : ℕ
  -- how often it wasn't given
  pub failures : ℕ

-- the most bytes that one load gives
abbrev pub most_loaded : ℕ
most_loaded = 16777217

-- a file of which this is known gives these bytes
abbrev pub MayGive : Known → List ℕ → Type 0
MayGive Unknown bytes = Unit {0}
MayGive Absent bytes = ⊥
MayGive (Holds all) bytes = bytes ≡ take most_loaded all

-- it isn't given, for this fault: nothing but want of memory keeps a file that is there
abbrev pub MayFail : Known → LoadFault → Type 0
MayFail known Memory = Unit {0}
MayFail (Holds all) Unreadable = ⊥
MayFail known Unreadable = Unit {0}

-- why a file wasn't given, by what the system said: memory was refused, or it can't be read
abbrev pub IsLoadFault : ErrorKind → LoadFault → Type 0
IsLoadFault kind fault = ((kind ≡ OutOfMemory) × (fault ≡ Memory)) ⊎ ((kind ≢ OutOfMemory) × (fault ≡ Unreadable))

-- the bytes of the file, or the fault
abbrev pub HasLoaded : Known → SourcesView → Result (List ℕ) LoadFault → SourcesView → Type 0
HasLoaded known old (Ok bytes) new =
    MayGive known bytes × (length bytes ≤ most_loaded) × (new.given ≡ old.given ++ bytes) × (new.failures ≡ old.failures)
HasLoaded known old (Err fault) new = MayFail known fault × (new.given ≡ old.given) × (new.failures ≡ old.failures + 1)

-- one load of the file at a path
pub record IsOneLoad (path : List ℕ) (old : SourcesView) (result : Result (List ℕ) LoadFault) (new : SourcesView) : Type 0 where
  pub gives : HasLoaded (old.files path) old result new
  pub same : new.files ≡ old.files
  pub asked : new.asked ≡ old.asked ++ path
  pub counted : new.loads ≡ old.loads + 1
