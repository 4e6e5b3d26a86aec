-- What a command reads before it does anything: the bytes that it is given, its configuration, its request.
use Rattle.std.specs.Io.KnownBytes.{Consumes, IsAtEnd}
use Rattle.std.specs.Prelude.{◌≡◌, ℕ, ◌+◌, ◌<◌, ◌≤◌, ◌⊎◌, false, List, [], ◌++◌, length, Option, Some, None, Result, Ok, Err, string_bytes}
use Rattle.mr_configs.specs.Config.{ConfigView, ReadsConfig}
use Rattle.mr_configs.specs.declared.error.PlanError.{PlanError}
use Rattle.mr_configs.specs.declared.error.PlanError.TheVariants.{TooLarge}
use Rattle.mr_text.specs.Limits.{MAX_LINE, MAX_BLOCK}
use Rattle.mr_text.specs.Requests.{SpellsRequest, RefusesRequest}
use Rattle.mr_text.specs.Source.{SourceView, AreOffered}
use Rattle.mr_text.specs.Stream.{ReaderView, Becomes, BeginsWith, IsUnfinished}
use Rattle.mr_text.specs.declared.request.Request.{Request}
use Rattle.mr_text.specs.declared.error.TextError.TheVariants.{Truncated, OutOfMemory}
use Rattle.mr_tool.specs.Devices.{Devices}
use Rattle.mr_tool.specs.Fault.{file_line}
use Rattle.mr_tool.specs.Loaded.{Loaded}
use Rattle.mr_tool.specs.Sources.{SourcesView, IsOneLoad, most_loaded}
use Rattle.mr_tool.specs.declared.fault.Fault.{Fault}
use Rattle.mr_tool.specs.declared.fault.Fault.TheVariants.{Memory, Input, File, Plan, Text}
use Rattle.mr_tool.specs.declared.sources.LoadFault.{LoadFault}
use Rattle.mr_tool.specs.declared.sources.LoadFault.TheVariants.{Unreadable}

-- the most bytes that are taken of an input: as many as of a file
abbrev pub most_taken : ℕ
most_taken = most_loaded

-- how many bytes there is room for in one read, unless fewer may still be taken
abbrev pub piece_length : ℕ
piece_length = 4096

-- These bytes were taken, each read but so many idle ones brought a byte of them, and none was made once all were taken
-- that may be. Each was offered the room of a read, or as much as might still be taken.
pub record Takes (bytes : List ℕ) (idle : ℕ) (before after : SourceView) : Type 0 where
  pub taken : after.taken ≡ before.taken ++ bytes
  pub consumes : Consumes before.left after.left bytes
  pub fits : length bytes + idle ≤ most_taken
  pub reads : after.reads ≤ before.reads + length bytes + idle
  pub offered : (room : ℕ) → room ≤ piece_length → length bytes + room ≤ most_taken
      → AreOffered room before.least_room → AreOffered room after.least_room

-- the input was taken whole: a read that brought nothing found its end, and was the last
pub record TakesAll (bytes : List ℕ) (before after : SourceView) : Type 0 where
  pub takes : Takes bytes 1 before after
  pub steady : after.failures ≡ before.failures
  pub ended : IsAtEnd after.left

-- as many bytes were taken as may be, and it wasn't read further
pub record TakesMost (bytes : List ℕ) (before after : SourceView) : Type 0 where
  pub takes : Takes bytes 0 before after
  pub steady : after.failures ≡ before.failures
  pub full : length bytes ≡ most_taken

-- the bytes of the input up to its end, or as many as may be taken
abbrev pub TakesWhole : List ℕ → SourceView → SourceView → Type 0
TakesWhole bytes before after = TakesAll bytes before after ⊎ TakesMost bytes before after

-- why it wasn't taken whole: a read failed, or memory was refused for what was taken; either was the last read
abbrev pub FailsWhole : Fault → SourceView → SourceView → Type 0
FailsWhole Input before after = (bytes : List ℕ) × Takes bytes 1 before after × (after.failures ≡ before.failures + 1)
FailsWhole Memory before after = (bytes : List ℕ) × Takes bytes 0 before after × (after.failures ≡ before.failures)
FailsWhole fault before after = ⊥

-- one load of the file at a path didn't give its bytes
abbrev pub LacksFile : List ℕ → Fault → SourcesView → SourcesView → Type 0
LacksFile path (File line) before after = IsOneLoad path before (Err Unreadable) after × (string_bytes line ≡ file_line path)
LacksFile path Memory before after = (fault : LoadFault) × IsOneLoad path before (Err fault) after
LacksFile path fault before after = ⊥

-- the bytes are those of the file, by one load, and the input isn't read; without a file those of the whole input
abbrev pub IsGiven : Option (List ℕ) → List ℕ → Devices → Devices → Type 0
IsGiven (Some path) bytes before after = IsOneLoad path before.sources (Ok bytes) after.sources × (after.input ≡ before.input)
IsGiven None bytes before after = TakesWhole bytes before.input after.input × (after.sources ≡ before.sources)

-- there are none, for this fault
abbrev pub IsNotGiven : Option (List ℕ) → Fault → Devices → Devices → Type 0
IsNotGiven (Some path) fault before after = LacksFile path fault before.sources after.sources × (after.input ≡ before.input)
IsNotGiven None fault before after = FailsWhole fault before.input after.input × (after.sources ≡ before.sources)

-- the largest configuration, in bytes
abbrev pub most_config_bytes : ℕ
most_config_bytes = 16777216

-- the bytes are a configuration, and no more than it may have
pub record HoldConfig (bytes : List ℕ) (config : ConfigView) : Type 0 where
  pub fits : length bytes ≤ most_config_bytes
  pub reads : ReadsConfig bytes (Ok config)

-- why bytes are no configuration: there are too many of them, else what reading them refuses
abbrev pub RefusesBytes : List ℕ → PlanError → Type 0
RefusesBytes bytes refusal =
    ((most_config_bytes < length bytes) × (refusal ≡ TooLarge)) ⊎ ((length bytes ≤ most_config_bytes) × ReadsConfig bytes (Err refusal))

-- What comes of one load of the file at a path: the configuration that its bytes are, or why there is none.
abbrev pub LoadsConfig : List ℕ → SourcesView → Result ConfigView Fault → SourcesView → Type 0
LoadsConfig path before (Ok config) after = (bytes : List ℕ) × IsOneLoad path before (Ok bytes) after × HoldConfig bytes config
LoadsConfig path before (Err (File line)) after = IsOneLoad path before (Err Unreadable) after × (string_bytes line ≡ file_line path)
LoadsConfig path before (Err (Plan refusal)) after = (bytes : List ℕ) × IsOneLoad path before (Ok bytes) after × RefusesBytes bytes refusal
LoadsConfig path before (Err Memory) after = (fault : LoadFault) × IsOneLoad path before (Err fault) after
LoadsConfig path before (Err fault) after = ⊥

-- the configuration alone, where there is one
abbrev pub config_of : Result Loaded Fault → Result ConfigView Fault
config_of (Ok loaded) = Ok loaded.config
config_of (Err fault) = Err fault

-- one load of the file at a path gave these bytes, and they are the configuration
abbrev pub LoadsWhole : List ℕ → SourcesView → Loaded → SourcesView → Type 0
LoadsWhole path before loaded after = IsOneLoad path before (Ok loaded.bytes) after × HoldConfig loaded.bytes loaded.config

-- no request is whole, and nothing is refused
abbrev pub HoldsNoRequest : List ℕ → Type 0
HoldsNoRequest bytes = IsUnfinished SpellsRequest RefusesRequest bytes

-- the bytes begin with the request
abbrev pub BeginsWithRequest : List ℕ → Request → Type 0
BeginsWithRequest bytes request = (after : List ℕ) × BeginsWith SpellsRequest bytes request after

-- the bytes hold the request, or get the refusal; want of memory is no matter of theirs
abbrev pub Hold : List ℕ → Result Request Fault → Type 0
Hold bytes (Ok request) = BeginsWithRequest bytes request
Hold bytes (Err (Text OutOfMemory)) = Unit {0}
Hold bytes (Err (Text refusal)) = RefusesRequest refusal bytes
Hold bytes (Err fault) = ⊥

-- what a reader answers for them while more may come
abbrev pub IsNextOf : ReaderView → List ℕ → Result (Option Request) Fault → Type 0
IsNextOf reader bytes (Ok (Some request)) = Hold bytes (Ok request)
IsNextOf reader bytes (Ok None) = Becomes reader bytes false false × HoldsNoRequest bytes
IsNextOf reader bytes (Err fault) = Hold bytes (Err fault)

-- the most reads of one request: one for each byte of its line and of its block, with their ends, and one that finds the end of
-- the input
abbrev pub most_reads : ℕ
most_reads = (MAX_LINE + 2) + (MAX_BLOCK + 2) + 1

-- These bytes were read, and then this piece. Each read but the last brought a byte, and no request or refusal.
pub record HasRead (early piece : List ℕ) (before after : SourceView) : Type 0 where
  pub taken : after.taken ≡ before.taken ++ (early ++ piece)
  pub waits : HoldsNoRequest early
  pub reads : after.reads ≤ before.reads + length early + 1

-- the last piece that was read completes the request, or its refusal
pub record Completes (before after : SourceView) (result : Result Request Fault) : Type 0 where
  pub early : List ℕ
  pub piece : List ℕ
  pub read : HasRead early piece before after
  pub steady : after.failures ≡ before.failures
  pub holds : Hold (early ++ piece) result

-- the input ended before a request was whole
pub record EndsEarly (before after : SourceView) : Type 0 where
  pub early : List ℕ
  pub read : HasRead early [] before after
  pub steady : after.failures ≡ before.failures
  pub ended : IsAtEnd after.left

-- a read failed before a request was whole
pub record FailsEarly (before after : SourceView) : Type 0 where
  pub early : List ℕ
  pub read : HasRead early [] before after
  pub failed : after.failures ≡ before.failures + 1

-- what was read of an input for its first request
abbrev pub ReadsRequest : SourceView → SourceView → Result Request Fault → Type 0
ReadsRequest before after (Err Input) = FailsEarly before after
ReadsRequest before after (Err (Text Truncated)) = EndsEarly before after
ReadsRequest before after result = Completes before after result
