-- A request that was found at the front of some bytes, over the program's own types for it.
use Rattle.std.specs.Prelude.{◌≡◌, ℕ, ◌≤◌, false, List, length, drop, Result, Ok, Err}
use Rattle.mr_lines.specs.Words.{words_of}
use Rattle.mr_text.specs.Block.{IsBlock}
use Rattle.mr_text.specs.Key.{IsKey}
use Rattle.mr_text.specs.steps.CommandView.{AreKeys}
use Rattle.mr_text.specs.Limits.{MAX_BLOCK}
use Rattle.mr_text.specs.steps.Reading.{line_reading, command_line, block_reading, request_reading}
use Rattle.mr_text.specs.steps.Reading.CommandLine.{SetLine}
use Rattle.mr_text.specs.steps.Reading.StretchReading.{Waits, Gives, Refused}
use Rattle.mr_text.specs.declared.reading.commands.Command.{Command}
use Rattle.mr_text.specs.declared.reading.commands.Command.TheVariants.{Get, Set, Delete, Quit}
use Rattle.mr_text.specs.declared.reading.requests.Found.{Found}
use Rattle.mr_text.specs.declared.reading.requests.Found.TheVariants.{Nothing, Begun, Whole}
use Rattle.mr_text.specs.declared.reading.requests.FoundRequest.{FoundRequest}
use Rattle.mr_text.specs.declared.reading.requests.RefusedText.{RefusedText}
use Rattle.mr_text.specs.declared.request.Request.{Request}
use Rattle.mr_text.specs.declared.request.Request.TheVariants as request

-- the request that a line and a block say
abbrev pub request_said : Command → List ℕ → Request
request_said (Get keys count) block = request.Get (words_of keys.now)
request_said (Set key flags exptime block_length noreply) block = request.Set key.now flags exptime block noreply
request_said (Delete key noreply) block = request.Delete key.now noreply
request_said Quit block = request.Quit

abbrev pub said_request : FoundRequest → Request
said_request found = request_said found.command found.block.now

-- keys are keys, and the block is one
abbrev pub IsGood : Command → List ℕ → Type 0
IsGood (Get keys count) block = AreKeys (words_of keys.now) count
IsGood (Set key flags exptime block_length noreply) block = IsKey key.now × IsBlock block
IsGood (Delete key noreply) block = IsKey key.now
IsGood Quit block = Unit {0}

abbrev pub IsWholeRequest : FoundRequest → Type 0
IsWholeRequest found = IsGood found.command found.block.now

-- what the reading of the bytes gives; of a set whose block isn't whole, what its line says
abbrev pub FindsRequest : List ℕ → Result Found RefusedText → Type 0
FindsRequest bytes (Ok Nothing) = line_reading bytes ≡ Waits
FindsRequest bytes (Ok (Begun key flags exptime block_length noreply line_length)) =
    (line : List ℕ) × (line_reading bytes ≡ Gives line line_length) ×
    (command_line (words_of line) ≡ Ok (SetLine key.now flags exptime block_length noreply)) ×
    (block_reading block_length (drop line_length bytes) ≡ Ok false) ×
    (line_length ≤ length bytes) × IsKey key.now × (block_length ≤ MAX_BLOCK)
FindsRequest bytes (Ok (Whole found)) =
    (request_reading bytes ≡ Gives (said_request found) found.length) × IsWholeRequest found × (found.length ≤ length bytes)
FindsRequest bytes (Err refused) =
    (request_reading bytes ≡ Refused refused.refusal refused.length) × (refused.length ≤ length bytes)
