-- What a line that was read says, over the program's own type for it.
use Rattle.std.specs.Prelude.{◌≡◌, ℕ, ◌≤◌, List, length, All, Result, Ok, Err}
use Rattle.mr_lines.specs.Words.{words_of}
use Rattle.mr_text.specs.Key.{IsKey, HasKey, FitLine}
use Rattle.mr_text.specs.Limits.{MAX_BLOCK}
use Rattle.mr_text.specs.steps.Reading.{CommandLine}
use Rattle.mr_text.specs.steps.Reading.CommandLine.{GetLine, SetLine, DeleteLine, QuitLine}
use Rattle.mr_text.specs.declared.error.TextError.{TextError}
use Rattle.mr_text.specs.declared.reading.commands.Command.{Command}
use Rattle.mr_text.specs.declared.reading.commands.Command.TheVariants.{Get, Set, Delete, Quit}

abbrev pub command_line_of : Command → CommandLine
command_line_of (Get keys count) = GetLine (words_of keys.now)
command_line_of (Set key flags exptime block_length noreply) = SetLine key.now flags exptime block_length noreply
command_line_of (Delete key noreply) = DeleteLine key.now noreply
command_line_of Quit = QuitLine

-- the keys are counted right
abbrev pub IsCommandCounted : Command → Type 0
IsCommandCounted (Get keys count) = count ≡ length (words_of keys.now)
IsCommandCounted (Set key flags exptime block_length noreply) = Unit {0}
IsCommandCounted (Delete key noreply) = Unit {0}
IsCommandCounted Quit = Unit {0}

-- what the words say, or how they are refused
abbrev pub IsCommand : Result CommandLine TextError → Result Command TextError → Type 0
IsCommand line (Ok command) = (line ≡ Ok (command_line_of command)) × IsCommandCounted command
IsCommand line (Err refusal) = line ≡ Err refusal

-- the words are the keys of one request, so many
pub record AreKeys (words : List (List ℕ)) (count : ℕ) : Type 0 where
  pub some : HasKey words
  pub fit : FitLine words
  pub keys : All IsKey words
  pub counted : count ≡ length words

-- what the line gives may be used
abbrev pub IsGoodLine : Command → Type 0
IsGoodLine (Get keys count) = AreKeys (words_of keys.now) count
IsGoodLine (Set key flags exptime block_length noreply) = IsKey key.now × (block_length ≤ MAX_BLOCK)
IsGoodLine (Delete key noreply) = IsKey key.now
IsGoodLine Quit = Unit {0}
