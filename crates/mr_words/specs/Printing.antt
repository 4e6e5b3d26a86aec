-- How a whole text is printed.
use Rattle.std.specs.Prelude.{◌≡◌, ℕ, List, Result, Ok, Err}
use Rattle.mr_text.specs.Sink.{SinkView, IsOneWrite}
use Rattle.mr_text.specs.declared.error.WriteFault.{WriteFault}
use Rattle.mr_words.specs.declared.printing.PrintFault.{PrintFault}
use Rattle.mr_words.specs.declared.printing.PrintFault.TheVariants.{Memory, Write}

-- the text goes out in one call, or fails in that one call, or memory is refused before it
abbrev pub WritesAtOnce : List ℕ → SinkView → Result (Unit {0}) PrintFault → SinkView → Type 0
WritesAtOnce text old (Ok _) new = IsOneWrite text old (Ok tt) new
WritesAtOnce text old (Err Write) new = (fault : WriteFault) × IsOneWrite text old (Err fault) new
WritesAtOnce text old (Err Memory) new = new ≡ old
