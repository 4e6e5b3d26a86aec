-- What is printed of a fault's line.
use Rattle.std.specs.Prelude.{ℕ, List, ◌++◌, codes}
use Rattle.mr_words.specs.Explain.{Told, heading_line}

-- that line, and below it what the refusal means
abbrev pub explanation_text : Told → List ℕ
explanation_text told = heading_line told ++ (told.meaning ++ codes "\n")
