-- What the bytes of an unfinished text stand for that were read already, and that only contracts see.
use Rattle.std.specs.Prelude.{ℕ, List, [], ◌++◌, take}
use Rattle.mr_text.specs.declared.reading.spelled.Spelling.{Spelling, Nothing, More'}

-- the bytes, in the order in which they were read
abbrev pub bytes_of : Spelling → List ℕ
bytes_of Nothing = []
bytes_of (More' marker before bytes count) = bytes_of before ++ take count.value bytes.value
