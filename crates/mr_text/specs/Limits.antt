-- The limits of the text, in bytes but for the count of items.
use Rattle.std.specs.Prelude.{ℕ}

-- the longest key
abbrev pub MAX_KEY : ℕ
MAX_KEY = 250

-- the longest line, without its line end
abbrev pub MAX_LINE : ℕ
MAX_LINE = 8192

-- the longest block
abbrev pub MAX_BLOCK : ℕ
MAX_BLOCK = 1048576

-- the longest text of an error that has no name
abbrev pub MAX_ERROR_TEXT : ℕ
MAX_ERROR_TEXT = 8179

-- the most items of one reply
abbrev pub MAX_ITEMS : ℕ
MAX_ITEMS = 4094

-- the most bytes that a reader holds where nothing is whole: the longest line or block, and the first byte of its end
abbrev pub MAX_HELD : ℕ
MAX_HELD = 1048577

-- how many bytes of a text are gathered before they go out, and how many there is room for in each read
abbrev pub FIXED_BUFFER : ℕ
FIXED_BUFFER = 4096
