-- Where things stand in a picture, in pixels.
use Rattle.std.specs.Prelude.{ℕ, ◌+◌, ◌-◌, ◌*◌, ◌^◌, min, max}
use Rattle.mr_drawing.specs.declared.places.Frame.{Frame}

-- a sum, or the greatest number
abbrev pub plus : ℕ → ℕ → ℕ
plus one other = min (one + other) (2 ^ 64 - 1)

-- a product, or the greatest number
abbrev pub times : ℕ → ℕ → ℕ
times one other = min (one * other) (2 ^ 64 - 1)

-- the left edge of a column: the lanes begin at 176, one cell of 56 before the first column
abbrev pub across : ℕ → ℕ
across column = plus 176 (times 56 (plus column 1))

-- the middle of a column
abbrev pub middle : ℕ → ℕ
middle column = plus (across column) 28

-- the width of so many columns
abbrev pub cells : ℕ → ℕ
cells count = times 56 count

-- the top of a level: the first begins at 176, and each is 24 high
abbrev pub down : ℕ → ℕ
down level = plus 176 (times 24 level)

-- the middle of a level
abbrev pub center : ℕ → ℕ
center level = plus (down level) 12

-- the height of a node's lane: three levels are left above the first, and each has two
abbrev pub node_height : Frame → ℕ → ℕ
node_height frame node = center (plus (plus frame.levels 3) (times 2 node))

-- the height of what is said of legs to nodes
abbrev pub legs_height : Frame → ℕ
legs_height frame = center frame.levels

-- the height of what is said of replies
abbrev pub backs_height : Frame → ℕ
backs_height frame = center (plus frame.levels 1)

-- the foot of the picture
abbrev pub foot : Frame → ℕ
foot frame = down (plus (plus frame.levels 3) (times 2 frame.nodes))

-- the width of the picture, 960 at least
abbrev pub whole_width : Frame → ℕ
whole_width frame = max (plus (across frame.columns) 56) 960

-- how many characters fit into a bar over so many columns
abbrev pub room_of : ℕ → ℕ
room_of columns = times 8 columns - 2
