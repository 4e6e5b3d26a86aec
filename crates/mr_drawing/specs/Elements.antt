-- The elements of a picture.
use Rattle.std.specs.Prelude.{ℕ, List, ◌++◌, codes, decimal}
use Rattle.mr_drawing.specs.Escape.{shown}

-- the beginning of an element of a class
abbrev pub opened : List ℕ → List ℕ → List ℕ
opened name class = codes "<" ++ (name ++ (codes " class='" ++ (class ++ codes "'")))

-- an attribute that is a number
abbrev pub attribute : List ℕ → ℕ → List ℕ
attribute name number = codes " " ++ (name ++ (codes "='" ++ (decimal number ++ codes "'")))

-- an upright line
unfoldable pub upright_text : List ℕ → ℕ → ℕ → ℕ → List ℕ
upright_text class x from to =
    opened (codes "line") class
    ++ (attribute (codes "x1") x ++ (attribute (codes "y1") from ++ (attribute (codes "x2") x ++ (attribute (codes "y2") to ++ codes "/>\n"))))

-- a level line
unfoldable pub level_text : List ℕ → ℕ → ℕ → ℕ → List ℕ
level_text class from to y =
    opened (codes "line") class
    ++ (attribute (codes "x1") from ++ (attribute (codes "y1") y ++ (attribute (codes "x2") to ++ (attribute (codes "y2") y ++ codes "/>\n"))))

-- a box
unfoldable pub box_text : List ℕ → ℕ → ℕ → ℕ → ℕ → List ℕ
box_text class x y width height =
    opened (codes "rect") class
    ++ (attribute (codes "x") x ++ (attribute (codes "y") y ++ (attribute (codes "width") width ++ (attribute (codes "height") height ++ codes "/>\n"))))

-- the beginning of words at a place
unfoldable pub placed : List ℕ → ℕ → ℕ → List ℕ
placed class x y = opened (codes "text") class ++ (attribute (codes "x") x ++ (attribute (codes "y") y ++ codes ">"))

-- words at a place, escaped
unfoldable pub words_text : List ℕ → ℕ → ℕ → List ℕ → List ℕ
words_text class x y words = placed class x y ++ (shown words ++ codes "</text>\n")

-- a word and a number at a place
unfoldable pub counted_text : List ℕ → ℕ → ℕ → List ℕ → ℕ → List ℕ
counted_text class x y word number = placed class x y ++ (word ++ (decimal number ++ codes "</text>\n"))
