-- What stands in the lines of a text that a service tells.
use Rattle.std.specs.Prelude.{ℕ, ◌+◌, ◌-◌, ◌^◌, ◌==◌, min, nat_eq, List, [], ◌∷◌, length, take, drop, Option, Some, None, option_map, option_and_then, if◌then◌else◌, codes}
use Rattle.std.specs.List.{starts_with}
use Rattle.mr_lines.specs.Lines.{byte_place}
use Rattle.mr_lines.specs.Numbers.{number_in}

-- a byte in front of the first line; of no line where it has no end
abbrev pub begun_with : ℕ → List (List ℕ) → List (List ℕ)
begun_with byte [] = []
begun_with byte (line ∷ lines) = (byte ∷ line) ∷ lines

-- the lines of a text, each without its line feed; what stands behind the last line feed is no line
abbrev pub lines_of : List ℕ → List (List ℕ)
lines_of [] = []
lines_of (byte ∷ bytes) = if byte == 10 then [] ∷ lines_of bytes else begun_with byte (lines_of bytes)

-- what stands behind a head, in a line that begins with it
abbrev pub behind : List ℕ → List ℕ → Option (List ℕ)
behind head line = if starts_with nat_eq line head then Some (drop (length head) line) else None

-- the first, or else the second
abbrev pub or_else : Option (List ℕ) → Option (List ℕ) → Option (List ℕ)
or_else None second = second
or_else (Some first) second = Some first

-- what stands behind a head in the first of these lines that begins with it
abbrev pub first_behind : List ℕ → List (List ℕ) → Option (List ℕ)
first_behind head [] = None
first_behind head (line ∷ lines) = or_else (behind head line) (first_behind head lines)

-- what stands behind a head in the first line of a text that begins with it
abbrev pub value_of : List ℕ → List ℕ → Option (List ℕ)
value_of head bytes = first_behind head (lines_of bytes)

-- the number of 64 bits that a word is
abbrev pub whole_number : List ℕ → Option ℕ
whole_number word = number_in (2 ^ 64 - 1) word

-- the number behind a head
abbrev pub number_of : List ℕ → List ℕ → Option ℕ
number_of head bytes = option_and_then whole_number (value_of head bytes)

-- the number behind a head that may be missing
abbrev pub perhaps_number : Option (List ℕ) → Option (Option ℕ)
perhaps_number None = Some None
perhaps_number (Some word) = option_map Some (whole_number word)

-- the number behind a head in a text, or that there is no such line
abbrev pub perhaps_number_of : List ℕ → List ℕ → Option (Option ℕ)
perhaps_number_of head bytes = perhaps_number (value_of head bytes)

-- what stands before the first quote
abbrev pub before_quote : List ℕ → Option (List ℕ)
before_quote word = option_map (λ place. take place word) (byte_place 34 word)

-- the label behind a head, which ends with an opening quote
abbrev pub label_of : List ℕ → List ℕ → Option (List ℕ)
label_of head bytes = option_and_then before_quote (value_of head bytes)

-- the number behind the labels of a sample, whose braces have been opened
abbrev pub number_behind_labels : List ℕ → Option ℕ
number_behind_labels word =
    option_and_then whole_number (option_and_then (λ place. behind (codes "} ") (drop place word)) (byte_place 125 word))

-- so many and this, as far as 64 bits count; nothing where this is none
abbrev pub sum_with : ℕ → Option ℕ → Option ℕ
sum_with sum number = option_map (λ (more : ℕ). min (sum + more) (2 ^ 64 - 1)) number

-- the sum after a line: as it was, unless the line begins with the head
abbrev pub sum_after : ℕ → Option (List ℕ) → Option ℕ
sum_after sum None = Some sum
sum_after sum (Some word) = sum_with sum (number_behind_labels word)

-- the sum after all these lines; none once there was none
abbrev pub sum_from : List ℕ → Option ℕ → List (List ℕ) → Option ℕ
sum_from head None lines = None
sum_from head (Some sum) [] = Some sum
sum_from head (Some sum) (line ∷ lines) = sum_from head (sum_after sum (behind head line)) lines

-- the sum of the numbers in all lines that begin with a head, which ends with an opening brace
abbrev pub sum_of : List ℕ → List ℕ → Option ℕ
sum_of head bytes = sum_from head (Some 0) (lines_of bytes)
