-- The text in which numbers are scraped: families of samples, each with its help and its type.
use Rattle.std.specs.Prelude.{ℕ, List, [], ◌∷◌, ◌++◌, ◌+◌, ◌/◌, ◌%◌, ◌==◌, if◌then◌else◌, drop, codes, decimal}
use Rattle.mr_metrics.specs.declared.exposition.Kind.{Kind}
use Rattle.mr_metrics.specs.declared.exposition.Kind.TheVariants.{Counter, Gauge, Histogram}
use Rattle.mr_metrics.specs.declared.label.Label.{Label}
use Rattle.mr_metrics.specs.declared.number.Number.{Number}
use Rattle.mr_metrics.specs.declared.number.Number.TheVariants.{Whole, Micros}

-- the word of a type
abbrev pub kind_text : Kind → List ℕ
kind_text Counter = codes "counter"
kind_text Gauge = codes "gauge"
kind_text Histogram = codes "histogram"

-- the line that says what a family tells
abbrev pub help_line : List ℕ → List ℕ → List ℕ
help_line name help = codes "# HELP " ++ (name ++ (codes " " ++ (help ++ codes "\n")))

-- the line of its type
abbrev pub type_line : List ℕ → Kind → List ℕ
type_line name kind = codes "# TYPE " ++ (name ++ (codes " " ++ (kind_text kind ++ codes "\n")))

-- what a family begins with (from: Prometheus's text exposition format 0.0.4)
abbrev pub family_head : List ℕ → List ℕ → Kind → List ℕ
family_head name help kind = help_line name help ++ type_line name kind

-- a byte of a label's value: a backslash, a quote and a line end are escaped
abbrev pub escaped_byte : ℕ → List ℕ
escaped_byte byte =
    if byte == 92 then codes "\\\\" else
    if byte == 34 then codes "\\\"" else
    if byte == 10 then codes "\\n" else
    byte ∷ []

-- the value of a label (from: Prometheus's text exposition format 0.0.4)
abbrev pub escaped : List ℕ → List ℕ
escaped [] = []
escaped (byte ∷ bytes) = escaped_byte byte ++ escaped bytes

-- a name, and a value in quotes
abbrev pub shown_pair : List ℕ → List ℕ → List ℕ
shown_pair name value = name ++ (codes "=\"" ++ (escaped value ++ codes "\""))

-- a label: its name, and its value in quotes
abbrev pub shown_label : Label → List ℕ
shown_label label = shown_pair label.name.now label.value.now

-- the labels behind the first
abbrev pub more_labels : List Label → List ℕ
more_labels [] = []
more_labels (label ∷ labels) = codes "," ++ (shown_label label ++ more_labels labels)

-- the labels of a sample, in braces; nothing where it has none (from: Prometheus's text exposition format 0.0.4)
abbrev pub shown_labels : List Label → List ℕ
shown_labels [] = []
shown_labels (label ∷ labels) = codes "{" ++ (shown_label label ++ (more_labels labels ++ codes "}"))

-- a part of a second, of so many microseconds, in six digits
abbrev pub six_digits : ℕ → List ℕ
six_digits micros = drop 1 (decimal (1000000 + micros))

-- a number; of a time the seconds (from: Prometheus's text exposition format 0.0.4; six decimals own)
abbrev pub shown_number : Number → List ℕ
shown_number (Whole count) = decimal count
shown_number (Micros micros) = decimal (micros / 1000000) ++ (codes "." ++ six_digits (micros % 1000000))

-- what follows the name of a sample: its labels and its number
abbrev pub rest_of_sample : List Label → Number → List ℕ
rest_of_sample labels number = shown_labels labels ++ (codes " " ++ (shown_number number ++ codes "\n"))

-- a sample: its name, its labels and its number, in a line (from: Prometheus's text exposition format 0.0.4)
abbrev pub shown_sample : List ℕ → List Label → Number → List ℕ
shown_sample name labels number = name ++ rest_of_sample labels number

-- a sample with one label
abbrev pub labelled_sample : List ℕ → List ℕ → List ℕ → Number → List ℕ
labelled_sample name label value number =
    name ++ (codes "{" ++ (shown_pair label value ++ (codes "} " ++ (shown_number number ++ codes "\n"))))
