-- The names of a canary's keys.
use Rattle.std.specs.Prelude.{◌≡◌, ℕ, List, ◌++◌, decimal, Result, Ok, Err}
use Rattle.mr_text.specs.Key.{IsKey}
use Rattle.mr_probes.specs.Digits.{word_text}
use Rattle.mr_probes.specs.declared.naming.KeyError.{KeyError}
use Rattle.mr_probes.specs.declared.naming.KeyError.TheVariants.{BadPrefix, OutOfMemory}

-- the name of the key of a number: the prefix, the run as 16 hexadecimal digits, a dash and the number
abbrev pub key_text : List ℕ → ℕ → ℕ → List ℕ
key_text prefix run number = prefix ++ word_text run ++ decimal number

-- the key of this text, where it is one; memory may be wanted
abbrev pub IsKeyOf : List ℕ → Result (List ℕ) KeyError → Type 0
IsKeyOf text (Ok key) = IsKey text × (key ≡ text)
IsKeyOf text (Err BadPrefix) = ¬ IsKey text
IsKeyOf text (Err OutOfMemory) = Unit {0}
