-- Values that are read one after another.
use Rattle.std.specs.Prelude.{List, [], ◌∷◌, Result, Ok}
use Rattle.mr_configs.specs.Checking.{◌>>=◌}

-- what each of the values is read as, in order, or the first of the refusals
abbrev pub all_of : {X Y E : Type 0} → (X → Result Y E) → List X → Result (List Y) E
all_of read [] = Ok []
all_of read (value ∷ values) = read value >>= λ item. all_of read values >>= λ items. Ok (item ∷ items)
