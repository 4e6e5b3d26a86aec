-- Checks that follow one another: the first that refuses decides.
use Rattle.std.specs.Prelude.{Bool, true, false, Result, Ok, Err}

infixl 10 ◌>>=◌
-- what the next check makes of what this one gave
abbrev pub ◌>>=◌ : {X Y E : Type 0} → Result X E → (X → Result Y E) → Result Y E
◌>>=◌ (Ok given) next = next given
◌>>=◌ (Err refusal) next = Err refusal

-- the refusal, unless this holds
abbrev pub only_if : {E : Type 0} → Bool → E → Result (Unit {0}) E
only_if true refusal = Ok tt
only_if false refusal = Err refusal
