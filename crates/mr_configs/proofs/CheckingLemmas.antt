-- What checks that follow one another gave.
use Rattle.std.proofs.Common.{◌≡◌, Ok, Err, Result, Option, Some, None, refl}
use Rattle.std.specs.Prelude.{ok_or}
use Rattle.mr_configs.specs.Checking.{◌>>=◌}

-- what a check gave, and what the next made of it
pub record Taken {X Y E : Type 0} (given : Result X E) (next : X → Result Y E) (made : Y) : Type 0 where
  pub value : X
  pub gave : given ≡ Ok value
  pub went : next value ≡ Ok made

pub taken : {X Y E : Type 0} (given : Result X E) (next : X → Result Y E) (made : Y) → (given >>= next) ≡ Ok made → Taken given next made
taken (Ok value) next made e = record { value = value; gave = refl; went = e }
taken (Err refusal) next made e = cc

pub there : {X E : Type 0} (given : Option X) (refusal : E) (value : X) → ok_or given refusal ≡ Ok value → given ≡ Some value
there None refusal value e = cc
there (Some other) refusal value e = cc
