-- What a constructor that tests its argument gives.
use Rattle.std.specs.Prelude.{◌≡◌, ◌⊎◌, Result, Ok, Err}
use Rattle.mr_text.specs.declared.error.TextError.{TextError}
use Rattle.mr_text.specs.declared.error.TextError.TheVariants.{OutOfMemory}

-- the value exactly where it is allowed, else the refusal; want of memory only where it is allowed
abbrev pub MadeWhere : {X : Type 0} → Type 0 → TextError → X → Result X TextError → Type 0
MadeWhere IsAllowed refusal value (Ok made) = IsAllowed × (made ≡ value)
MadeWhere IsAllowed refusal value (Err e) = ((e ≡ refusal) × ¬ IsAllowed) ⊎ ((e ≡ OutOfMemory) × IsAllowed)
