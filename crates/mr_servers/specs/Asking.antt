-- What is given of an answer.
use Rattle.std.specs.Prelude.{◌≡◌, ⊤, Option, Some, None, Result, Ok, Err}
use Rattle.mr_http.specs.declared.error.FetchFault.{FetchFault}
use Rattle.mr_http.specs.declared.error.FetchFault.TheVariants.{OutOfMemory}

-- the answer, or that memory was refused, or none
abbrev pub GivesAnswer : {B E : Type 0} → Result B FetchFault → Result (Option B) E → Type 0
GivesAnswer (Ok bytes) (Ok (Some given)) = given ≡ bytes
GivesAnswer (Err OutOfMemory) (Err refused) = ⊤
GivesAnswer (Err OutOfMemory) (Ok given) = ⊥
GivesAnswer (Err fault) (Ok None) = ⊤
GivesAnswer answer given = ⊥
