-- The numbers of the refusals.
use Rattle.std.specs.Prelude.{ℕ}
use Rattle.mr_proxy.specs.declared.world_error.WorldError.{WorldError}
use Rattle.mr_proxy.specs.declared.world_error.WorldError.TheVariants.{NoSuchProxy, NoSuchNode, NoSuchMessage, IssueRefused, OutOfMemory, NoSuchOp, HopsDiffer}

-- the number of each refusal
abbrev pub number_of_refusal : WorldError → ℕ
number_of_refusal NoSuchProxy = 1
number_of_refusal NoSuchNode = 2
number_of_refusal NoSuchMessage = 3
number_of_refusal (IssueRefused refusal) = 4
number_of_refusal OutOfMemory = 5
number_of_refusal NoSuchOp = 6
number_of_refusal HopsDiffer = 7
