-- The numbers of the refusals.
use Rattle.std.specs.Prelude.{ℕ}
use Rattle.mr_desks.specs.declared.error.WorkerError.{WorkerError}
use Rattle.mr_desks.specs.declared.error.WorkerError.TheVariants.{LinkBroken, Mismatch, BookDiffers, ReadFault, WriteFault, TurnsSpent, OutOfMemory, NoThread}

-- the number of each error
abbrev pub number_of_refusal : WorkerError → ℕ
number_of_refusal LinkBroken = 1
number_of_refusal Mismatch = 2
number_of_refusal BookDiffers = 4
number_of_refusal ReadFault = 5
number_of_refusal WriteFault = 6
number_of_refusal TurnsSpent = 7
number_of_refusal OutOfMemory = 8
number_of_refusal NoThread = 9
