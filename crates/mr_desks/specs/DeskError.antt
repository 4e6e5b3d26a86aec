-- The numbers of a desk's refusals, and what a client is told whose request a desk refused.
use Rattle.std.specs.Prelude.{ℕ, Option, Some, None}
use Rattle.mr_text.specs.declared.cause.Cause.{Cause}
use Rattle.mr_text.specs.declared.cause.Cause.TheVariants as cause
use Rattle.mr_clock.specs.ClockError.{number_of_refusal as number_of_clock}
use Rattle.mr_clock.specs.declared.error.ClockError.TheVariants as clock
use Rattle.mr_proxy.specs.ProxyError.{number_of_refusal as number_of_proxy}
use Rattle.mr_proxy.specs.declared.error.ProxyError.{ProxyError}
use Rattle.mr_proxy.specs.declared.error.ProxyError.TheVariants as proxy
use Rattle.mr_desks.specs.declared.desk_error.DeskError.{DeskError}
use Rattle.mr_desks.specs.declared.desk_error.DeskError.TheVariants.{ClockFault, NumbersSpent, NoRoom, BookFull, OutOfMemory, NoSuchOp}

-- a clock's and a proxy's refusals keep their own numbers
abbrev pub number_of_desk_refusal : DeskError → ℕ
number_of_desk_refusal ClockFault = number_of_clock clock.ClockFault
number_of_desk_refusal NumbersSpent = number_of_proxy proxy.NumbersSpent
number_of_desk_refusal NoRoom = number_of_proxy proxy.NoRoom
number_of_desk_refusal BookFull = 3
number_of_desk_refusal OutOfMemory = 8
number_of_desk_refusal NoSuchOp = number_of_proxy proxy.NoSuchOp

-- a proxy's refusal, as a desk tells it
abbrev pub desk_refusal_of : ProxyError → DeskError
desk_refusal_of proxy.NumbersSpent = NumbersSpent
desk_refusal_of proxy.NoRoom = NoRoom
desk_refusal_of proxy.OutOfMemory = OutOfMemory
desk_refusal_of proxy.NoSuchOp = NoSuchOp

-- what a client is told; nothing where no request is under way, since that refuses no request of a client
abbrev pub cause_of_refusal : DeskError → Option Cause
cause_of_refusal ClockFault = Some cause.ClockFault
cause_of_refusal NumbersSpent = Some cause.NumbersSpent
cause_of_refusal NoRoom = Some cause.Busy
cause_of_refusal BookFull = Some cause.BookFull
cause_of_refusal OutOfMemory = Some cause.OutOfMemory
cause_of_refusal NoSuchOp = None
