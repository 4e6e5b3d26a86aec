-- What the program does with its arguments.
use Rattle.std.specs.IoError.{error_kind}
use Rattle.std.specs.Prelude.{◌≡◌, ◌≢◌, ℕ, ◌⊎◌, List, drop, map, String, string_bytes, Result, Ok, Err}
use Rattle.std.specs.Vec.Iter.{into_iter_items}
use Rattle.std.specs.declared.io.Error.{Error}
use Rattle.std.specs.declared.io.ErrorKind.{ErrorKind}
use Rattle.std.specs.declared.io.ErrorKind.TheVariants.{OutOfMemory}
use Rattle.std.specs.declared.vec.IntoIter.{IntoIter}
use Rattle.mr_tool.specs.Devices.{Devices, Machine, Tells}
use Rattle.mr_tool.specs.Fault.{not_text_line}
use Rattle.mr_tool.specs.Run.{EndsWith, IsRunOf, WRONG_WORDS}
use Rattle.mr_tool.specs.declared.fault.Fault.TheVariants.{Memory}

-- why there are no arguments: memory was refused, or one of them is no text
abbrev pub LacksArguments : ErrorKind → Devices → Devices → ℕ → Type 0
LacksArguments kind before after status =
    ((kind ≡ OutOfMemory) × EndsWith (Err Memory) status before after)
    ⊎ ((kind ≢ OutOfMemory) × (status ≡ WRONG_WORDS) × Tells not_text_line before after)

-- there are no arguments, for this reason: that is told, and no service is asked for
pub record IsRunOfNone (kind : ErrorKind) (before after : Machine) (status : ℕ) : Type 0 where
  pub lacks : LacksArguments kind before.devices after.devices status
  pub unserved : after.servers ≡ before.servers

-- the words of arguments, of which the first is the program's own name
abbrev pub words_of : {Z : Type 0} → IntoIter (String Z) Z → List (List ℕ)
words_of arguments = map string_bytes (drop 1 (into_iter_items arguments))

-- What the program does: it runs the words of its arguments, or tells why there are none.
abbrev pub RunsArguments : {Z : Type 0} → Result (IntoIter (String Z) Z) Error → Machine → Machine → ℕ → Type 0
RunsArguments (Ok arguments) before after status = IsRunOf (words_of arguments) before after status
RunsArguments (Err error) before after status = IsRunOfNone (error_kind error) before after status
