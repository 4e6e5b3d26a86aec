-- The texts of the named causes.
use Rattle.std.specs.Prelude.{ℕ, List, [], ◌∷◌, Option, Some, None, codes, if◌then◌else◌}
use Rattle.std.specs.Str.{bytes_eq}
use Rattle.mr_text.specs.declared.cause.Cause.{Cause}
use Rattle.mr_text.specs.declared.cause.Cause.TheVariants.{LineTooLong, BadKey, BadNumber, WrongWords, DataTooLong, BadDataEnd, LegLost, Busy, OutOfMemory, ClockFault, BookFull, NumbersSpent, NodeRefused, Other}

-- the text of each named cause
abbrev pub text_of_cause : Cause → List ℕ
text_of_cause LineTooLong = codes "line too long"
text_of_cause BadKey = codes "bad key"
text_of_cause BadNumber = codes "bad number"
text_of_cause WrongWords = codes "wrong words"
text_of_cause DataTooLong = codes "data too long"
text_of_cause BadDataEnd = codes "bad data end"
text_of_cause LegLost = codes "leg lost"
text_of_cause Busy = codes "busy"
text_of_cause OutOfMemory = codes "out of memory"
text_of_cause ClockFault = codes "clock fault"
text_of_cause BookFull = codes "book full"
text_of_cause NumbersSpent = codes "numbers spent"
text_of_cause NodeRefused = codes "node refused"
text_of_cause (Other text) = text

-- those that have a name: why a request is refused, and then why it fails
abbrev pub named_causes : List Cause
named_causes =
    LineTooLong ∷ BadKey ∷ BadNumber ∷ WrongWords ∷ DataTooLong ∷ BadDataEnd ∷ LegLost ∷ Busy ∷ OutOfMemory ∷ ClockFault ∷
    BookFull ∷ NumbersSpent ∷ NodeRefused ∷ []

-- the first of them that has this text
abbrev pub first_named : List Cause → List ℕ → Option Cause
first_named [] text = None
first_named (cause ∷ causes) text = if bytes_eq text (text_of_cause cause) then Some cause else first_named causes text

-- the cause that has this text for its name
abbrev pub cause_named : List ℕ → Option Cause
cause_named text = first_named named_causes text
