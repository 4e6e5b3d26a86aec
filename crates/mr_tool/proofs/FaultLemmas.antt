-- What holds of a result that a `?` makes of a fault.
use Rattle.std.proofs.Common.{◌≡◌, List, ℕ, Result, Ok, Err, IsErrAnd, subst, sym}
use Rattle.mr_text.specs.Sink.{SinkView, IsOneWrite}
use Rattle.mr_text.specs.declared.error.WriteFault.{WriteFault}
use Rattle.mr_words.specs.Printing.{WritesAtOnce}
use Rattle.mr_tool.specs.Fault.{fault_of_printing}
use Rattle.mr_tool.specs.declared.ended.Ended.{Ended}
use Rattle.mr_tool.specs.declared.fault.Fault.{Fault}
use Rattle.mr_tool.specs.declared.fault.Fault.TheVariants.{Memory, Output}
use Rattle.mr_words.specs.declared.printing.PrintFault.{PrintFault}
use Rattle.mr_words.specs.declared.printing.PrintFault.TheVariants as print

-- what holds of a fault holds of a result that is the fault
pub faulted : {T : Type 0} (holds : Result T Fault → Type 0) (result : Result T Fault) (fault : Fault) → IsErrAnd result (λ other. other ≡ fault)
    → holds (Err fault) → holds result
faulted holds (Ok value) fault is of_fault = absurd is
faulted holds (Err other) fault is of_fault = subst (λ (f : Fault). holds (Err f)) (sym is) of_fault

-- a text that wasn't printed: memory was refused, or the one call that writes it failed
pub print_fails : (holds : Result Ended Fault → Type 0) (result : Result Ended Fault) (failed : PrintFault) (text : List ℕ) (old new : SinkView)
    → IsErrAnd result (λ other. other ≡ fault_of_printing failed) → WritesAtOnce text old (Err failed) new
    → (new ≡ old → holds (Err Memory)) → ((fault : WriteFault) → IsOneWrite text old (Err fault) new → holds (Err Output)) → holds result
print_fails holds result print.Memory text old new is writes of_memory of_output = faulted holds result Memory is (of_memory writes)
print_fails holds result print.Write text old new is writes of_memory of_output = faulted holds result Output is (of_output writes.0 writes.1)
