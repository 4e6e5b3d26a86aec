-- What the steps of a command that is given bytes say of the whole.
use Rattle.std.proofs.Common.{◌≡◌, ℕ, List, Option, Some, None, Result, Ok, Err, IsErrAnd, subst, sym, inl, inr}
use Rattle.mr_text.specs.Sink.{IsOneWrite}
use Rattle.mr_tool.proofs.FaultLemmas.{print_fails}
use Rattle.mr_tool.specs.Devices.{Devices}
use Rattle.mr_tool.specs.Input.{IsGiven, IsNotGiven}
use Rattle.mr_tool.specs.GivenText.{IsTextFault, Makes, PrintsOf, RefusalOfBytes}
use Rattle.mr_words.specs.Printing.{WritesAtOnce}
use Rattle.mr_tool.specs.Fault.{fault_of_printing}
use Rattle.mr_tool.specs.declared.ended.Ended.{Ended}
use Rattle.mr_tool.specs.declared.fault.Fault.{Fault}
use Rattle.mr_words.specs.declared.printing.PrintFault.{PrintFault}
use Rattle.mr_tool.specs.declared.fault.Fault.TheVariants.{Memory, Input, Output, File, Net, Plan, Pools, Phases, Node, Text}

not_given : (makes : Makes) (refuses : RefusalOfBytes) (file : Option (List ℕ)) (fault : Fault) (before after : Devices) → IsNotGiven file fault before after
    → after.output ≡ before.output → PrintsOf makes refuses file before after (Err fault)
not_given makes refuses file Memory before after lacks unwritten = inl (record { lacks = lacks; unwritten = unwritten })
not_given makes refuses file Input before after lacks unwritten = record { lacks = lacks; unwritten = unwritten }
not_given makes refuses file (File line) before after lacks unwritten = record { lacks = lacks; unwritten = unwritten }
not_given makes refuses (Some path) Output before after lacks unwritten = absurd lacks.0
not_given makes refuses None Output before after lacks unwritten = absurd lacks.0
not_given makes refuses (Some path) (Plan refusal) before after lacks unwritten = absurd lacks.0
not_given makes refuses None (Plan refusal) before after lacks unwritten = absurd lacks.0
not_given makes refuses (Some path) (Net line) before after lacks unwritten = absurd lacks.0
not_given makes refuses None (Net line) before after lacks unwritten = absurd lacks.0
not_given makes refuses (Some path) (Pools refusal) before after lacks unwritten = absurd lacks.0
not_given makes refuses None (Pools refusal) before after lacks unwritten = absurd lacks.0
not_given makes refuses (Some path) (Phases refusal) before after lacks unwritten = absurd lacks.0
not_given makes refuses None (Phases refusal) before after lacks unwritten = absurd lacks.0
not_given makes refuses (Some path) (Node refusal) before after lacks unwritten = absurd lacks.0
not_given makes refuses None (Node refusal) before after lacks unwritten = absurd lacks.0
not_given makes refuses (Some path) (Text refusal) before after lacks unwritten = absurd lacks.0
not_given makes refuses None (Text refusal) before after lacks unwritten = absurd lacks.0

-- a command that is given no bytes
pub ends_not_given : (makes : Makes) (refuses : RefusalOfBytes) (file : Option (List ℕ)) (result : Result Ended Fault) (fault : Fault) (before after : Devices)
    → IsErrAnd result (λ other. other ≡ fault) → IsNotGiven file fault before after → after.output ≡ before.output
    → PrintsOf makes refuses file before after result
ends_not_given makes refuses file (Ok ended) fault before after is lacks unwritten = absurd is
ends_not_given makes refuses file (Err other) fault before after is lacks unwritten =
    subst (λ (f : Fault). PrintsOf makes refuses file before after (Err f)) (sym is) (not_given makes refuses file fault before after lacks unwritten)

not_made : (makes : Makes) (refuses : RefusalOfBytes) (file : Option (List ℕ)) (bytes : List ℕ) (fault : Fault) (before after : Devices)
    → IsGiven file bytes before after → IsTextFault makes refuses bytes fault → after.output ≡ before.output
    → PrintsOf makes refuses file before after (Err fault)
not_made makes refuses file bytes (Plan refusal) before after given fault unwritten =
    record { bytes = bytes; given = given; refused = fault; unwritten = unwritten }
not_made makes refuses file bytes Memory before after given fault unwritten =
    inr (record { bytes = bytes; text = fault.0; ended = fault.1; given = given; due = fault.2; unwritten = unwritten })
not_made makes refuses file bytes Input before after given fault unwritten = absurd fault
not_made makes refuses file bytes Output before after given fault unwritten = absurd fault
not_made makes refuses file bytes (File line) before after given fault unwritten = absurd fault
not_made makes refuses file bytes (Net line) before after given fault unwritten = absurd fault
not_made makes refuses file bytes (Pools refusal) before after given fault unwritten = absurd fault
not_made makes refuses file bytes (Phases refusal) before after given fault unwritten = absurd fault
not_made makes refuses file bytes (Node refusal) before after given fault unwritten = absurd fault
not_made makes refuses file bytes (Text refusal) before after given fault unwritten = absurd fault

-- a command whose bytes have no text
pub ends_not_made : (makes : Makes) (refuses : RefusalOfBytes) (file : Option (List ℕ)) (bytes slice : List ℕ) (result : Result Ended Fault) (fault : Fault)
    (before after : Devices) → IsErrAnd result (λ other. other ≡ fault) → IsGiven file bytes before after → slice ≡ bytes
    → IsTextFault makes refuses slice fault → after.output ≡ before.output → PrintsOf makes refuses file before after result
ends_not_made makes refuses file bytes slice (Ok ended) fault before after is given same not unwritten = absurd is
ends_not_made makes refuses file bytes slice (Err other) fault before after is given same not unwritten =
    subst (λ (f : Fault). PrintsOf makes refuses file before after (Err f)) (sym is)
    (not_made makes refuses file bytes fault before after given (subst (λ (b : List ℕ). IsTextFault makes refuses b fault) same not) unwritten)

-- a command whose text wasn't printed
pub ends_not_printed : (makes : Makes) (refuses : RefusalOfBytes) (file : Option (List ℕ)) (bytes text slice : List ℕ) (ended : Ended)
    (result : Result Ended Fault) (failed : PrintFault) (before after : Devices) → IsErrAnd result (λ other. other ≡ fault_of_printing failed)
    → IsGiven file bytes before after → makes bytes text ended → slice ≡ text → WritesAtOnce slice before.output (Err failed) after.output
    → PrintsOf makes refuses file before after result
ends_not_printed makes refuses file bytes text slice ended result failed before after is given made same writes =
    print_fails (PrintsOf makes refuses file before after) result failed slice before.output after.output is writes
    (λ unwritten. inr (record { bytes = bytes; text = text; ended = ended; given = given; due = made; unwritten = unwritten }))
    (λ fault call. (
      ended,
      fault,
      record {
        bytes = bytes;
        text = text;
        given = given;
        made = made;
        writes = subst (λ (t : List ℕ). IsOneWrite t before.output (Err fault) after.output) same call;
      },
    ))
