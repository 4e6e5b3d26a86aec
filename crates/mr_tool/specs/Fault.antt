-- What is printed of a fault: the layer that found it, and the number and the name of the refusal.
use Rattle.std.specs.Prelude.{◌≡◌, ℕ, List, ◌++◌, codes, string_bytes}
use Rattle.mr_words.specs.declared.printing.PrintFault.{PrintFault}
use Rattle.mr_words.specs.declared.printing.PrintFault.TheVariants as print
use Rattle.mr_words.specs.Lines.{text_fault_line, pool_fault_line, schedule_fault_line, node_fault_line, plan_fault_line}
use Rattle.mr_tool.specs.declared.fault.Fault.{Fault}
use Rattle.mr_tool.specs.declared.fault.Fault.TheVariants.{Memory, Input, Output, File, Net, Plan, Pools, Phases, Node, Text}

-- where the file at this path can't be read
abbrev pub file_line : List ℕ → List ℕ
file_line path = codes "migctl: file " ++ (path ++ codes "\n")

-- where no socket can be opened at this address
abbrev pub net_line : List ℕ → List ℕ
net_line address = codes "migctl: net " ++ (address ++ codes "\n")

-- the line that is printed of each fault
abbrev pub fault_line : Fault → List ℕ
fault_line Memory = codes "migctl: memory\n"
fault_line Input = codes "migctl: input\n"
fault_line Output = codes "migctl: output\n"
fault_line (File line) = string_bytes line
fault_line (Net line) = string_bytes line
fault_line (Pools refusal) = pool_fault_line refusal
fault_line (Phases refusal) = schedule_fault_line refusal
fault_line (Node refusal) = node_fault_line refusal
fault_line (Plan refusal) = plan_fault_line refusal
fault_line (Text refusal) = text_fault_line refusal

-- where a word isn't text
abbrev pub not_text_line : List ℕ
not_text_line = codes "migctl: words are not UTF-8\n"

-- where the value of `--readings` is no list of numbers
abbrev pub readings_line : List ℕ
readings_line = codes "migctl: words --readings\n"

-- the fault of the file at this path, unless memory is refused for its line
abbrev pub IsFileFault : List ℕ → Fault → Type 0
IsFileFault path (File line) = string_bytes line ≡ file_line path
IsFileFault path Memory = Unit {0}
IsFileFault path fault = ⊥

-- the fault of this address, unless memory is refused for its line
abbrev pub IsNetFault : List ℕ → Fault → Type 0
IsNetFault address (Net line) = string_bytes line ≡ net_line address
IsNetFault address Memory = Unit {0}
IsNetFault address fault = ⊥

-- the fault of a command whose text wasn't printed
abbrev pub fault_of_printing : PrintFault → Fault
fault_of_printing print.Memory = Memory
fault_of_printing print.Write = Output
