-- The faults of a flight that those of others are.
use Rattle.mr_flights.specs.declared.fault.FlightFault.{FlightFault}
use Rattle.mr_flights.specs.declared.fault.FlightFault.TheVariants.{Memory, Write, BadPrefix, Net}
use Rattle.mr_words.specs.declared.printing.PrintFault.{PrintFault}
use Rattle.mr_words.specs.declared.printing.PrintFault.TheVariants as print
use Rattle.mr_probes.specs.declared.naming.KeyError.{KeyError}
use Rattle.mr_probes.specs.declared.naming.KeyError.TheVariants as key
use Rattle.mr_servers.specs.declared.fault.OpenFault.{OpenFault}
use Rattle.mr_servers.specs.declared.fault.OpenFault.TheVariants as opening

-- of a text that wasn't written
abbrev pub fault_of_printing : PrintFault → FlightFault
fault_of_printing print.Memory = Memory
fault_of_printing print.Write = Write

-- of a key that wasn't made
abbrev pub fault_of_key : KeyError → FlightFault
fault_of_key key.BadPrefix = BadPrefix
fault_of_key key.OutOfMemory = Memory

-- of a loop that wasn't opened
abbrev pub fault_of_opening : OpenFault → FlightFault
fault_of_opening opening.OutOfMemory = Memory
fault_of_opening opening.Net = Net
fault_of_opening opening.Metrics = Net
