-- What a run works on: files, an input, an output, and a place that faults are told to.
use Rattle.std.specs.Prelude.{◌≡◌, ℕ, List, Result}
use Rattle.mr_text.specs.Source.{SourceView}
use Rattle.mr_text.specs.Sink.{SinkView, IsOneWrite}
use Rattle.mr_text.specs.declared.error.WriteFault.{WriteFault}
use Rattle.mr_servers.specs.Servers.{ServersView}
use Rattle.mr_tool.specs.Sources.{SourcesView}

-- the four devices, as contracts see them
pub record Devices : Type 0 where
  pub sources : SourcesView
  pub input : SourceView
  pub output : SinkView
  pub faults : SinkView

-- devices of these four
abbrev pub devices : SourcesView → SourceView → SinkView → SinkView → Devices
devices sources input output faults = record { sources = sources; input = input; output = output; faults = faults }

-- all that a run may touch: its devices, and the services of the machine
pub record Machine : Type 0 where
  pub devices : Devices
  pub servers : ServersView

-- a machine of these five
abbrev pub machine : SourcesView → SourceView → SinkView → SinkView → ServersView → Machine
machine sources input output faults servers = record { devices = devices sources input output faults; servers = servers }

-- the text was handed over in one call, whatever that answered
abbrev pub IsToldAtOnce : List ℕ → SinkView → SinkView → Type 0
IsToldAtOnce text old new = (answer : Result (Unit {0}) WriteFault) × IsOneWrite text old answer new

-- the text was told where faults are told, in one call, and nothing else was done
pub record Tells (text : List ℕ) (before after : Devices) : Type 0 where
  pub told : IsToldAtOnce text before.faults after.faults
  pub unasked : after.sources ≡ before.sources
  pub unread : after.input ≡ before.input
  pub unwritten : after.output ≡ before.output

-- none of the devices failed
pub record NoneFailed (before after : Devices) : Type 0 where
  pub sources : after.sources.failures ≡ before.sources.failures
  pub input : after.input.failures ≡ before.input.failures
  pub output : after.output.failures ≡ before.output.failures
  pub faults : after.faults.failures ≡ before.faults.failures
