-- What is done where the words call for the version.
use Rattle.std.specs.Prelude.{◌≡◌, Result, Ok, Err}
use Rattle.mr_text.specs.Sink.{IsOneWrite}
use Rattle.mr_text.specs.declared.error.WriteFault.{WriteFault}
use Rattle.mr_tool.specs.Devices.{Devices}
use Rattle.mr_tool.specs.declared.ended.Ended.{Ended}
use Rattle.mr_tool.specs.declared.ended.Ended.TheVariants.{Done}
use Rattle.mr_tool.specs.declared.fault.Fault.{Fault}
use Rattle.mr_tool.specs.declared.fault.Fault.TheVariants.{Output}
use Rattle.mr_words.specs.Version.{told_version}

-- the line that tells it was handed to the output in one call, which answered so, and nothing was loaded or read
pub record WritesVersion (before after : Devices) (answer : Result (Unit {0}) WriteFault) : Type 0 where
  pub unasked : after.sources ≡ before.sources
  pub unread : after.input ≡ before.input
  pub writes : IsOneWrite told_version before.output answer after.output

-- What is done. The line is written, unless the output fails.
abbrev pub VersionGives : Devices → Devices → Result Ended Fault → Type 0
VersionGives before after (Ok Done) = WritesVersion before after (Ok tt)
VersionGives before after (Err Output) = (fault : WriteFault) × WritesVersion before after (Err fault)
VersionGives before after _ = ⊥
