use Rattle.std.proofs.Common.{refl}
use Rattle.mr_tool.proofs.RunLemmas.{memory_told, refused_readings_told, refused_words_told, version_told}
use Rattle.mr_tool.proofs.run.tell_no_command.Goals as goal

pub returns-in-Wrong : goal.returns-in-Wrong
returns-in-Wrong g c = λ words sources input reads.
    refused_words_told words sources input _ _ _ _ (rw c.in-Wrong.is at reads) c.tell_wrong_words.ensures

pub returns-in-Version : goal.returns-in-Version
returns-in-Version g c = λ words sources input reads.
    version_told words _ _ _ _ _ (rw c.in-Version.is at reads) (c.write_version.ensures sources input (g.F.Sink.told c.args.faults.now)) refl
    (c.finish.ensures sources input (g.O.Sink.told c.write_version.new.output))

pub returns-in-Readings : goal.returns-in-Readings
returns-in-Readings g c = λ words sources input reads.
    refused_readings_told words sources input _ _ _ _ (rw c.in-Readings.is at reads) c.tell_bad_readings.ensures.status c.tell_bad_readings.ensures.told

pub returns-in-Memory : goal.returns-in-Memory
returns-in-Memory g c = λ words sources input reads. memory_told words sources input _ _ _ _ c.tell_fault.ensures.status c.tell_fault.ensures.told
