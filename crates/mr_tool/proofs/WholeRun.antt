-- All that a run says of itself follows from what it does.
use Rattle.std.proofs.Common.{◌≡◌, ℕ, List, inr, refl, subst}
use Rattle.mr_text.specs.Sink.{SinkView}
use Rattle.mr_text.specs.Source.{SourceView}
use Rattle.mr_servers.specs.Servers.{ServersView}
use Rattle.mr_tool.specs.Devices.{IsToldAtOnce, Machine, machine}
use Rattle.mr_tool.specs.Fault.{fault_line}
use Rattle.mr_tool.specs.Run.{IsRunOf, Runs}
use Rattle.mr_tool.specs.Sources.{SourcesView}
use Rattle.mr_tool.specs.declared.fault.Fault.TheVariants.{Memory}
use Rattle.mr_tool.proofs.FewReads.{few}
use Rattle.mr_tool.proofs.RunLemmas.{done_steady, memory_told}

pub whole_run : (words : List (List ℕ)) (before after : Machine) (status : ℕ)
    → Runs words before.devices after.devices before.servers after.servers status → IsRunOf words before after status
whole_run words before after status runs = record {
  runs = runs;
  reads = few words before.devices after.devices before.servers after.servers status runs;
  none_failed = λ done. (done_steady words before.devices after.devices before.servers after.servers status runs done).0;
  all_began = λ done. (done_steady words before.devices after.devices before.servers after.servers status runs done).1;
}

-- the whole run of words that memory was refused for
pub memory_whole : (words : List (List ℕ)) (sources : SourcesView) (input : SourceView) (output old new : SinkView) (servers : ServersView) (status : ℕ)
    → status ≡ 1 → IsToldAtOnce (fault_line Memory) old new
    → IsRunOf words (machine sources input output old servers) (machine sources input output new servers) status
memory_whole words sources input output old new servers status is told =
    whole_run words (machine sources input output old servers) (machine sources input output new servers) status
    (inr (memory_told words sources input output old new status is told, refl))

-- words that are the same run the same
pub same_words_whole : (words others : List (List ℕ)) (before after : Machine) (status : ℕ) → words ≡ others → IsRunOf words before after status
    → IsRunOf others before after status
same_words_whole words others before after status same run = subst (λ (w : List (List ℕ)). IsRunOf w before after status) same run
