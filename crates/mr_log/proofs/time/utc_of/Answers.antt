use Rattle.std.proofs.Common.{ap, ◌∙◌}
use Rattle.mr_log.proofs.TimeLemmas.{spelled_by_default}
use Rattle.mr_log.proofs.time.utc_of.Goals as goal

pub returns : goal.returns
returns c =
    let shown = c.timestamp_text.ensures in
    record {
      shown = shown.0;
      stands = shown.1 ∙ ap (λ t. t.nanosecond) c.to_plain.ensures;
      spelled = shown.2 ∙ spelled_by_default c.new.result.lowercase c.new.result.separator c.new.result.precision shown.0 c.new.ensures;
    }
