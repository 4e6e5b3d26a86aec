use Rattle.std.proofs.Common.{◌≡◌, ◌++◌, ◌-◌, ◌≤◌, ◌+◌, length, vec_len}
use Rattle.mr_http.specs.Reading.{MAX_HEAD}
use Rattle.mr_http.proofs.reading.read_head.Given as goal

-- all that was taken is kept
abbrev pub invariant-loop-bytes : goal.invariant-loop-bytes
invariant-loop-bytes g l = record {
  taken : (g.S.Source.told l.reader).taken ≡ (g.S.Source.told l.initial.reader).taken ++ l.bytes.items;
  steady : (g.S.Source.told l.reader).failures ≡ (g.S.Source.told l.initial.reader).failures;
  reads : (g.S.Source.told l.reader).reads ≤ (g.S.Source.told l.initial.reader).reads + length l.bytes.items;
  few : length l.bytes.items ≤ MAX_HEAD;
}

abbrev pub decreases-loop-bytes : goal.decreases-loop-bytes
decreases-loop-bytes g l = MAX_HEAD - vec_len l.bytes
