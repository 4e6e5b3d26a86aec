use Rattle.std.proofs.Common.{◌≡◌, ◌++◌, ◌-◌, ◌≤◌, ◌+◌, length, vec_len, false}
use Rattle.std.specs.Io.KnownBytes.{Consumes}
use Rattle.mr_http.specs.Pieces.{most_bytes, is_whole}
use Rattle.mr_http.proofs.pieces.read_until.Given as goal

-- all that was taken is kept, and isn't whole
abbrev pub invariant-pieces : goal.invariant-pieces
invariant-pieces g l = record {
  needed : is_whole l.until l.bytes.items ≡ false;
  taken : (g.S.Source.told l.reader).taken ≡ (g.S.Source.told l.initial.reader).taken ++ l.bytes.items;
  leaves : Consumes (g.S.Source.told l.initial.reader).left (g.S.Source.told l.reader).left l.bytes.items;
  steady : (g.S.Source.told l.reader).failures ≡ (g.S.Source.told l.initial.reader).failures;
  reads : (g.S.Source.told l.reader).reads ≤ (g.S.Source.told l.initial.reader).reads + length l.bytes.items;
  few : length l.bytes.items ≤ most_bytes l.until;
  most : l.most ≡ most_bytes l.until;
}

abbrev pub decreases-pieces : goal.decreases-pieces
decreases-pieces g l = most_bytes l.until - vec_len l.bytes
