use Rattle.std.proofs.Common.{sym}
use Rattle.mr_shown.proofs.notes.verdict_value.Goals as goal

pub returns-in-Stale : goal.returns-in-Stale
returns-in-Stale c = rw (c.in-Stale.is, sym c.as_bytes.ensures.bytes) (c.object_with.ensures _ c.object_of-stale.ensures)

pub returns-in-Invented : goal.returns-in-Invented
returns-in-Invented c = rw (c.in-Invented.is, sym c.as_bytes-in-Invented.ensures.bytes) (c.object_with-in-Invented.ensures _ c.object_of-invented.ensures)
