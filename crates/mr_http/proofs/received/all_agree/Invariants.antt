use Rattle.std.proofs.Common.{ℕ, ◌<◌, slice_index_or}
use Rattle.httparse.specs.Spans.{header_bytes}
use Rattle.httparse.specs.declared.spans.HeaderSpan.{HeaderSpan}
use Rattle.mr_http.specs.Received.{Agrees}
use Rattle.mr_http.proofs.received.all_agree.Given as goal

-- those before agree
abbrev pub invariant-loop-field : goal.invariant-loop-field
invariant-loop-field l = (k : ℕ) (d : HeaderSpan) → k < l.field-index → Agrees l.bytes (header_bytes l.response (slice_index_or l.fields k d))
