-- What goes out of a text, piece by piece.
use Rattle.std.proofs.Common.{ℕ, ◌+◌, List, [], ◌++◌, refl, sym, ap, ◌∙◌, append-nil, append_assoc, Result, Ok, Err}
use Rattle.std.proofs.KnownBytes.{Appends-nil, Appends-trans}
use Rattle.mr_text.specs.Sink.{SinkView, HasWritten, HasStopped, Writes, IsOneWrite}
use Rattle.mr_text.specs.declared.error.WriteFault.{WriteFault}

-- nothing
pub written_none : (w : SinkView) → HasWritten [] w w
written_none w = record { written = sym (append-nil w.written); handed = sym (append-nil w.handed); steady = refl; holds = Appends-nil w.contents }

-- one text, and then another
pub written_then : (a b : List ℕ) (old mid new : SinkView) → HasWritten a old mid → HasWritten b mid new → HasWritten (a ++ b) old new
written_then a b old mid new first second =
    record {
      written = second.written ∙ ap (λ l. l ++ b) first.written ∙ append_assoc old.written a b;
      handed = second.handed ∙ ap (λ l. l ++ b) first.handed ∙ append_assoc old.handed a b;
      steady = second.steady ∙ first.steady;
      holds = Appends-trans old.contents mid.contents new.contents a b first.holds second.holds;
    }

-- one text, and a beginning of another
pub stopped_behind : (a b : List ℕ) (old mid new : SinkView) → HasWritten a old mid → HasStopped b mid new → HasStopped (a ++ b) old new
stopped_behind a b old mid new first stop =
    record {
      front = a ++ stop.front;
      piece = stop.piece;
      rest = stop.rest;
      splits = ap (λ l. a ++ l) stop.splits ∙ sym (append_assoc a stop.front (stop.piece ++ stop.rest));
      written = stop.written ∙ ap (λ l. l ++ stop.front) first.written ∙ append_assoc old.written a stop.front;
      handed = stop.handed ∙ ap (λ l. l ++ (stop.front ++ stop.piece)) first.handed ∙ append_assoc old.handed a (stop.front ++ stop.piece)
          ∙ ap (λ l. old.handed ++ l) (sym (append_assoc a stop.front stop.piece));
      failed = stop.failed ∙ ap (λ n. n + 1) first.steady;
      last = stop.last;
    }

-- a beginning of the front
pub stopped_before : (a b : List ℕ) (old new : SinkView) → HasStopped a old new → HasStopped (a ++ b) old new
stopped_before a b old new stop =
    record {
      front = stop.front;
      piece = stop.piece;
      rest = stop.rest ++ b;
      splits = ap (λ l. l ++ b) stop.splits ∙ append_assoc stop.front (stop.piece ++ stop.rest) b ∙ ap (λ l. stop.front ++ l) (append_assoc stop.piece stop.rest b);
      written = stop.written;
      handed = stop.handed;
      failed = stop.failed;
      last = stop.last;
    }

-- the only call failed
pub stopped_at_once : (bytes : List ℕ) (old new : SinkView) (e : WriteFault) → IsOneWrite bytes old (Err e) new → HasStopped bytes old new
stopped_at_once bytes old new e (written, handed, failed, last, counted) =
    record {
      front = [];
      piece = bytes;
      rest = [];
      splits = sym (append-nil bytes);
      written = written ∙ sym (append-nil old.written);
      handed = handed;
      failed = failed;
      last = last;
    }

-- a text, and then what a writer leaves of another
pub writes_behind : (a b : List ℕ) (old mid new : SinkView) (result : Result (Unit {0}) WriteFault) → HasWritten a old mid → Writes b mid result new → Writes (a ++ b) old result new
writes_behind a b old mid new (Ok _) first then = written_then a b old mid new first then
writes_behind a b old mid new (Err e) first then = stopped_behind a b old mid new first then
