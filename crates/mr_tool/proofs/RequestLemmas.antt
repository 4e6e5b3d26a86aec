-- What a reader's answers and the reads of an input say of its first request.
use Rattle.std.proofs.Common.{arith, ◌≡◌, ℕ, ◌+◌, ◌<◌, ◌≤◌, Bool, true, false, IsTrue, List, [], ◌++◌, length, take, Option, Some, None, Result, Ok, Err, refl, subst, sym, ◌∙◌, ap, length-append}
use Rattle.std.proofs.lemmas.Bool.{false≢true}
use Rattle.std.proofs.lemmas.List.{append_assoc, append-nil, length-take-le}
use Rattle.mr_text.specs.Requests.{SpellsRequest, RefusesRequest, SkipsLine, is_quit}
use Rattle.mr_text.specs.Source.{SourceView, IsOneRead}
use Rattle.mr_text.specs.Stream.{ReaderView, Becomes, NextIs, FeedIs}
use Rattle.mr_text.specs.declared.request.Request.{Request}
use Rattle.mr_text.specs.declared.error.TextError.{TextError}
use Rattle.mr_text.specs.declared.error.TextError.TheVariants.{LineTooLong, BadKey, BadNumber, WrongWords, DataTooLong, BadDataEnd, UnknownCommand, Truncated, Closed, OutOfMemory}
use Rattle.mr_tool.specs.declared.fault.Fault.{Fault}
use Rattle.mr_tool.specs.declared.fault.Fault.TheVariants.{Memory, Input, Output, File, Net, Plan, Pools, Phases, Node, Text}
use Rattle.mr_tool.specs.Input.{HoldsNoRequest, Hold, IsNextOf, HasRead, Completes, ReadsRequest, most_reads}
use Rattle.mr_text.proofs.ShortRequests.{nothing_unfinished, unfinished_short}

pub next_refusal : (old new : ReaderView) (bytes : List ℕ) (refusal : TextError) → old.closed ≡ false → old.ended ≡ false
    → NextIs SpellsRequest RefusesRequest SkipsLine is_quit old new bytes (Err refusal) → Hold bytes (Err (Text refusal))
next_refusal old new bytes LineTooLong is_open goes_on h = h.1
next_refusal old new bytes BadKey is_open goes_on h = h.1
next_refusal old new bytes BadNumber is_open goes_on h = h.1
next_refusal old new bytes WrongWords is_open goes_on h = h.1
next_refusal old new bytes DataTooLong is_open goes_on h = h.1
next_refusal old new bytes BadDataEnd is_open goes_on h = h.1
next_refusal old new bytes (UnknownCommand true) is_open goes_on h = h.1
next_refusal old new bytes (UnknownCommand false) is_open goes_on h =
    let skipped = h.2 in
    (skipped.words, record { line = skipped.line; after = h.1; splits = skipped.splits; is_line = skipped.is_line }, skipped.unknown)
next_refusal old new bytes Truncated is_open goes_on h = let ended = h.1 in cc
next_refusal old new bytes Closed is_open goes_on h = let closed = h.0 in cc
next_refusal old new bytes OutOfMemory is_open goes_on h = tt

pub feed_refusal : (old new : ReaderView) (fed piece : List ℕ) (refusal : TextError) → old.closed ≡ false → old.ended ≡ false
    → FeedIs old new fed piece (Err refusal) → Hold (fed ++ piece) (Err (Text refusal))
feed_refusal old new fed piece Closed is_open unended h = let never : IsTrue false = rw (is_open, unended) at h.0 in absurd (false≢true never)
feed_refusal old new fed piece OutOfMemory is_open unended h = tt
feed_refusal old new fed piece LineTooLong is_open unended h = let never = h.0 in cc
feed_refusal old new fed piece BadKey is_open unended h = let never = h.0 in cc
feed_refusal old new fed piece BadNumber is_open unended h = let never = h.0 in cc
feed_refusal old new fed piece WrongWords is_open unended h = let never = h.0 in cc
feed_refusal old new fed piece DataTooLong is_open unended h = let never = h.0 in cc
feed_refusal old new fed piece BadDataEnd is_open unended h = let never = h.0 in cc
feed_refusal old new fed piece (UnknownCommand closes) is_open unended h = let never = h.0 in cc
feed_refusal old new fed piece Truncated is_open unended h = let never = h.0 in cc

pub next_found : (old new : ReaderView) (bytes : List ℕ) (request : Option Request) → old.ended ≡ false
    → NextIs SpellsRequest RefusesRequest SkipsLine is_quit old new bytes (Ok request) → IsNextOf new bytes (Ok request)
next_found old new bytes (Some request) unended h = (h.1, h.2)
next_found old new bytes None unended h = (subst (λ (b : Bool). Becomes new bytes b false) unended h.3, h.1)

-- what a reader was fed by so many reads, of which each brought a byte
pub record HasFed (before now : SourceView) (reader : ReaderView) (turns : ℕ) : Type 0 where
  pub fed : List ℕ
  pub stands : Becomes reader fed false false
  pub waits : HoldsNoRequest fed
  pub taken : now.taken ≡ before.taken ++ fed
  pub steady : now.failures ≡ before.failures
  pub reads : now.reads ≡ before.reads + turns
  pub brought : turns ≤ length fed

pub fed_nothing : (view : SourceView) (reader : ReaderView) → Becomes reader [] false false → HasFed view view reader 0
fed_nothing view reader is = record {
  fed = [];
  stands = is;
  waits = nothing_unfinished;
  taken = sym (append-nil view.taken);
  steady = refl;
  reads = omega arith;
  brought = omega arith;
}

-- one more read
piece_read : (before now after : SourceView) (reader : ReaderView) (turns count : ℕ) (buffer : List ℕ) (h : HasFed before now reader turns)
    → IsOneRead buffer now (Ok count) after → HasRead h.fed (take count buffer) before after
piece_read before now after reader turns count buffer h read =
    let counted = read.counted in
    let reads = h.reads in
    let brought = h.brought in
    record {
      taken = read.gives.1 ∙ (ap (λ s. s ++ take count buffer) h.taken ∙ append_assoc before.taken h.fed (take count buffer));
      waits = h.waits;
      reads = omega arith;
    }

pub fed_more : (before now after : SourceView) (reader reader' : ReaderView) (turns count : ℕ) (buffer : List ℕ) (h : HasFed before now reader turns)
    → IsOneRead buffer now (Ok count) after → 0 < count → IsNextOf reader' (h.fed ++ take count buffer) (Ok None) → HasFed before after reader' (turns + 1)
fed_more before now after reader reader' turns count buffer h read some next =
    let counted = read.counted in
    let reads = h.reads in
    let brought = h.brought in
    let size : length (take count buffer) ≡ count = length-take-le count buffer read.gives.0 in
    let whole = length-append h.fed (take count buffer) in
    record {
      fed = h.fed ++ take count buffer;
      stands = next.0;
      waits = next.1;
      taken = (piece_read before now after reader turns count buffer h read).taken;
      steady = read.gives.2 ∙ h.steady;
      reads = omega arith;
      brought = omega arith;
    }

completed : (before after : SourceView) (result : Result Request Fault) (h : Completes before after result) → Hold (h.early ++ h.piece) result → ReadsRequest before after result
completed before after (Ok request) h holds = h
completed before after (Err Memory) h holds = absurd holds
completed before after (Err Input) h holds = absurd holds
completed before after (Err Output) h holds = absurd holds
completed before after (Err (File line)) h holds = absurd holds
completed before after (Err (Plan refusal)) h holds = absurd holds
completed before after (Err (Net line)) h holds = absurd holds
completed before after (Err (Pools refusal)) h holds = absurd holds
completed before after (Err (Phases refusal)) h holds = absurd holds
completed before after (Err (Node refusal)) h holds = absurd holds
completed before after (Err (Text LineTooLong)) h holds = h
completed before after (Err (Text BadKey)) h holds = h
completed before after (Err (Text BadNumber)) h holds = h
completed before after (Err (Text WrongWords)) h holds = h
completed before after (Err (Text DataTooLong)) h holds = h
completed before after (Err (Text BadDataEnd)) h holds = h
completed before after (Err (Text (UnknownCommand closes))) h holds = h
completed before after (Err (Text Truncated)) h holds = absurd holds
completed before after (Err (Text Closed)) h holds = h
completed before after (Err (Text OutOfMemory)) h holds = h

-- the piece completes a request or a refusal
pub fed_completes : (before now after : SourceView) (reader : ReaderView) (turns count : ℕ) (buffer : List ℕ) (result : Result Request Fault)
    (h : HasFed before now reader turns) → IsOneRead buffer now (Ok count) after → Hold (h.fed ++ take count buffer) result → ReadsRequest before after result
fed_completes before now after reader turns count buffer result h read holds =
    completed before after result
    (record {
      early = h.fed;
      piece = take count buffer;
      read = piece_read before now after reader turns count buffer h read;
      steady = read.gives.2 ∙ h.steady;
      holds = holds;
    })
    holds

-- so many reads are never made: their bytes hold a request or a refusal
pub fed_spent : (before now : SourceView) (reader : ReaderView) (turns : ℕ) → HasFed before now reader turns → most_reads ≤ turns → ⊥
fed_spent before now reader turns h all =
    let short = unfinished_short h.fed h.waits in
    let brought = h.brought in
    absurd (omega arith)

few : (early piece : List ℕ) (before after : SourceView) → HasRead early piece before after → after.reads ≤ before.reads + most_reads
few early piece before after h =
    let short = unfinished_short early h.waits in
    let reads = h.reads in
    omega arith

-- how many reads were made
pub few_reads : (before after : SourceView) (result : Result Request Fault) → ReadsRequest before after result → after.reads ≤ before.reads + most_reads
few_reads before after (Ok request) h = few h.early h.piece before after h.read
few_reads before after (Err Memory) h = few h.early h.piece before after h.read
few_reads before after (Err Input) h = few h.early [] before after h.read
few_reads before after (Err Output) h = few h.early h.piece before after h.read
few_reads before after (Err (File line)) h = few h.early h.piece before after h.read
few_reads before after (Err (Plan refusal)) h = few h.early h.piece before after h.read
few_reads before after (Err (Net line)) h = few h.early h.piece before after h.read
few_reads before after (Err (Pools refusal)) h = few h.early h.piece before after h.read
few_reads before after (Err (Phases refusal)) h = few h.early h.piece before after h.read
few_reads before after (Err (Node refusal)) h = few h.early h.piece before after h.read
few_reads before after (Err (Text LineTooLong)) h = few h.early h.piece before after h.read
few_reads before after (Err (Text BadKey)) h = few h.early h.piece before after h.read
few_reads before after (Err (Text BadNumber)) h = few h.early h.piece before after h.read
few_reads before after (Err (Text WrongWords)) h = few h.early h.piece before after h.read
few_reads before after (Err (Text DataTooLong)) h = few h.early h.piece before after h.read
few_reads before after (Err (Text BadDataEnd)) h = few h.early h.piece before after h.read
few_reads before after (Err (Text (UnknownCommand closes))) h = few h.early h.piece before after h.read
few_reads before after (Err (Text Truncated)) h = few h.early [] before after h.read
few_reads before after (Err (Text Closed)) h = few h.early h.piece before after h.read
few_reads before after (Err (Text OutOfMemory)) h = few h.early h.piece before after h.read
