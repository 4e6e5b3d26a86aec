-- How much may be read without a request or a refusal: less than the longest line and the longest block with their ends.
use Rattle.std.proofs.Common.{◌≡◌, ℕ, ◌+◌, ◌-◌, ◌<◌, ◌≤◌, ◌==◌, Bool, true, false, not, List, [], length, take, drop, Option, Some, None, Result, Ok, Err, refl, sym, arith, if◌then◌else◌, nat_le, nat_lt, leb-true, leb-false, length-drop, slice_index}
use Rattle.std.proofs.lemmas.List.{take-append-drop, length-take, length-take-le}
use Rattle.mr_lines.specs.Blocks.{block_end}
use Rattle.mr_lines.specs.Lines.{byte_place, without_carriage_return}
use Rattle.mr_lines.specs.Words.{words_of}
use Rattle.mr_lines.specs.declared.blocks.BlockEnd.TheVariants.{Awaited, Found, Wrong}
use Rattle.mr_lines.proofs.ByteLemmas.{place_none}
use Rattle.mr_text.specs.Line.{HasLineFeed}
use Rattle.mr_text.proofs.Lines.{IsRead, LineIs, line_is, line_length}
use Rattle.mr_text.proofs.Nexts.{RefusedSo, waits}
use Rattle.mr_text.proofs.RequestNexts.{request_given, request_refuses}
use Rattle.mr_text.proofs.RequestReading.{LineSays, line_says, request_found, refusal_found}
use Rattle.mr_text.specs.Limits.{MAX_LINE, MAX_BLOCK}
use Rattle.mr_text.specs.steps.Reading.{StretchReading, CommandLine, has_end, block_reading, command_line, line_reading, request_of_line, request_of_reading, request_reading, set_reading}
use Rattle.mr_text.specs.steps.Reading.StretchReading.{Waits, Gives, Refused}
use Rattle.mr_text.specs.steps.Reading.CommandLine.{GetLine, SetLine, DeleteLine, QuitLine}
use Rattle.mr_text.specs.Requests.{SpellsRequest, RefusesRequest, SkipsLine, is_quit}
use Rattle.mr_text.specs.declared.error.TextError.{TextError}
use Rattle.mr_text.specs.declared.error.TextError.TheVariants.{LineTooLong, BadKey, BadNumber, WrongWords, DataTooLong, BadDataEnd, UnknownCommand, Truncated, Closed, OutOfMemory}
use Rattle.mr_text.specs.declared.request.Request.{Request}
use Rattle.mr_text.specs.Stream.{IsUnfinished}

never_refused : (bytes : List ℕ) (refusal : TextError) (size : ℕ) → IsUnfinished SpellsRequest RefusesRequest bytes → RefusedSo RefusesRequest SkipsLine bytes refusal size → ⊥
never_refused bytes (UnknownCommand true) size h r = h.not_refused (UnknownCommand true) r
never_refused bytes (UnknownCommand false) size h r =
    h.not_refused (UnknownCommand false) (r.words, record { line = r.line; after = drop size bytes; splits = r.splits; is_line = r.is_line }, r.unknown)
never_refused bytes LineTooLong size h r = h.not_refused LineTooLong r
never_refused bytes BadKey size h r = h.not_refused BadKey r
never_refused bytes BadNumber size h r = h.not_refused BadNumber r
never_refused bytes WrongWords size h r = h.not_refused WrongWords r
never_refused bytes DataTooLong size h r = h.not_refused DataTooLong r
never_refused bytes BadDataEnd size h r = h.not_refused BadDataEnd r
never_refused bytes Truncated size h r = absurd r
never_refused bytes Closed size h r = absurd r
never_refused bytes OutOfMemory size h r = absurd r

-- where nothing is spelled and nothing refused, the reading waits
unfinished_waits : (bytes : List ℕ) → IsUnfinished SpellsRequest RefusesRequest bytes → request_reading bytes ≡ Waits
unfinished_waits bytes h = go (request_reading bytes) refl
  where
    go : (r : StretchReading Request) → request_reading bytes ≡ r → r ≡ Waits
    go Waits e = refl
    go (Gives request size) e =
        absurd (h.not_spelled request (drop size bytes)
        (record { spelling = take size bytes; spells = request_given bytes request size e; splits = sym (take-append-drop size bytes) }))
    go (Refused refusal size) e = absurd (never_refused bytes refusal size h (request_refuses bytes refusal size e))

-- a line without its carriage return is at most one byte shorter
raw_short : (raw line : List ℕ) → line ≡ without_carriage_return raw → length raw ≤ length line + 1
raw_short raw line e = go (slice_index raw (length raw - 1) == 13) refl
  where
    go : (t : Bool) → (slice_index raw (length raw - 1) == 13) ≡ t → length raw ≤ length line + 1
    go true is = let cut : line ≡ take (length raw - 1) raw = (rw is at e) in let size = length-take (length raw - 1) raw in rw cut (omega (arith, size))
    go false is = let whole : line ≡ raw = (rw is at e) in rw whole (omega arith)

line_short : (bytes line : List ℕ) (size : ℕ) → IsRead bytes line size → size ≤ 8194
line_short bytes line size read =
    let low = read.within in
    let front : length (take size bytes) ≡ size = length-take-le size bytes low in
    let ends = line_length (take size bytes) line read.is_line in
    let raw = raw_short read.is_line.raw line read.is_line.reads in
    let most = read.not_long in
    omega arith

-- a block that waits isn't longer than it may be, with the first byte of its end
pub block_waits : (block_length : ℕ) (bytes : List ℕ) → block_reading block_length bytes ≡ Ok false → length bytes ≤ block_length + 1
unfolding block_reading block_end
block_waits n bytes e = go (nat_le (length bytes) n) refl
  where
    last : (t : Bool) → (u : Bool) → nat_le (length bytes) (n + 1) ≡ t
        → has_end (if t then Awaited else if u then Found else Wrong) ≡ Ok false → length bytes ≤ n + 1
    last true u is e = leb-true _ _ is
    last false true is e = cc
    last false false is e = cc

    first : (t : Bool) → has_end (if not t then Wrong else if nat_le (length bytes) (n + 1) then Awaited
        else if slice_index bytes (n + 1) == 10 then Found else Wrong) ≡ Ok false → length bytes ≤ n + 1
    first true e = last (nat_le (length bytes) (n + 1)) (slice_index bytes (n + 1) == 10) refl e
    first false e = cc

    go : (t : Bool) → nat_le (length bytes) n ≡ t → length bytes ≤ n + 1
    go true is = let short = leb-true _ _ is in omega arith
    go false is = first (slice_index bytes n == 13) (rw is at e)

set_waits : (bytes key : List ℕ) (flags : ℕ) (exptime : _) (n : ℕ) (noreply : Bool) (size : ℕ) (r : Result Bool TextError)
    → set_reading bytes key flags exptime n noreply size r ≡ Waits → r ≡ Ok false
set_waits bytes key flags exptime n noreply size (Ok true) e = cc
set_waits bytes key flags exptime n noreply size (Ok false) e = refl
set_waits bytes key flags exptime n noreply size (Err refusal) e = cc

command_waits : (bytes : List ℕ) (words : List (List ℕ)) (size : ℕ) (r : Result CommandLine TextError) → LineSays words r → size ≤ 8194 → size ≤ length bytes
    → request_of_line bytes size r ≡ Waits → length bytes < MAX_LINE + 2 + MAX_BLOCK + 2
command_waits bytes words size (Ok (GetLine keys)) says low within e = cc
command_waits bytes words size (Ok (DeleteLine key noreply)) says low within e = cc
command_waits bytes words size (Ok QuitLine) says low within e = cc
command_waits bytes words size (Err refusal) says low within e = cc
command_waits bytes words size (Ok (SetLine key flags exptime n noreply)) says low within e =
    let short = block_waits n (drop size bytes) (set_waits bytes key flags exptime n noreply size (block_reading n (drop size bytes)) e) in
    let behind = length-drop size bytes in
    let allowed : n ≤ MAX_BLOCK = says.6 in
    omega arith

-- no line is there yet
abbrev no_line : StretchReading (List ℕ)
no_line = Waits

pub line_waits : (bytes : List ℕ) → line_reading bytes ≡ Waits → (¬ HasLineFeed bytes) × (length bytes < 8194)
unfolding line_reading
line_waits bytes e = go (byte_place 10 bytes) refl
  where
    none : byte_place 10 bytes ≡ None → (t : Bool) → nat_le (MAX_LINE + 2) (length bytes) ≡ t → (if t then Refused LineTooLong 0 else Waits) ≡ no_line
        → (¬ HasLineFeed bytes) × (length bytes < 8194)
    none nowhere true is e = cc
    none nowhere false is e = (place_none 10 bytes nowhere, let short = leb-false _ _ is in omega arith)

    some : (t : Bool) (line : List ℕ) (size : ℕ) → (if t then Refused LineTooLong 0 else Gives line size) ≡ Waits → (¬ HasLineFeed bytes) × (length bytes < 8194)
    some true line size e = cc
    some false line size e = cc

    go : (place : Option ℕ) → byte_place 10 bytes ≡ place → (¬ HasLineFeed bytes) × (length bytes < 8194)
    go None is = none is (nat_le (MAX_LINE + 2) (length bytes)) refl (rw is at e)
    go (Some place) is =
        some (nat_lt MAX_LINE (length (without_carriage_return (take place bytes)))) (without_carriage_return (take place bytes)) (place + 1) (rw is at e)

waits_short : (bytes : List ℕ) → request_reading bytes ≡ Waits → length bytes < MAX_LINE + 2 + MAX_BLOCK + 2
unfolding request_reading
waits_short bytes e = go (line_reading bytes) refl (line_is bytes)
  where
    go : (r : StretchReading (List ℕ)) → line_reading bytes ≡ r → LineIs bytes r → length bytes < MAX_LINE + 2 + MAX_BLOCK + 2
    go Waits is read = let low = (line_waits bytes is).1 in omega arith
    go (Gives line size) is read =
        command_waits bytes (words_of line) size (command_line (words_of line)) (line_says (words_of line)) (line_short bytes line size read) read.within (rw is at e)
    go (Refused refusal size) is read = let never : request_of_reading bytes (Refused refusal size) ≡ Waits = (rw is at e) in cc

-- so many bytes always hold a request or a refusal
pub unfinished_short : (bytes : List ℕ) → IsUnfinished SpellsRequest RefusesRequest bytes → length bytes < MAX_LINE + 2 + MAX_BLOCK + 2
unfinished_short bytes h = waits_short bytes (unfinished_waits bytes h)

nothing_waits : request_reading [] ≡ Waits
unfolding request_reading line_reading
nothing_waits = refl

-- nothing holds neither
pub nothing_unfinished : IsUnfinished SpellsRequest RefusesRequest []
nothing_unfinished =
    waits SpellsRequest RefusesRequest SkipsLine is_quit request_reading request_found refusal_found request_given request_refuses [] nothing_waits
