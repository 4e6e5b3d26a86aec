-- What is read of a stream has bytes, so that less is left.
use Rattle.std.proofs.Common.{◌≡◌, ◌∙◌, ℕ, ◌+◌, ◌<◌, ◌≤◌, ◌↔◌, List, [], ◌∷◌, ◌++◌, length, true, false, Some, Ok, Err, ap, arith, length-append}
use Rattle.mr_text.specs.Text.{IsLine}
use Rattle.mr_text.specs.Requests.{SpellsRequest, RefusesRequest, SkipsLine, is_quit, block_end}
use Rattle.mr_text.specs.Stream.{ReaderView, StandsFor, NextIs, unread}
use Rattle.mr_text.specs.declared.error.TextError.TheVariants.{UnknownCommand}
use Rattle.mr_text.specs.declared.request.Request.{Request}
use Rattle.mr_text.specs.declared.request.Request.TheVariants.{Get, Set, Delete, Quit}

line_has_bytes : (bytes line : List ℕ) → IsLine bytes line → 1 ≤ length bytes
line_has_bytes bytes line is = omega (arith, length-append is.raw (10 ∷ []), ap length is.ends)

spelling_has_bytes : (bytes : List ℕ) (request : Request) → SpellsRequest bytes request → 1 ≤ length bytes
spelling_has_bytes bytes (Get keys) is = line_has_bytes bytes is.is_line.line is.is_line.is_line
spelling_has_bytes bytes (Set key flags exptime block noreply) is =
    omega (arith, length-append is.line (block ++ block_end), length-append block block_end, ap length is.follows)
spelling_has_bytes bytes (Delete key false) is = line_has_bytes bytes is.is_line.line is.is_line.is_line
spelling_has_bytes bytes (Delete key true) is = line_has_bytes bytes is.is_line.line is.is_line.is_line
spelling_has_bytes bytes Quit is = line_has_bytes bytes is.is_line.line is.is_line.is_line

shorter : (kept rest front after kept' : List ℕ) → kept ≡ rest → rest ≡ front ++ after → kept' ≡ after → 1 ≤ length front → length kept' < length kept
shorter kept rest front after kept' e f g some =
    let a : length kept ≡ length rest = ap length e in
    let b : length rest ≡ length front + length after = ap length f ∙ length-append front after in
    let c : length kept' ≡ length after = ap length g in
    omega arith

pub request_leaves_less : (old new : ReaderView) (rest : List ℕ) (request : Request) → StandsFor old rest
    → NextIs SpellsRequest RefusesRequest SkipsLine is_quit old new rest (Ok (Some request)) → unread new < unread old
request_leaves_less old new rest request stands (open_still, after, begins, becomes) =
    shorter old.kept rest begins.spelling after new.kept stands begins.splits becomes.stands (spelling_has_bytes begins.spelling request begins.spells)

pub skipped_leaves_less : (old new : ReaderView) (rest : List ℕ) → StandsFor old rest
    → NextIs SpellsRequest RefusesRequest SkipsLine is_quit old new rest (Err (UnknownCommand false)) → unread new < unread old
skipped_leaves_less old new rest stands (open_still, after, skips, becomes) =
    shorter old.kept rest skips.line after new.kept stands skips.splits becomes.stands (line_has_bytes skips.line skips.is_line.line skips.is_line.is_line)

pub skips_or_refuses : (bytes : List ℕ) → ((after : List ℕ) × SkipsLine bytes after) ↔ RefusesRequest (UnknownCommand false) bytes
skips_or_refuses bytes = (
  λ (after, skips). (skips.words, record { line = skips.line; after = after; splits = skips.splits; is_line = skips.is_line }, skips.unknown),
  λ (words, begins, unknown). (begins.after, record { words = words; line = begins.line; splits = begins.splits; is_line = begins.is_line; unknown = unknown }),
)
