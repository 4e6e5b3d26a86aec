-- The bytes from one place of a room to another: after a step over some of them, and after a write behind them.
use Rattle.std.proofs.Common.{◌≡◌, ℕ, ◌+◌, ◌-◌, ◌≤◌, List, [], ◌++◌, length, take, drop, sym, ◌∙◌, ap, arith, append-nil, length-append}
use Rattle.std.proofs.lemmas.List.{drop-take, drop-drop, drop-append-le, length-take-le, take_all}
use Rattle.std.proofs.Math.Seq.{take-append-add, take-append_seam}

abbrev between : List ℕ → ℕ → ℕ → List ℕ
between room start end = take (end - start) (drop start room)

cut_first : (room : List ℕ) (start end : ℕ) → start ≤ end → drop start (take end room) ≡ between room start end
cut_first room start end order =
    let whole : end ≡ start + (end - start) = omega (arith, order) in
    ap (λ n. drop start (take n room)) whole ∙ drop-take start (end - start) room

pub skipped : (room : List ℕ) (start end count : ℕ) → count ≤ end - start
    → between room (start + count) end ≡ drop count (between room start end)
skipped room start end count fits =
    let left = end - (start + count) in
    let whole : end - start ≡ count + left = omega (arith, fits) in
    sym (ap (λ n. drop count (take n (drop start room))) whole ∙ drop-take count left (drop start room)
    ∙ ap (take left) (drop-drop count start room))

pub appended : (room piece rest : List ℕ) (start end : ℕ) → start ≤ end → end ≤ length room
    → between (take end room ++ (piece ++ rest)) start (end + length piece) ≡ between room start end ++ piece
appended room piece rest start end order fits =
    let front = take end room in
    let long : length front ≡ end = length-take-le end room fits in
    sym (cut_first (front ++ (piece ++ rest)) start (end + length piece) (omega (arith, order)))
    ∙ ap (drop start) (ap (λ n. take (n + length piece) (front ++ (piece ++ rest))) (sym long)
    ∙ take-append-add front (piece ++ rest) (length piece) ∙ ap (λ tail. front ++ tail) (take-append_seam piece rest))
    ∙ drop-append-le start front piece (omega (arith, order, long))
    ∙ ap (λ kept. kept ++ piece) (cut_first room start end order)

pub cut : (room : List ℕ) (start end : ℕ) → start ≤ end → end ≤ length room
    → between (take end room) start end ≡ between room start end
cut room start end order fits =
    let long : length (take end room) ≡ end = length-take-le end room fits in
    sym (cut_first (take end room) start end order) ∙ ap (drop start) (take_all end (take end room) (omega (arith, long)))
    ∙ cut_first room start end order

pub grown : (room piece : List ℕ) (start end : ℕ) → start ≤ end → end ≤ length room
    → between (take end room ++ piece) start (length (take end room ++ piece)) ≡ between room start end ++ piece
grown room piece start end order fits =
    let front = take end room in
    let long : length (front ++ piece) ≡ end + length piece =
    length-append front piece ∙ ap (λ n. n + length piece) (length-take-le end room fits) in
    ap (between (front ++ piece) start) long
    ∙ ap (λ tail. between (front ++ tail) start (end + length piece)) (sym (append-nil piece))
    ∙ appended room piece [] start end order fits
