use Rattle.std.proofs.Common.{◌≡◌, ◌++◌, map, drop, string_bytes}
use Rattle.mr_printing.proofs.drawing.titles_of.Given as goal

-- the titles so far and the bytes of the texts that are left are the bytes of all texts
abbrev pub invariant-loop-text : goal.invariant-loop-text
invariant-loop-text l = map (λ title. title.now) l.titles.items ++ map string_bytes (drop l.text-index l.texts) ≡ map string_bytes l.texts
