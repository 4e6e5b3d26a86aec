use Rattle.std.proofs.Common.{◌≡◌, None, drop, fold}
use Rattle.mr_drawing.specs.Blame.{author_after}
use Rattle.mr_drawing.proofs.blame.last_author.Given as goal

-- what is found so far and what is left come to the whole
abbrev pub invariant-loop-entry : goal.invariant-loop-entry
invariant-loop-entry l = fold (author_after l.item) l.found (drop l.entry-index l.entries) ≡ fold (author_after l.item) None l.entries
