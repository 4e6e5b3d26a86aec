use Rattle.std.proofs.Common.{rules}
use Rattle.mr_shown.proofs.CharacterLemmas.{first_point, text_after, no_point}
use Rattle.mr_shown.proofs.characters.are_bytes.Goals as goal

pub returns-then-from-gt255 : goal.returns-then-from-gt255
returns-then-from-gt255 c =
    let e = first_point _ _ _ c.loop-point.invariant.0 c.in-Some.ensures.steps.0 in
    search (rules, e)

pub loop-point-preserved : goal.loop-point-preserved
loop-point-preserved c =
    let e = first_point _ _ _ c.loop-point.invariant.0 c.in-Some.ensures.steps.0 in
    (text_after _ _ _ c.loop-point.invariant.0 c.in-Some.ensures.steps.0, search (rules, e))

pub returns : goal.returns
returns c =
    let e = no_point _ c.in-None.ensures.steps.0.0 in
    search (rules, e)
