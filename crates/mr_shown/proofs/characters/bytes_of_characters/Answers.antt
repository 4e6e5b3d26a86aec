use Rattle.std.proofs.Common.{arith, rules}
use Rattle.std.proofs.lemmas.Grind.{common_steps}
use Rattle.mr_shown.proofs.CharacterLemmas.{first_point, text_after, no_point}
use Rattle.mr_shown.proofs.characters.bytes_of_characters.Goals as goal

pub overflow_cast-from : goal.overflow_cast-from
overflow_cast-from c =
    let e = first_point _ _ _ c.loop-point.invariant.0 c.in-Some.ensures.steps.0 in
    search (rules, e)

pub loop-point-preserved : goal.loop-point-preserved
loop-point-preserved c =
    let e = first_point _ _ _ c.loop-point.invariant.0 c.in-Some.ensures.steps.0 in
    (text_after _ _ _ c.loop-point.invariant.0 c.in-Some.ensures.steps.0, search (rules, e), grind (arith, common_steps, e))

pub returns : goal.returns
returns c =
    let e = no_point _ c.in-None.ensures.steps.0.0 in
    search (rules, e)
