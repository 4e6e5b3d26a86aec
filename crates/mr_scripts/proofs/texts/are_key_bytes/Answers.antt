use Rattle.std.proofs.Common.{rules}
use Rattle.mr_shown.proofs.CharacterLemmas.{first_point, text_after, no_point}
use Rattle.mr_scripts.proofs.texts.are_key_bytes.Goals as goal
use Rattle.mr_scripts.proofs.texts.are_key_bytes.Goals.{then-point-le32-via-then-point-le32, then-point-le32-via-else-point-le32+then-point-eq127}

pub returns-then-point-le32 : goal.returns-then-point-le32
returns-then-point-le32 c =
    let e = first_point _ _ _ c.loop-point.invariant.0 c.in-Some.ensures.steps.0 in
    elim c.then-point-le32.branch [
      | then-point-le32-via-then-point-le32 w ↦ search (rules, e)
      | then-point-le32-via-else-point-le32+then-point-eq127 w ↦ search (rules, e)
    ]

pub loop-point-preserved : goal.loop-point-preserved
loop-point-preserved c =
    let e = first_point _ _ _ c.loop-point.invariant.0 c.in-Some.ensures.steps.0 in
    (text_after _ _ _ c.loop-point.invariant.0 c.in-Some.ensures.steps.0, search (rules, e))

pub returns : goal.returns
returns c =
    let e = no_point _ c.in-None.ensures.steps.0.0 in
    search (rules, e)
