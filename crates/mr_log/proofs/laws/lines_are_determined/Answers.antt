use Rattle.std.proofs.Common.{◌++◌, ℕ, List, codes, sym, ap, ◌∙◌}
use Rattle.mr_log.specs.Lines.{happening_text, more_text}
use Rattle.mr_log.proofs.TimeLemmas.{one_time}
use Rattle.mr_log.proofs.laws.lines_are_determined.Goals as goal

pub returns : goal.returns
returns c service at said line other a b =
    let rest : List ℕ = codes " " ++ (happening_text service said.happening ++ (more_text said.more ++ codes "\n")) in
    a.spelled ∙ ap (λ (time : List ℕ). time ++ rest) (one_time at a.time b.time a.dated b.dated) ∙ sym b.spelled
