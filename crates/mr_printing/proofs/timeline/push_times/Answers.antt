use Rattle.std.proofs.Common.{◌≡◌, ◌∙◌, ℕ, ◌+◌, List, ◌∷◌, ◌++◌, length, drop, slice_get, Option, Some, ap, sym}
use Rattle.std.proofs.lemmas.List.{append_assoc, drop_more}
use Rattle.std.proofs.lemmas.Option.{get_or_from_slice_get, slice_get_within}
use Rattle.mr_configs.specs.declared.times.PhaseTimes.{PhaseTimes}
use Rattle.mr_printing.specs.HopText.{told_hop}
use Rattle.mr_printing.specs.TimelineText.{hop_lines, lines_from}
use Rattle.mr_printing.proofs.timeline.push_times.Goals as goal

-- what is left of a list from an element on
drop_there : (timeline : List PhaseTimes) (number : ℕ) (times : PhaseTimes) → slice_get timeline number ≡ Some times
    → drop number timeline ≡ times ∷ drop (number + 1) timeline
drop_there timeline number times there =
    drop_more timeline number times (slice_get_within timeline number times there)
    ∙ ap (λ first. first ∷ drop (number + 1) timeline) (get_or_from_slice_get timeline number times times there)

-- the lines of one more hop, of as many as the timeline has
one_more : (timeline : List PhaseTimes) (hops number : ℕ) (hop : Option ℕ) (times : PhaseTimes) (before after whole : List ℕ) → hops ≡ length timeline
    → hop ≡ told_hop hops number → slice_get timeline number ≡ Some times → after ≡ before ++ hop_lines number hop times
    → before ++ lines_from (length timeline) number (drop number timeline) ≡ whole
    → after ++ lines_from (length timeline) (number + 1) (drop (number + 1) timeline) ≡ whole
one_more timeline hops number hop times before after whole counted told there added so_far =
    let later : List ℕ = lines_from (length timeline) (number + 1) (drop (number + 1) timeline) in
    let is_told : hop ≡ told_hop (length timeline) number = told ∙ ap (λ n. told_hop n number) counted in
    ap (λ text. text ++ later) (added ∙ ap (λ h. before ++ hop_lines number h times) is_told)
    ∙ (append_assoc before (hop_lines number (told_hop (length timeline) number) times) later
    ∙ (ap (λ rest. before ++ lines_from (length timeline) number rest) (sym (drop_there timeline number times there)) ∙ so_far))

pub loop-number-preserved : goal.loop-number-preserved
loop-number-preserved c =
    one_more c.args.times.now c.hops-hops.result c.loop-number.number c.told_hop.result c.of.result c.loop-number.text.items c.push_hop_lines.new.text.items _
    c.hops-hops.ensures c.told_hop.ensures c.of.ensures c.in_ok-push_hop_lines.ensures c.loop-number.invariant
