use Rattle.std.proofs.Common.{◌≡◌, ◌∙◌, ℕ, List, length, get_or, ap}
use Rattle.mr_probes.proofs.DigitsLemmas.{dash_of_word, length-word_text, word_is}
use Rattle.mr_probes.proofs.digits.read_word.Goals as goal
use Rattle.mr_probes.proofs.digits.read_word.Goals.{then-text-via-then-text, then-text-via-else-text+then-text-ne-DASH}

pub returns-then-text : goal.returns-then-text
returns-then-text c n fits = (
  λ none. absurd (cc),
  λ same.
      let long : length c.args.text.now ≡ 17 = ap length same ∙ length-word_text n in
      let dash : get_or c.args.text.now 16 0 ≡ 45 = ap (λ (t : List ℕ). get_or t 16 0) same ∙ dash_of_word n in
      elim c.then-text.branch [
        | then-text-via-then-text w ↦ absurd (w.if-text.true long)
        | then-text-via-else-text+then-text-ne-DASH w ↦ absurd (w.if-text-ne-DASH.true dash)
      ],
)

pub returns : goal.returns
returns c n fits =
    let is = word_is c.args.text.now c.if-text.false c.if-text-ne-DASH.false n in
    let read = c.read_number.ensures n fits in
    (λ some. is.0 (read.0 some), λ same. read.1 (is.1 same))
