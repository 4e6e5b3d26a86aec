use Rattle.std.proofs.Common.{◌≡◌, ℕ, ◌+◌, List, take, drop, Ok, true, sym, ◌∙◌, ap}
use Rattle.mr_text.specs.steps.Reading.{block_reading}
use Rattle.mr_text.specs.steps.Reading.StretchReading.{Gives}
use Rattle.mr_text.specs.steps.ReplyReading.Step.{ItemStep}
use Rattle.mr_text.proofs.OnlyItems.{item_at}
use Rattle.mr_text.proofs.ReplyProgress.{behind_is}
use Rattle.mr_text.proofs.reading.replies.small_item.Goals as goal

pub returns-clause-item : goal.returns-clause-item
returns-clause-item c =
    λ room some.
    let bytes = c.args.bytes.now in
    let size = c.args.size in
    let count = c.args.block_length in
    let cut = behind_is size bytes in
    let whole : block_reading count (drop size bytes) ≡ Ok true =
    ap (block_reading count) (sym cut) ∙ sym c.in-Ok-true.ensures.reading ∙ ap Ok c.in-Ok-true.field-0-test in
    let read = item_at room bytes c.args.key.now c.args.flags count size some c.requires.within c.requires.line c.requires.allowed whole in
    let same_block = c.in-Ok-Ok.ensures' ∙ ap (take count) cut in
    read ∙ ap (λ (k : List ℕ). Gives (ItemStep (record { key = k; flags = c.args.flags; block = take count (drop size bytes) })) (size + count + 2)) (sym c.in-Ok-Ok.ensures)
    ∙ ap (λ (b : List ℕ). Gives (ItemStep (record { key = c.in-Ok-Ok.key; flags = c.args.flags; block = b })) (size + count + 2)) (sym same_block)
