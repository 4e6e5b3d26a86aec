use Rattle.std.proofs.Common.{◌≡◌, ◌+◌, ◌-◌, ◌<◌, ◌≤◌, ◌∷◌, [], ◌++◌, length, take, drop, sym, ◌∙◌, ap, arith}
use Rattle.mr_text.specs.Limits.{MAX_BLOCK, MAX_ITEMS}
use Rattle.mr_text.specs.Replies.{IsItemLine}
use Rattle.mr_text.specs.steps.Reading.StretchReading.{Gives}
use Rattle.mr_text.specs.steps.ReplyReading.{step_reading}
use Rattle.mr_text.specs.steps.ReplyReading.Step.{ItemStep, EndStep}
use Rattle.mr_text.specs.declared.item.Item.{Item}
use Rattle.mr_text.proofs.OnlyItems.{items_at, first_reached, next_reached, reached_reply}
use Rattle.mr_text.proofs.ReplyProgress.{behind_is}
use Rattle.mr_text.proofs.reading.replies.whole_items.Goals as goal

pub whole-init : goal.whole-init
whole-init c =
    let begun = first_reached c.args.bytes.now c.new-items.result.items c.in-Some.first (c.args.size + c.args.block_length + 2) c.new-items.ensures.items
    (c.in-Some.ensures.item MAX_ITEMS (omega arith)) c.in-Some.ensures.within in
    record { few = begun.0; reached = begun.1 }

pub whole-preserved : goal.whole-preserved
whole-preserved c =
    let bytes = c.args.bytes.now in
    let before = c.whole.items.items in
    let i = c.in-Ok-Item in
    let room = MAX_ITEMS - 1 - c.len.result in
    let rest = take (length bytes - c.whole.read) (drop c.whole.read bytes) in
    let same : room ≡ MAX_ITEMS - 1 - length before = (let count = c.len.ensures in omega (arith, c.whole.items.ok.0)) in
    let says : IsItemLine (take i.size rest) i.key.now i.flags i.block_length × (i.block_length ≤ MAX_BLOCK) × (0 < room) × (i.size ≤ length rest) =
    (rw i.field-0-is at i.ensures) in
    let grown : c.push.new.self.items ≡ before ++ c.whole.last ∷ [] =
    c.in-Ok.ensures.items ∙ ap (λ (x : Item). before ++ x ∷ []) c.replace.ensures.value in
    let one = next_reached bytes rest before c.push.new.self.items c.whole.last c.replace.new.dest c.whole.read (i.size + i.block_length + 2) room same (behind_is c.whole.read bytes)
    grown c.whole.invariant.reached says.2
    (c.in-Some-small_item.ensures.item room says.2 ∙ ap (λ (x : Item). Gives (ItemStep x) (i.size + i.block_length + 2)) (sym c.replace.ensures.after)) c.in-Some-small_item.ensures.within in
    record { few = one.0; reached = one.1 }

pub returns-in-Ok-End-clause-reply : goal.returns-in-Ok-End-clause-reply
returns-in-Ok-End-clause-reply c =
    let bytes = c.args.bytes.now in
    let before = c.whole.items.items in
    let i = c.in-Ok-End in
    let room = MAX_ITEMS - 1 - c.len.result in
    let rest = take (length bytes - c.whole.read) (drop c.whole.read bytes) in
    let same : room ≡ MAX_ITEMS - 1 - length before = (let count = c.len.ensures in omega (arith, c.whole.items.ok.0)) in
    let ends : (step_reading room rest ≡ Gives EndStep i.end) × (i.end ≤ length rest) = (rw i.field-0-is at i.ensures) in
    reached_reply bytes rest before c.in-Some-list_with.list c.whole.last c.whole.read i.end room same (behind_is c.whole.read bytes) c.in-Some-list_with.ensures
    c.whole.invariant.reached ends.0 (items_at bytes c.args.key.now c.args.flags c.args.block_length c.args.size c.requires.line c.requires.allowed)
