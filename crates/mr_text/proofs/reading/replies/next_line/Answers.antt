use Rattle.std.proofs.Common.{◌≡◌, Ok}
use Rattle.mr_lines.specs.Words.{words_of}
use Rattle.mr_text.specs.steps.Reading.{line_reading}
use Rattle.mr_text.specs.steps.Reading.StretchReading.{Gives}
use Rattle.mr_text.specs.steps.ReplyReading.{next_line}
use Rattle.mr_text.specs.steps.ReplyReading.ReplyLine.{ItemLine}
use Rattle.mr_text.proofs.ReplyProgress.{item_line_is}
use Rattle.mr_text.proofs.reading.replies.next_line.Goals as goal

pub returns-in_default : goal.returns-in_default
returns-in_default c = (rw c.in_default.is at c.in_ok-line.ensures.reading)

pub returns-in-Item : goal.returns-in-Item
returns-in-Item c =
    let read : line_reading c.args.bytes.now ≡ Gives c.in-Some.line.now c.in-Some.size = (rw c.in-Some.is at c.in_ok-line.ensures.reading) in
    let within = (rw c.in-Some.is at c.in_ok-line.ensures.within) in
    let said : next_line c.args.room (words_of c.in-Some.line.now) ≡ Ok (ItemLine c.in-Item.key.now c.in-Item.flags c.in-Item.block_length) = (rw c.in-Item.is at c.in_ok-key.ensures.line) in
    let is = item_line_is c.args.bytes.now c.in-Some.line.now c.in-Item.key.now c.args.room c.in-Item.flags c.in-Item.block_length c.in-Some.size read said in
    (is.0, is.1, is.2, within.0)
