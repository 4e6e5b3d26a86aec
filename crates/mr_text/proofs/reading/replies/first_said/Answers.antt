use Rattle.std.proofs.Common.{◌≡◌}
use Rattle.mr_text.specs.steps.Reading.{line_reading}
use Rattle.mr_text.specs.steps.Reading.StretchReading.{Gives}
use Rattle.mr_text.proofs.ReplyProgress.{says_first}
use Rattle.mr_text.proofs.reading.replies.first_said.Goals as goal

pub returns-in_default : goal.returns-in_default
returns-in_default c = (rw c.in_default.is at c.in_ok-line.ensures.reading)

pub returns : goal.returns
returns c =
    let read : line_reading c.args.bytes.now ≡ Gives c.in-Some.line.now c.in-Some.size = (rw c.in-Some.is at c.in_ok-line.ensures.reading) in
    let within = (rw c.in-Some.is at c.in_ok-line.ensures.within) in
    (says_first c.args.bytes.now c.in-Some.line.now c.in-Some.size c.in_ok-said.said read c.in_ok-said.ensures.line, c.in_ok-said.ensures.text, within.0)
