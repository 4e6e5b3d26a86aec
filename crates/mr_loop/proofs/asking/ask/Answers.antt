use Rattle.std.proofs.Common.{ap}
use Rattle.mr_text.specs.declared.cause.Cause.TheVariants as cause
use Rattle.mr_loop.specs.Asking.{denial_of}
use Rattle.mr_loop.proofs.DoneLemmas.{begun_so, told_done}
use Rattle.mr_loop.proofs.asking.ask.Goals as goal

pub returns-in-Told : goal.returns-in-Told
returns-in-Told c = told_done c.args.asker c.args.request c.args.front.now c.issue.new.self c.args.links.now c.in-Told.ensures

pub returns-in-Issued : goal.returns-in-Issued
returns-in-Issued c =
    let e = c.in-Issued.ensures in
    rw (c.give_legs_back.ensures)
    (begun_so c.args.asker c.args.request c.args.front.now c.args.links.now c.issue.new.self c.in-Issued.issued.op c.in-Issued.issued.legs.items
    (denial_of c.is_silent-is_silent.result cause.OutOfMemory)
    c.send_off.new.front c.send_off.new.links e.0 e.1 e.2 e.3 e.4 (ap (λ s. denial_of s cause.OutOfMemory) c.is_silent-is_silent.ensures) c.send_off.ensures)
