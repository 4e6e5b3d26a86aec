use Rattle.std.proofs.Common.{◌-◌, ◌∙◌, ap, drop, length, length-drop, arith}
use Rattle.std.proofs.lemmas.List.{length-take-le}
use Rattle.mr_text.proofs.Rooms.{skipped}
use Rattle.mr_text.proofs.reading.kept.KeptBytes.skip.Goals as goal

pub returns : goal.returns
returns c =
    let kept = c.self.inside in
    let long = length-take-le (kept.end - kept.start) (drop kept.start kept.room.items)
    (omega (arith, length-drop kept.start kept.room.items, c.self.invariant.1)) in
    skipped kept.room.items kept.start kept.end c.args.count (omega (arith, long, ap length c.self.view_is, c.requires))
    ∙ ap (drop c.args.count) c.self.view_is
