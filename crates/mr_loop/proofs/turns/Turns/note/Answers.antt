use Rattle.std.proofs.Common.{◌≡◌, Some, position, ap, ◌∙◌}
use Rattle.mr_history.specs.declared.op_id.OpId.{OpId}
use Rattle.mr_loop.specs.Turns.{noted_in, is_turn_of}
use Rattle.mr_loop.proofs.turns.Turns.note.Goals as goal

pub returns-in-Some : goal.returns-in-Some
returns-in-Some c =
    let found : Some c.in-Some.at ≡ position (is_turn_of c.args.answer.op) c.args.self.now =
    c.in-Some.ensures ∙ ap (λ (o : OpId). position (is_turn_of o) c.args.self.now) c.op.ensures in
    c.set.ensures ∙ ap (λ o. noted_in c.args.self.now o c.args.answer) found
