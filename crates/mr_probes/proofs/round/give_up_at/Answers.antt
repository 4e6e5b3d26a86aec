use Rattle.std.proofs.Common.{sym, ◌∙◌}
use Rattle.mr_probes.proofs.RoundLemmas.{given_up, kept_on}
use Rattle.mr_probes.proofs.round.give_up_at.Goals as goal

pub returns-then-is_late : goal.returns-then-is_late
returns-then-is_late c course is =
    given_up c.args.now c.args.place c.args.give_up c.args.clients.now c.settle.new.clients c.args.notebook.now c.settle.new.notebook course c.index-clients-place.result
    c.requires (sym c.is_late.ensures ∙ c.if-is_late.true) is (c.settle.ensures course)

pub returns-else-is_late : goal.returns-else-is_late
returns-else-is_late c course is =
    kept_on c.args.now c.args.place c.args.give_up c.args.clients.now c.args.notebook.now course c.index-clients-place.result c.requires (sym c.is_late.ensures ∙ c.if-is_late.false) is
