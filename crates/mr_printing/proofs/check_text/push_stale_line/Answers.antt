use Rattle.std.proofs.Common.{codes}
use Rattle.mr_words.proofs.TextLemmas.{added_five}
use Rattle.mr_printing.specs.CheckText.{op_text}
use Rattle.mr_printing.proofs.check_text.push_stale_line.Goals as goal

pub returns : goal.returns
returns c =
    added_five _ _ _ _ _ _ (codes "verdict stale get ") (op_text c.args.get) (codes " delete ") (op_text c.args.delete) (codes "\n")
    c.in_ok-extend_from_slice.ensures.items c.in_ok-push_op.ensures c.in_ok-extend_from_slice-2.ensures.items c.in_ok-push_op-2.ensures
    c.in_ok-extend_from_slice-3.ensures.items
