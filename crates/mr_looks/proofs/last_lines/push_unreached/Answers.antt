use Rattle.std.proofs.Common.{codes}
use Rattle.mr_words.proofs.TextLemmas.{added_three}
use Rattle.mr_looks.specs.WatchText.{unreached_line}
use Rattle.mr_looks.proofs.last_lines.push_unreached.Goals as goal

pub returns : goal.returns
unfolding unreached_line
returns c =
    added_three _ _ _ _ (codes "never reached: ") c.args.service.now.address.now (codes "\n") c.in_ok-extend_from_slice.ensures.items c.in_ok-push_word.ensures
    c.in_ok-extend_from_slice-2.ensures.items
