use Rattle.std.proofs.Common.{codes}
use Rattle.mr_words.proofs.TextLemmas.{added_four}
use Rattle.mr_looks.specs.WatchText.{broken_line}
use Rattle.mr_looks.proofs.last_lines.push_all_broken.Goals as goal

pub returns : goal.returns
returns c =
    let findings = c.args.findings.now in
    added_four _ _ _ _ _ (broken_line findings.same (codes "same configuration")) (broken_line findings.empty (codes "new pool empty"))
    (broken_line findings.near (codes "clocks near")) (broken_line findings.forward (codes "no clock went back")) c.in_ok-push_broken.ensures
    c.in_ok-push_broken-2.ensures c.in_ok-push_broken-3.ensures c.in_ok-push_broken-4.ensures
