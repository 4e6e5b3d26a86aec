use Rattle.mr_watch.proofs.premise_lines.push_forward.Goals as goal

pub returns : goal.returns
returns c =
    let same = c.as_slice.ensures.value in
    let is = c.in_ok-backward.ensures in
    rw (same, is) at c.push_named_line.ensures
