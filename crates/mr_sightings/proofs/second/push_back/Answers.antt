use Rattle.std.specs.Prelude.{codes, decimal}
use Rattle.mr_sightings.specs.Second.{back_text}
use Rattle.mr_sightings.proofs.TextLemmas.{added_two}
use Rattle.mr_sightings.proofs.second.push_back.Goals as goal

pub returns : goal.returns
unfolding back_text
returns c =
    added_two c.args.text.now.items c.extend_from_slice.new.self.items c.push_number.new.text.items (codes ", came back ") (decimal c.args.count)
    c.in_ok-extend_from_slice.ensures.items c.in_ok-push_number.ensures
