use Rattle.std.specs.Prelude.{codes}
use Rattle.mr_sightings.specs.Shown.{great_number_of}
use Rattle.mr_sightings.specs.Verdict.{found_text}
use Rattle.mr_sightings.proofs.TextLemmas.{added_two}
use Rattle.mr_sightings.proofs.verdict.push_found.Goals as goal

pub returns : goal.returns
unfolding found_text
returns c =
    added_two c.args.text.now.items c.extend_from_slice.new.self.items c.push_great_number_of.new.text.items (codes "what was deleted came back ")
    (great_number_of c.args.count (codes "time") (codes "times")) c.in_ok-extend_from_slice.ensures.items c.in_ok-push_great_number_of.ensures
