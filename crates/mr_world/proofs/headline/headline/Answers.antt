use Rattle.mr_world.proofs.HeadlineLemmas.{begin_plans, begin_sound, premises_told}
use Rattle.mr_world.proofs.headline.headline.Goals as goal

pub returns : goal.returns
returns c = λ setup first last events plans begins run premises.
    let tracked = c.setups_begin_tracked.ensures setup first begins (begin_sound setup first begins plans c.fresh_is_sound.ensures) in
    let faithful = c.setups_begin_faithful.ensures setup first begins in
    let secured = c.setups_begin_secured.ensures setup first begins (begin_plans setup first begins plans) in
    let hold = premises_told setup first last events begins (c.setups_tell_premises.ensures setup first begins) (c.runs_tell_premises.ensures first last events tracked run) premises in
    (c.runs_keep_secured.ensures first last events tracked faithful secured run hold).safe
