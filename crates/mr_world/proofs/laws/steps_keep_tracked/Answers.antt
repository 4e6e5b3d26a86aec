use Rattle.mr_world.proofs.TrackedLemmas.{step_tracked}
use Rattle.mr_world.proofs.laws.steps_keep_tracked.Goals as goal

pub returns : goal.returns
returns c = λ old new event note tracked step.
    step_tracked (record {
      within = c.spread_is_least.ensures;
      keep_sound = c.steps_keep_sound.ensures;
      next_is_new = c.next_op_is_new.ensures;
      gives_next = c.issue_gives_next_op.ensures;
      for_good = c.given_out_for_good.ensures;
      says = c.sheets_say.ensures;
      hop_within = c.hop_within.ensures;
      keep_form = c.fitting_entry_keeps_form.ensures;
    }) old event note new step tracked
