use Rattle.mr_world.proofs.FactLemmas.{step_faithful}
use Rattle.mr_world.proofs.laws.steps_keep_faithful.Goals as goal

pub returns : goal.returns
returns c = λ old new event note tracked tracked' faithful step.
    step_faithful (record {
      says = c.sheets_say.ensures;
      last_reply = c.last_reply_answers.ensures;
      given_up = c.given_up_early.ensures;
      acknowledged = c.acknowledged_by_legs.ensures;
      found = c.items_were_found.ensures;
    }) old event note new step tracked'.formed tracked faithful
