use Rattle.mr_world.proofs.GroundLemmas.{step_secured}
use Rattle.mr_world.proofs.laws.steps_keep_secured.Goals as goal

pub returns : goal.returns
returns c = λ old new event note tracked tracked' faithful faithful' secured step.
    step_secured (record {
      says = c.sheets_say.ensures;
      goes_by = c.pools_by_reading.ensures;
      deletes = c.delete_goes.ensures;
      hop_within = c.hop_within.ensures;
      overlap = c.overlap.ensures;
      read_up = c.read_up.ensures;
      deletes_up = c.deletes_up.ensures;
      cache = c.recency_step_is_cache_step.ensures;
      stand_once = c.names_stand_once.ensures;
      fresh_grows = c.fresh_grows.ensures;
      safe_grows = c.safe_grows.ensures;
    }) c.runs_tell_premises.ensures old new event note tracked tracked' faithful faithful' secured step
