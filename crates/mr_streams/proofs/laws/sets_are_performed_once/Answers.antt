use Rattle.mr_streams.proofs.Convicting.{performed_once, stores_in_time}
use Rattle.mr_streams.proofs.laws.sets_are_performed_once.Goals as goal

pub returns : goal.returns
returns c = λ setup first last ticks plans texts starts run premises names unlike.
    performed_once names first.history last.history
    (stores_in_time (record {
      replies = record { free = c.replies_are_prefix_free.ensures; reads = c.canonical_reply_is_read.ensures };
      requests = record {
        free = c.requests_are_prefix_free.ensures;
        reads = c.canonical_request_is_read.ensures;
        unrefused = c.no_request_is_refused.ensures;
        skips = c.skipped_lines_are_refused.ensures;
        unfinished = c.nothing_is_unfinished.ensures;
      };
      sheets = record { say = c.sheets_say.ensures; within = c.hop_within.ensures };
    }) (record {
      steps_keep_tracked = c.steps_keep_tracked.ensures;
      steps_keep_faithful = c.steps_keep_faithful.ensures;
      setups_begin_faithful = c.setups_begin_faithful.ensures;
      setups_begin_tracked = c.setups_begin_tracked.ensures;
      fresh_is_sound = c.fresh_is_sound.ensures;
    }) c.streams_refine_the_world.ensures setup first last ticks plans texts starts run premises) unlike
