use Rattle.mr_streams.proofs.Refining.{refined}
use Rattle.mr_streams.proofs.laws.streams_refine_the_world.Goals as goal

pub returns : goal.returns
returns c = λ setup first last start ticks plans texts starts begins run.
    refined (record {
      replies = record { free = c.replies_are_prefix_free.ensures; reads = c.canonical_reply_is_read.ensures };
      requests = record {
        free = c.requests_are_prefix_free.ensures;
        reads = c.canonical_request_is_read.ensures;
        unrefused = c.no_request_is_refused.ensures;
        skips = c.skipped_lines_are_refused.ensures;
        unfinished = c.nothing_is_unfinished.ensures;
      };
      sheets = record { say = c.sheets_say.ensures; within = c.hop_within.ensures };
    }) setup first last start ticks plans texts starts begins run
