use Rattle.mr_streams.proofs.Serving.{served}
use Rattle.mr_streams.proofs.laws.requests_are_delivered.Goals as goal

pub returns : goal.returns
returns c = λ by messages deliveries w number reading most name back later old new returning going heard serves ws wr there kept busy.
    served (record {
      free = c.requests_are_prefix_free.ensures;
      reads = c.canonical_request_is_read.ensures;
      unrefused = c.no_request_is_refused.ensures;
      skips = c.skipped_lines_are_refused.ensures;
      unfinished = c.nothing_is_unfinished.ensures;
    }) by messages deliveries w number reading most name back later old new returning going heard serves ws wr there kept busy
