use Rattle.std.proofs.Common.{◌∙◌}
use Rattle.mr_http.specs.Fetch.{metrics_request, IsAsked}
use Rattle.mr_http.proofs.FetchLemmas.{not_fetched}
use Rattle.mr_http.proofs.fetch.fetch_metrics.Goals as goal

pub returns-clause-refused : goal.returns-clause-refused
returns-clause-refused g c =
    let asked : IsAsked (metrics_request c.args.host.now) (g.W.Sink.told c.args.writer.now) (g.W.Sink.told c.write_all.new.self) =
    rw (c.as_slice.ensures.value ∙ c.in_ok-request.ensures) at c.in_ok-write_all.ensures in
    let none = rw c.as_slice-2.ensures.value at c.body_of.ensures.refused in
    not_fetched _ _ _ _ _ _ _ asked c.in_ok-response.ensures.read none
