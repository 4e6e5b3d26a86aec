use Rattle.mr_text.specs.Requests.{SpellsRequest, RefusesRequest}
use Rattle.mr_text.specs.steps.Reading.{request_reading}
use Rattle.mr_text.proofs.OneReading.{prefix_free}
use Rattle.mr_text.proofs.RequestReading.{request_found, refusal_found}
use Rattle.mr_text.proofs.laws.requests_are_prefix_free.Goals as goal

pub returns : goal.returns
returns c = prefix_free SpellsRequest RefusesRequest request_reading request_found refusal_found
