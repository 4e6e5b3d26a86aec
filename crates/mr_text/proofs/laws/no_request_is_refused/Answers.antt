use Rattle.mr_text.specs.Requests.{SpellsRequest, RefusesRequest}
use Rattle.mr_text.specs.steps.Reading.{request_reading}
use Rattle.mr_text.proofs.OneReading.{not_refused}
use Rattle.mr_text.proofs.RequestReading.{request_found, refusal_found}
use Rattle.mr_text.proofs.laws.no_request_is_refused.Goals as goal

pub returns : goal.returns
returns c = not_refused SpellsRequest RefusesRequest request_reading request_found refusal_found
