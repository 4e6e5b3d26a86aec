use Rattle.mr_text.specs.Requests.{SpellsRequest, RefusesRequest}
use Rattle.mr_text.specs.steps.Reading.{request_reading}
use Rattle.mr_text.proofs.OneReading.{one_refusal}
use Rattle.mr_text.proofs.RequestReading.{request_found, refusal_found}
use Rattle.mr_text.proofs.laws.requests_have_one_refusal.Goals as goal

pub returns : goal.returns
returns c = one_refusal SpellsRequest RefusesRequest request_reading request_found refusal_found
