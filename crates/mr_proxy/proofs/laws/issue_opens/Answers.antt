use Rattle.mr_proxy.proofs.OpenLemmas.{issue_opens_lem}
use Rattle.mr_proxy.proofs.laws.issue_opens.Goals as goal

pub returns : goal.returns
returns c = issue_opens_lem
