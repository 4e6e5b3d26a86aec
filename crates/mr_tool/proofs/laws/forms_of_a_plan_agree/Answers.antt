use Rattle.mr_tool.proofs.PlanLemmas.{forms_agree}
use Rattle.mr_tool.proofs.laws.forms_of_a_plan_agree.Goals as goal

pub returns : goal.returns
returns c = forms_agree
