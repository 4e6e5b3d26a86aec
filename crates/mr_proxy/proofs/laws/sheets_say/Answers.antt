use Rattle.mr_proxy.proofs.SheetLemmas.{sheets_say_lem}
use Rattle.mr_proxy.proofs.laws.sheets_say.Goals as goal

pub returns : goal.returns
returns c = sheets_say_lem
