use Rattle.mr_loop.proofs.DoneLemmas.{quit_done}
use Rattle.mr_loop.proofs.asking.answer_request.Goals as goal

pub returns-in-Quit : goal.returns-in-Quit
returns-in-Quit c = quit_done c.args.asker c.args.request c.args.front.now c.args.links.now c.in-Quit.is
