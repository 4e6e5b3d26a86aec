use Rattle.mr_node.proofs.ServiceLemmas.{served_unless_quit, answers_exchange}
use Rattle.mr_node.proofs.service.serve_request.Goals as goal

pub returns : goal.returns
returns g c = (
  served_unless_quit c.args.request c.in_default.not-Quit,
  c.outcome-reply.result,
  c.outcome-reply.ensures,
  answers_exchange c.args.request c.outcome-reply.result c.is_silent-silent.result c.answer_to.result _ _ c.in_ok-write_answer.ensures c.answer_to.ensures
      c.is_silent-silent.ensures,
)
