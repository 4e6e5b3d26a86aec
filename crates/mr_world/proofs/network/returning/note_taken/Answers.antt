use Rattle.mr_world.proofs.network.returning.note_taken.Goals as goal

pub tell-requires-clause-unanswered : goal.tell-requires-clause-unanswered
tell-requires-clause-unanswered c = c.requires.unanswered c.in-Answered.answer c.in-Answered.is
