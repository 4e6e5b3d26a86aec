use Rattle.std.proofs.Common.{inl, sym, ◌∙◌}
use Rattle.mr_fleet.proofs.ClientEndLemmas.{had_a_thread}
use Rattle.mr_fleet.proofs.finished_client.FinishedClient.after_session.Goals as goal

pub of-requires : goal.of-requires
of-requires g c = inl c.requires

pub returns-clause-ended : goal.returns-clause-ended
returns-clause-ended g c told = had_a_thread _ _ _ c.requires (sym c.of.ensures.ended ∙ told)
