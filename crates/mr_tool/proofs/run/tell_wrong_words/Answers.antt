use Rattle.std.proofs.Common.{inl, refl}
use Rattle.mr_tool.proofs.RunLemmas.{told_by_call}
use Rattle.mr_tool.proofs.run.tell_wrong_words.Goals as goal

pub returns : goal.returns
returns g c = inl (refl, (_, told_by_call _ _ _ _ c.write_all.result refl c.write_all.ensures))
