use Rattle.std.proofs.Common.{◌≡◌, true, refl, sym, ap, subst, ◌∙◌, inl, inr, rules}
use Rattle.mr_sessions.specs.Link.{Breaks}
use Rattle.mr_sockets.proofs.socket_carrier.Connection.carry.Goals as goal

pub returns-in-Err-clause-carried : goal.returns-in-Err-clause-carried
returns-in-Err-clause-carried g c =
    let same = ap (λ v. v.link) c.self.view_is in
    let whole = c.requires.whole in
    elim c.in-Err.ensures.carried [
      | inl breaks ↦ ((c.carry.new.self, subst (λ l. Breaks c.args.sheet.now.command l c.in-Err.fault c.carry.new.self) same breaks), refl)
      | inr broken ↦ let was : c.args.self.link.broken ≡ true = sym (ap (λ l. l.broken) same) ∙ broken.was_broken in search rules
    ]
