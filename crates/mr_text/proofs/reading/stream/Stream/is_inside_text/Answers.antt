use Rattle.std.proofs.Common.{◌≡◌, ◌≢◌, ℕ, List, [], ◌∷◌, ◌++◌, MatchBool, refl, sym, subst}
use Rattle.mr_text.proofs.reading.stream.Stream.is_inside_text.Goals as goal

front_empty : (front unread : List ℕ) → front ++ unread ≡ [] → front ≡ []
front_empty [] unread e = refl
front_empty (b ∷ bs) unread e = cc

pub returns-then-begun : goal.returns-then-begun
returns-then-begun c =
    let front = c.args.self.now.front in
    let unread = c.args.self.now.unread in
    let some : front ≢ [] = subst (λ b. MatchBool b (front ≢ []) (front ≡ [])) c.if-begun.true c.requires in
    subst (λ b. MatchBool b (front ++ unread ≢ []) (front ++ unread ≡ [])) (sym c.if-begun.true) (λ e. some (front_empty front unread e))
