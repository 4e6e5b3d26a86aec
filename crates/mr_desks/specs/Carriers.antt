-- What carriers tell of the legs that went through them.
use Rattle.std.specs.Prelude.{◌≡◌, ℕ, ◌+◌, List, [], ◌∷◌, ◌++◌, Option, Some, None}
use Rattle.mr_proxy.specs.declared.sheet.LegBack.{LegBack}
use Rattle.mr_proxy.specs.declared.sheet.LegSheet.{LegSheet}

-- the legs that were sent, in order; how often a leg was handed back, or none came; and how many legs came back
pub record CarriersView : Type 0 where
  pub sent : List LegSheet
  pub losses : ℕ
  pub brought : ℕ

-- nothing went through them yet
abbrev pub unused : CarriersView
unused = record { sent = []; losses = 0; brought = 0 }

-- the leg was sent; or it is handed back, and that is a loss
abbrev pub SendIs : CarriersView → LegSheet → Option LegSheet → CarriersView → Type 0
SendIs old leg None new = new ≡ record old { sent = old.sent ++ leg ∷ [] }
SendIs old leg (Some back) new = (back ≡ leg) × (new ≡ record old { losses = old.losses + 1 })

-- a leg came back; or none did, and that is a loss
abbrev pub ReceiveIs : CarriersView → Option LegBack → CarriersView → Type 0
ReceiveIs old None new = new ≡ record old { losses = old.losses + 1 }
ReceiveIs old (Some back) new = new ≡ record old { brought = old.brought + 1 }
