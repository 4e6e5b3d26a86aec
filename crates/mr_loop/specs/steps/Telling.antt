-- What is taken from the core's side to be told.
use Rattle.std.specs.Prelude.{◌≡◌, ℕ, [], ◌∷◌, ◌++◌, Option, Some, None, drop, slice_get, slice_set}
use Rattle.mr_loop.specs.declared.client.Client.{Client}
use Rattle.mr_loop.specs.Events.{FrontView}

-- so many bytes were written to a client
pub record ReadsSo (client count : ℕ) (old new : FrontView) : Type 0 where
  pub was : Client
  pub there : slice_get old.clients client ≡ Some was
  pub becomes : new ≡ record old { clients = slice_set old.clients client (record was { out = drop count was.out }) }

-- the place that was touched last is asked for, and none where none is left
abbrev pub TouchedIs : FrontView → Option ℕ → FrontView → Type 0
TouchedIs old None new = (old.touched ≡ []) × (new ≡ old)
TouchedIs old (Some place) new = (old.touched ≡ new.touched ++ place ∷ []) × (new ≡ record old { touched = new.touched })
