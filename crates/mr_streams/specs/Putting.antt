-- The texts that a proxy's loop puts to the bytes that a client is to be told.
use Rattle.std.specs.Prelude.{◌≡◌, ℕ, List, ◌++◌, Some, is_some, IsTrue, slice_get, slice_set}
use Rattle.std.specs.List.{flat_map, AllByRecursion}
use Rattle.mr_loop.specs.LoopView.{LoopView}
use Rattle.mr_loop.specs.Runs.{told_text}
use Rattle.mr_loop.specs.Turns.{text_of_turn}
use Rattle.mr_loop.specs.declared.client.Client.{Client}
use Rattle.mr_loop.specs.declared.turns.Turn.{Turn}

-- the texts of a client's first turns, which have texts, are put behind the bytes that it is to be told, and these turns leave
pub record TellsFirst (old new : Client) : Type 0 where
  pub told : List Turn
  pub splits : old.turns ≡ told ++ new.turns
  pub have_texts : AllByRecursion (λ turn. IsTrue (is_some (text_of_turn turn))) told
  pub text : new.out ≡ old.out ++ flat_map told_text told

-- the texts of the first turns of the client of a place are put to the bytes that it is to be told
pub record PutsTexts (place : ℕ) (old new : LoopView) : Type 0 where
  pub was : Client
  pub client : Client
  pub there : slice_get old.front.clients place ≡ Some was
  pub tells : TellsFirst was client
  pub becomes : new ≡ record old { front = record old.front { clients = slice_set old.front.clients place client } }
