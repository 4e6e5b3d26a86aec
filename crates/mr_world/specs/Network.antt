-- A fleet with what is kept beside it so that a message is sent without a search.
use Rattle.std.specs.Prelude.{◌≡◌, ℕ, ◌<◌, List, [], length, slice_index_or, None, Result, Ok, Err}
use Rattle.mr_proxy.specs.declared.sheet.LegSheet.{LegSheet}
use Rattle.mr_proxy.specs.Sheets.{pool_at}
use Rattle.mr_world.specs.declared.message.Message.{Message}
use Rattle.mr_proxy.specs.declared.world_error.WorldError.{WorldError}
use Rattle.mr_world.specs.declared.event.Event.{Event}
use Rattle.mr_world.specs.declared.note.Note.{Note}
use Rattle.mr_world.specs.Facts.{IsFaithfulWorld}
use Rattle.mr_world.specs.Grounded.{StaysSecured}
use Rattle.mr_world.specs.Refusals.{refusal_of_event, IsEventRefusal}
use Rattle.mr_world.specs.Steps.{WorldStep}
use Rattle.mr_world.specs.Tracked.{IsTracked, numbers_of}
use Rattle.mr_world.specs.WorldView.{WorldView}

-- a fleet, with the nodes' numbers kept beside it
pub record NetworkView : Type 0 where
  pub world : WorldView
  -- the numbers of the nodes that each proxy's routing names, pool by pool
  pub numbers : List (List (List ℕ))

-- what every step of it keeps
pub record IsReady (n : NetworkView) : Type 0 where
  pub tracked : IsTracked n.world
  pub faithful : IsFaithfulWorld n.world
  pub secured : StaysSecured n.world
  pub numbers : n.numbers ≡ numbers_of n.world.nodes n.world.proxies

-- an event is accepted and does its step, or is refused and changes nothing
abbrev pub DoesEvent : NetworkView → Event → Result Note WorldError → NetworkView → Type 0
DoesEvent old event (Ok note) new = (refusal_of_event old.world event ≡ None) × WorldStep old.world event note new.world × (new.numbers ≡ old.numbers)
DoesEvent old event (Err e) new = IsEventRefusal (refusal_of_event old.world event) event e × (new ≡ old)

-- the numbers of the nodes of a pool
abbrev pub numbers_at : List (List ℕ) → LegSheet → List ℕ
numbers_at numbers sheet = slice_index_or numbers (pool_at sheet) []

-- the sheet's node has a number
pub record HasNumber (numbers : List (List ℕ)) (sheet : LegSheet) : Type 0 where
  pub pool : pool_at sheet < length numbers
  pub node : sheet.node < length (numbers_at numbers sheet)

-- a leg goes to the node of that number
abbrev pub message_by : List (List ℕ) → LegSheet → Message
message_by numbers sheet = record { sheet = sheet; node = slice_index_or (numbers_at numbers sheet) sheet.node 0 }
