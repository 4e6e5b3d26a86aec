-- Where the legs of a request go, by which its own answer is known.
use Rattle.std.specs.Prelude.{◌≡◌, ℕ, ◌≤◌, List, length, map, Some, slice_get}
use Rattle.mr_text.specs.declared.request.Request.{Request}
use Rattle.mr_history.specs.declared.op_id.OpId.{OpId}
use Rattle.mr_proxy.specs.Answer.{AnswerView}
use Rattle.mr_proxy.specs.Sheets.{legs_of}
use Rattle.mr_proxy.specs.Sound.{sheet_of}
use Rattle.mr_proxy.specs.Whole.{IsCommandAt}
use Rattle.mr_proxy.specs.declared.sheet.LegSheet.{LegSheet}
use Rattle.mr_proxy.specs.declared.slot.Slot.{Slot}
use Rattle.mr_sessions.specs.declared.destinations.Destination.{Destination}
use Rattle.mr_sessions.specs.Own.{IssuedView}

-- the node that a leg goes to
abbrev pub destination_of : LegSheet → Destination
destination_of sheet = record { hop = sheet.hop; side = sheet.side; node = sheet.node }

abbrev pub slot_destination : Slot → Destination
slot_destination slot = destination_of (sheet_of slot)

-- it has this name and this text, and its legs went to these nodes, in order
pub record WentAs (op : OpId) (request : Request) (destinations : List Destination) (answer : AnswerView) : Type 0 where
  pub same_op : answer.op ≡ op
  pub same_request : answer.request ≡ request
  pub went : map slot_destination answer.slots ≡ destinations

-- the leg of this place: it has the request's name, and is told what the request says of that place
pub record IsLegOf (issued : IssuedView) (place : ℕ) (sheet : LegSheet) : Type 0 where
  pub named : sheet.id ≡ record { op = issued.op; place = place }
  pub told : IsCommandAt issued.request place sheet.command

-- it has a leg, no more than it may have, a delete going to two sides at most, and each is that of its place
pub record HasItsLegs (issued : IssuedView) : Type 0 where
  pub some : 1 ≤ length issued.legs
  pub few : length issued.legs ≤ legs_of issued.request 2
  pub each : (place : ℕ) (sheet : LegSheet) → slice_get issued.legs place ≡ Some sheet → IsLegOf issued place sheet
