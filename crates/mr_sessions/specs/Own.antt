-- Whose answer an answer is.
use Rattle.std.specs.Prelude.{◌≡◌, ◌⊎◌, List, map, Some, None}
use Rattle.mr_text.specs.declared.request.Request.{Request}
use Rattle.mr_history.specs.declared.op_id.OpId.{OpId}
use Rattle.mr_proxy.specs.Answer.{AnswerView}
use Rattle.mr_proxy.specs.Sound.{sheet_of}
use Rattle.mr_proxy.specs.Whole.{IsWholeAnswer}
use Rattle.mr_proxy.specs.declared.sheet.LegBack.{LegBack}
use Rattle.mr_proxy.specs.declared.sheet.LegSheet.{LegSheet}
use Rattle.mr_proxy.specs.declared.taken.Taken.TheVariants.{Answered}
use Rattle.mr_desks.specs.Desk.{DeskTakes, DeskGivesUp}
use Rattle.mr_desks.specs.Recorded.{Gave}

-- a request that a desk issued: its name, its text, and its legs in order of place
pub record IssuedView : Type 0 where
  pub op : OpId
  pub request : Request
  pub legs : List LegSheet

-- an issued request of these three
abbrev pub issued_of : OpId → Request → List LegSheet → IssuedView
issued_of op request legs = record { op = op; request = request; legs = legs }

-- The request's own answer: it has its name and its text, and was made of the very legs that were issued, each with a reply
-- of its kind, and without one only where the request was given up.
pub record IsAnswerTo (issued : IssuedView) (answer : AnswerView) : Type 0 where
  pub op : answer.op ≡ issued.op
  pub request : answer.request ≡ issued.request
  pub legs : map sheet_of answer.slots ≡ issued.legs
  pub whole : IsWholeAnswer answer

-- a desk gave this answer: for a leg that came back, or when the request of this name was given up
abbrev pub IsGiven : Gave → OpId → AnswerView → Type 0
IsGiven gave op answer = ((back : LegBack) × DeskTakes gave back (Answered answer)) ⊎ DeskGivesUp gave op (Some answer)

-- the request has no answer: it wasn't under way when it was given up, or the desk gave an answer that isn't its own
abbrev pub HasNoAnswer : Gave → IssuedView → Type 0
HasNoAnswer gave issued =
    DeskGivesUp gave issued.op None ⊎ ((answer : AnswerView) × IsGiven gave issued.op answer × ¬ IsAnswerTo issued answer)
