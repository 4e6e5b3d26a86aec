-- When the book of a proxy stands with what its sessions did.
use Rattle.std.specs.Prelude.{◌≡◌, ℕ, ◌&&◌, ◌||◌, List, [], ◌∷◌, Bool, true, false, not, sum, All, Contains, Result, Ok, Err, ⊤}
use Rattle.mr_history.specs.declared.op_id.OpId.{OpId}
use Rattle.mr_proxy.specs.Answer.{AnswerView}
use Rattle.mr_history.specs.OpIds.{is_same_op}
use Rattle.mr_proxy.specs.ProxyView.{ProxyView, opening_of, AreAlike}
use Rattle.mr_proxy.specs.Replay.{answers_of}
use Rattle.mr_proxy.specs.declared.step.Step.{Step}
use Rattle.mr_desks.specs.declared.book.Book.{Book}
use Rattle.mr_desks.specs.declared.close_error.CloseError.{CloseError}
use Rattle.mr_desks.specs.declared.close_error.CloseError.TheVariants.{BookDiffers, OutOfMemory}

-- one of the answers is that to the request of this op
abbrev pub has_op : List AnswerView → OpId → Bool
has_op [] op = false
has_op (answer ∷ answers) op = is_same_op answer.op op || has_op answers op

-- one of the sessions has an answer to the request of this op
abbrev pub some_has_op : List (List AnswerView) → OpId → Bool
some_has_op [] op = false
some_has_op (session ∷ sessions) op = has_op session op || some_has_op sessions op

-- no answer of a session is to the same request as one behind it, or as one of the sessions that follow
abbrev pub are_apart : List AnswerView → List (List AnswerView) → Bool
are_apart [] sessions = true
are_apart (answer ∷ answers) sessions = not (has_op answers answer.op || some_has_op sessions answer.op) && are_apart answers sessions

-- no two answers are to the same request
abbrev pub have_different_ops : List (List AnswerView) → Bool
have_different_ops [] = true
have_different_ops (session ∷ sessions) = are_apart session sessions && have_different_ops sessions

-- each answer of each session is among these
abbrev pub AreAmong : List AnswerView → List (List AnswerView) → Type 0
AreAmong all [] = ⊤
AreAmong all (session ∷ sessions) = All (Contains all) session × AreAmong all sessions

-- the proxy is the one that it was at first, as many requests were accepted as the sessions issued, and the answers that
-- they hold are to different requests
pub record CountsIssues (opening core : ProxyView) (shares : List ℕ) (sessions : List (List AnswerView)) : Type 0 where
  pub alike : AreAlike opening core
  pub counted : sum shares ≡ core.next
  pub different : have_different_ops sessions ≡ true

-- the book stands with what the sessions did: it is counted, and each answer of theirs is one of the book
pub record StandsWith (opening core : ProxyView) (steps : List Step) (shares : List ℕ) (sessions : List (List AnswerView)) : Type 0 where
  pub counted : CountsIssues opening core shares sessions
  pub among : AreAmong (answers_of (opening_of core) steps) sessions

-- What comes of closing a book: it stands with what the sessions did, or it doesn't. Where memory is refused the proxy is the one
-- that it was, and nothing speaks against the book that shows without memory: the answers are to different requests.
abbrev pub ClosesSo : {C : Type 0} → ProxyView → List ℕ → List (List AnswerView) → Result Book (CloseError C) → Type 0
ClosesSo opening shares sessions (Ok book) = StandsWith opening book.core book.steps.items shares sessions
ClosesSo opening shares sessions (Err (BookDiffers book)) = ¬ StandsWith opening book.core book.steps.items shares sessions
ClosesSo opening shares sessions (Err (OutOfMemory proxy)) = (proxy ≡ opening) × (have_different_ops sessions ≡ true)

-- the number of each refusal to close: that of a worker's error of the same name
abbrev pub number_of_close_error : {C : Type 0} → CloseError C → ℕ
number_of_close_error (BookDiffers book) = 4
number_of_close_error (OutOfMemory proxy) = 8
