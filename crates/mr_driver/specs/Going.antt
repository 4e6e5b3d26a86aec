-- What becomes of a machine, step by step.
use Rattle.std.specs.Prelude.{◌≡◌, ℕ, List}
use Rattle.mr_loop.specs.LoopView.{LoopView, LinkBreaks, LinkBytes, LinkComesUp, LinkDialed, LinkWrote, after_tick}
use Rattle.mr_loop.specs.declared.link.LinkEnd.{LinkEnd}

-- it is what any number of these steps make of it, one after the other
pub data GoesOn {M : Type 0} (steps : M → M → Type 0) (old : M) : M → Type 0 where
  stays : GoesOn steps old old
  goes_on : {between new : M} → GoesOn steps old between → steps between new → GoesOn steps old new

-- what happens at a link of a proxy's loop, or with time
pub data LinkStep (old new : LoopView) : Type 0 where
  dialed : (number : ℕ) → LinkDialed number old new → LinkStep old new
  came_up : (number now : ℕ) → LinkComesUp number now old new → LinkStep old new
  took : (number now : ℕ) (bytes : List ℕ) (end : LinkEnd) → LinkBytes number now bytes old end new → LinkStep old new
  broke : (number now : ℕ) → LinkBreaks number now old new → LinkStep old new
  wrote : (number count : ℕ) → LinkWrote number count old new → LinkStep old new
  ticked : (now : ℕ) → new ≡ after_tick now old → LinkStep old new
