-- The machine of a loop of links alone, lent to its caller.
use Rattle.std.specs.Prelude.{[]}
use Rattle.std.specs.Borrow.{Lends, Fml, MutBor, RattleType}
use Rattle.std.specs.declared.io.traits.Read as read
use Rattle.std.specs.declared.io.traits.Write as write
use Rattle.std.specs.declared.fd.AsRawFd as fd
use Rattle.std.specs.declared.time.Clock as clock
use mir.Syntax.{named}
use Rattle.mr_driver.specs.Solo.{SoloView}
use Rattle.mr_driver.specs.contracts.solo.Solo.{the_row}
use Rattle.mr_driver.specs.declared.linked.Linked as linked

-- The loop has the machine that its caller left, and is as it was beside. What it is a loop of comes first: the machine and its clock, the sockets
-- of the system, and what these are able to.
module _
    (R M S L : RattleType) (reads : read.Ghosts S.Denot) (writes : write.Ghosts S.Denot) (stream : fd.Ghosts S.Denot) (listener : fd.Ghosts L.Denot)
    (time : clock.Ghosts R.Denot) (machine : linked.Ghosts M.Denot) where
  abbrev pub LendsMachine : MutBor (SoloView M.Denot) → MutBor M.Denot → Fml
  LendsMachine solo lent =
      Lends (the_row (record { mir = named 0; lft = [] }) R M S L reads writes stream listener time machine) M solo lent
      (λ left. record { now = solo.now.now; machine = left })
