-- A history as contracts see it.
use Rattle.std.specs.Prelude.{ℕ, List}
use Rattle.mr_history.specs.declared.entry.Entry.{Entry}

-- the entries, in the order in which they happened
pub record HistoryView : Type 0 where
  pub entries : List Entry
  -- the room for more that was made
  pub spare : ℕ
