-- What is kept of what is noted and counted.
use Rattle.std.specs.Prelude.{◌≡◌, ℕ, ◌≤◌, slice_index, vec_len, vec_capacity}
use Rattle.mr_canary.specs.Notes.{sets_of}
use Rattle.mr_probes.specs.steps.Judging.{AreTold, Counts}
use Rattle.mr_probes.specs.NotebookView.{NotebookView}
use Rattle.mr_probes.specs.declared.notebook.Notebook.TheInside.{Inside}

-- what contracts see of it
abbrev pub notebook_of : Inside → NotebookView
notebook_of n = record { run = n.run; keys = n.keys.items; judge = n.judge; second = n.second; found = n.found.items; came_back = n.came_back; left = n.left }

-- The judge has room for so many values of a key, each key's sets are counted, there is room for the convictions that are kept, one was counted
-- exactly where a get is convicted, and the notes tell those that are kept.
pub record IsNotebook (n : Inside) : Type 0 where
  pub room : n.judge.room ≡ 64
  pub many : vec_len n.keys ≡ n.judge.keys
  pub all : vec_len n.sets ≡ n.judge.keys
  pub counted : (key : ℕ) → slice_index n.sets.items key ≡ sets_of n.judge.notes key
  pub kept : 64 ≤ vec_capacity n.found
  pub told : Counts n.came_back n.judge.notes
  pub tells : AreTold n.judge.notes n.found.items
