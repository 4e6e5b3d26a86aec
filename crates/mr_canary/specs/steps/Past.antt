-- What the notes stand for that only contracts see.
use Rattle.std.specs.Prelude.{List, [], ◌∷◌, ◌++◌}
use Rattle.mr_canary.specs.declared.note.Note.{Note}
use Rattle.mr_canary.specs.declared.past.Noted.{Noted, Nothing, More'}

-- the notes, in their order
abbrev pub notes_of : Noted → List Note
notes_of Nothing = []
notes_of (More' marker before note) = notes_of before ++ note.value ∷ []
