-- What is bounded of a client.
use Rattle.std.specs.Prelude.{ℕ, ◌≤◌, Option, Some, None, length, slice_get}
use Rattle.mr_loop.specs.declared.asker.Asker.{Asker}
use Rattle.mr_loop.specs.declared.asking.Pause.{Pause}
use Rattle.mr_loop.specs.declared.client.Client.{Client}
use Rattle.mr_loop.specs.Asking.{Asking, AsksOn}
use Rattle.mr_loop.specs.Events.{FrontView}

-- how many requests of a client are begun that it wasn't told of
abbrev pub begun_in : Option Client → ℕ
begun_in None = 0
begun_in (Some client) = length client.turns

-- the same of the client of a place
abbrev pub begun_at : ℕ → FrontView → ℕ
begun_at place f = begun_in (slice_get f.clients place)

-- whatever a client sends, no more of its requests are begun that it wasn't told of than the bound
abbrev pub ClientsBeginFew : Type 0
ClientsBeginFew = (asker : Asker) (pause : Pause) (old new : Asking) → AsksOn asker pause old new
    → begun_at asker.client old.front ≤ asker.limits.most_begun → begun_at asker.client new.front ≤ asker.limits.most_begun
