-- What a proxy's loop does at a flush is what streams do where requests are answered.
use Rattle.std.specs.Prelude.{◌≡◌, ℕ, slice_get, Some}
use Rattle.mr_loop.specs.LoopView.{LoopView, client_flushed}
use Rattle.mr_loop.specs.declared.client.Client.{Client}
use Rattle.mr_streams.specs.Putting.{PutsTexts}

-- a flush puts the texts of a client's first turns, up to the first that is under way, to the bytes that the client is told
abbrev pub FlushesPutTexts : Type 0
FlushesPutTexts =
    (loop : LoopView) (place : ℕ) (client : Client) → slice_get loop.front.clients place ≡ Some client
    → PutsTexts place loop (client_flushed place loop)
