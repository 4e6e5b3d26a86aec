-- What the history of streams gains: a request when it is issued, an item when a node stores it, an answer when its text is put to
-- the bytes that its client is told.
use Rattle.std.specs.Prelude.{◌==◌, ℕ, ◌⊎◌, List, [], ◌∷◌, ◌++◌, if◌then◌else◌}
use mathlib.Core.Logic.{inl, inr}
use Rattle.std.specs.List.{flat_map}
use Rattle.mr_text.specs.declared.reply.Reply.TheVariants.{Stored}
use Rattle.mr_text.specs.declared.request.Request.TheVariants.{Set}
use Rattle.mr_history.specs.declared.entry.Author.{Author}
use Rattle.mr_history.specs.declared.entry.Entry.{Entry}
use Rattle.mr_history.specs.declared.entry.Entry.TheVariants as entry
use Rattle.mr_node.specs.Output.{Exchange}
use Rattle.mr_node.specs.Output.Exchange.{Asked}
use Rattle.mr_node.specs.Recency.{CacheView}
use Rattle.mr_proxy.specs.Issue.{next_op}
use Rattle.mr_proxy.specs.ProxyView.{ProxyView}
use Rattle.mr_loop.specs.Asking.{Asking, DoesAll}
use Rattle.mr_loop.specs.declared.asker.Asker.{Asker}
use Rattle.mr_loop.specs.declared.inbox.Input.{Input}
use Rattle.mr_loop.specs.declared.inbox.Input.TheVariants as input
use Rattle.mr_loop.specs.declared.turns.Turn.{Turn}
use Rattle.mr_loop.specs.declared.turns.Turn.TheVariants.{Answered}
use Rattle.mr_loop.specs.node.Serving.{Seat, ServesSome, IsOver}
use Rattle.mr_world.specs.Steps.{answered}
use Rattle.mr_streams.specs.StreamsView.{node_does}

-- a request is issued where it takes a number
abbrev pub issued_by : Input → ProxyView → ProxyView → List Entry
issued_by (input.Asks request) old new = if new.next == old.next then [] else entry.Issued (next_op old) old.number request ∷ []
issued_by (input.Refused refusal) old new = []

-- the requests that were issued of what a client sent, in order
abbrev pub issued_in : {asker : Asker} {old new : Asking} → DoesAll asker old new → List Entry
issued_in DoesAll.starts = []
issued_in (DoesAll.goes_on {between} {new} before one) = issued_in before ++ issued_by one.input between.front.core new.front.core

-- an answer is told unless its client wants none
abbrev pub told_by : Turn → List Entry
told_by (Answered answer) = answered answer
told_by turn = []

-- the answers among turns whose texts are put to a client's bytes, in order
abbrev pub told_in : List Turn → List Entry
told_in turns = flat_map told_by turns

-- a node told STORED of a set: its item is stored. By which request doesn't matter: in bytes nobody can tell.
abbrev pub stored_by : Author → Exchange → List Entry
stored_by by (Asked (Set key flags exptime block noreply) Stored) = entry.Stored by key flags block ∷ []
stored_by by exchange = []

-- the items that a node stored while it served a client, in order
abbrev pub stored_in : {old new : Seat CacheView} → {reading most : ℕ} → Author → ServesSome node_does reading most old new ⊎ IsOver old new → List Entry
stored_in by (inl some) = flat_map (stored_by by) some.exchanges
stored_in by (inr over) = []
