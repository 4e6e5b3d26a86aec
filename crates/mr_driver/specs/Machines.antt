-- What machines are to the loops that drive them.
use Rattle.std.specs.Prelude.{◌≡◌, ℕ, Bool, true, false, List, Option, Some, None}
use Rattle.mr_proxy.specs.Issue.{refusal_of}
use Rattle.mr_proxy.specs.declared.error.ProxyError.{ProxyError}
use Rattle.mr_loop.specs.declared.asking.Pause.{Pause}
use Rattle.mr_loop.specs.declared.node.serving.NodePause.{NodePause}
use Rattle.mr_loop.specs.LoopView.{LoopView, ClientBytes, ClientEnds, asker_of}
use Rattle.mr_loop.specs.NoReading.{ClientBytesDenied, ClientEndDenied}
use Rattle.mr_loop.specs.node.Cache.{Does, clock_fails}
use Rattle.mr_loop.specs.node.NodeView.{NodeBytes, NodeEnds, NodeView}

-- no request is refused for want of room
abbrev pub has_room_unless : Option ProxyError → Bool
has_room_unless None = true
has_room_unless (Some ProxyError.NoRoom) = false
has_room_unless (Some ProxyError.OutOfMemory) = true
has_room_unless (Some ProxyError.NumbersSpent) = true
has_room_unless (Some ProxyError.NoSuchOp) = true

-- a proxy has room for one more request
abbrev pub has_room_in : LoopView → Bool
has_room_in l = has_room_unless (refusal_of l.front.core)

-- what a client of a node needs
abbrev pub pause_of : NodePause → Pause
pause_of NodePause.NeedsBytes = Pause.NeedsBytes
pause_of NodePause.NeedsReader = Pause.NeedsReader
pause_of NodePause.NeedsMemory = Pause.NeedsMemory
pause_of NodePause.IsDone = Pause.IsDone

-- bytes of a proxy's client came: what is whole of them is asked at a reading, or, where there is none, told that
abbrev pub BytesAsked : ℕ → Option ℕ → ℕ → List ℕ → LoopView → Pause → LoopView → Type 0
BytesAsked place (Some reading) now bytes old pause new = ClientBytes (asker_of old place reading now) bytes old pause new
BytesAsked place None now bytes old pause new = ClientBytesDenied place bytes old pause new

-- a proxy's client sends no more: what is whole of what it sent is asked so
abbrev pub EndAsked : ℕ → Option ℕ → ℕ → LoopView → Pause → LoopView → Type 0
EndAsked place (Some reading) now old pause new = ClientEnds (asker_of old place reading now) old pause new
EndAsked place None now old pause new = ClientEndDenied place old pause new

-- bytes of a node's client are served at a reading, or, where there is none, come to that
abbrev pub BytesServedAt : {C : Type 0} → Does C → ℕ → Option ℕ → List ℕ → NodeView C → NodePause → NodeView C → Type 0
BytesServedAt does place (Some reading) bytes old why new = NodeBytes does place reading bytes old why new
BytesServedAt does place None bytes old why new = NodeBytes clock_fails place 0 bytes old why new

-- so is what is left once the client sends no more
abbrev pub EndServedAt : {C : Type 0} → Does C → ℕ → Option ℕ → NodeView C → NodePause → NodeView C → Type 0
EndServedAt does place (Some reading) old why new = NodeEnds does place reading old why new
EndServedAt does place None old why new = NodeEnds clock_fails place 0 old why new

-- bytes of a client came and were served, as far as may be, for it needs this then
abbrev pub BytesServed : {C : Type 0} → Does C → ℕ → Option ℕ → List ℕ → NodeView C → Pause → NodeView C → Type 0
BytesServed does place reading bytes old pause new =
    (why : NodePause) × (pause ≡ pause_of why) × BytesServedAt does place reading bytes old why new

-- a client sends no more, and what is whole was served, as far as may be, for it needs this then
abbrev pub EndServed : {C : Type 0} → Does C → ℕ → Option ℕ → NodeView C → Pause → NodeView C → Type 0
EndServed does place reading old pause new =
    (why : NodePause) × (pause ≡ pause_of why) × EndServedAt does place reading old why new
