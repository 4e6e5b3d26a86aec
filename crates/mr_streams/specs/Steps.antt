-- What each thing that happens does to streams: the machines' own steps, and where the bytes go.
use Rattle.std.specs.Prelude.{◌≡◌, ◌≢◌, ◌==◌, ◌&&◌, not, ℕ, ◌^◌, ◌-◌, ◌<◌, true, false, List, [], ◌∷◌, ◌++◌, length, map, slice_get, slice_set, Option, Some, None, if◌then◌else◌}
use Rattle.std.specs.List.{flat_map}
use Rattle.mr_clock.specs.Readings.{Tick, readings_after}
use Rattle.mr_history.specs.declared.entry.Author.{Author}
use Rattle.mr_history.specs.declared.entry.Entry.{Entry}
use Rattle.mr_history.specs.Places.{At}
use Rattle.mr_pools.specs.Routing.{RoutingView}
use Rattle.mr_node.specs.Recency.{CacheView}
use Rattle.mr_proxy.specs.Transitions.{after_restart}
use Rattle.mr_loop.specs.LoopView.{LoopView, LinkBytes, LinkBreaks, LinkWrote, LinkDialed, LinkComesUp, ClientBytes, ClientEnds, ClientRead, IsAsked, fresh_loop, asker_of, after_coming, after_leaving, with_place, after_tick, link_output_in, output_in}
use Rattle.mr_loop.specs.Links.{is_up_at}
use Rattle.mr_loop.specs.declared.asking.Pause.{Pause}
use Rattle.mr_loop.specs.declared.link.LinkEnd.{LinkEnd}
use Rattle.mr_loop.specs.declared.node.serving.NodePause.{NodePause}
use Rattle.mr_loop.specs.node.NodeView.{NodeView, NodeBytes, NodeEnds, NodeWrote, fresh_node, with_node_place, after_node_coming, after_node_leaving, out_in}
use Rattle.mr_streams.specs.Entries.{issued_in, told_in, stored_in}
use Rattle.mr_streams.specs.Putting.{PutsTexts}
use Rattle.mr_streams.specs.StreamsView.{StreamsView, NodeEnd, Connection, Visit, node_does, fresh_visit}

-- What a proxy does by itself and for its clients, while its clock shows this reading: its loop then, what happened to the client of
-- each place since it came, and what the history gains.
pub data ProxyDoes (reading : ℕ) (loop : LoopView) (visits : List Visit) : LoopView → List Visit → List Entry → Type 0 where
  -- a dial of a node begins
  dials : {loop' : LoopView} (link : ℕ) → LinkDialed link loop loop' → ProxyDoes reading loop visits loop' visits []
  -- a link breaks, by whosever wish
  breaks : {loop' : LoopView} (link now : ℕ) → LinkBreaks link now loop loop' → ProxyDoes reading loop visits loop' visits []
  -- time passes
  waits : (now : ℕ) → ProxyDoes reading loop visits (after_tick now loop) visits []
  -- it is asked for a client that was touched
  looks : {loop' : LoopView} (place : Option ℕ) → IsAsked loop place loop' → ProxyDoes reading loop visits loop' visits []
  -- it forgets its clients, its links and its requests, and begins its next incarnation
  restarts : loop.front.core.incarnation ≢ 2 ^ 64 - 1 → ProxyDoes reading loop visits (fresh_loop (after_restart loop.front.core) loop.limits) [] []
  -- it has one more place for a client
  adds_place : ProxyDoes reading loop visits (with_place loop) (visits ++ fresh_visit ∷ []) []
  -- a client comes to a place, or leaves it: nothing is left of who had it before
  comes : (client : ℕ) → ProxyDoes reading loop visits (after_coming client loop) (slice_set visits client fresh_visit) []
  goes : (client : ℕ) → ProxyDoes reading loop visits (after_leaving client loop) (slice_set visits client fresh_visit) []
  -- bytes of a client come, and what is whole of them is issued, as far as it may be
  hears : {loop' : LoopView} {pause : Pause} {visit : Visit} (client now : ℕ) (piece : List ℕ) → At visits client visit
      → (step : ClientBytes (asker_of loop client reading now) piece loop pause loop')
      → ProxyDoes reading loop visits loop' (slice_set visits client (record visit { sent = visit.sent ++ piece })) (issued_in step.asks.did)
  -- a client sends no more, and what is whole of what it sent is issued, as far as it may be
  hears_end : {loop' : LoopView} {pause : Pause} (client now : ℕ) (step : ClientEnds (asker_of loop client reading now) loop pause loop')
      → ProxyDoes reading loop visits loop' visits (issued_in step.asks.did)
  -- the answers to a client's first requests are put to the bytes that it is told: here they are answered
  answers : {loop' : LoopView} {visit : Visit} (client : ℕ) → At visits client visit → (step : PutsTexts client loop loop')
      → ProxyDoes reading loop visits loop' (slice_set visits client (record visit { put = visit.put ++ step.tells.told })) (told_in step.tells.told)
  -- a client is told the first bytes that it is to be told
  tells : {loop' : LoopView} {visit : Visit} (client : ℕ) (piece rest : List ℕ) → At visits client visit
      → output_in (slice_get loop.front.clients client) ≡ piece ++ rest → ClientRead client (length piece) loop loop'
      → ProxyDoes reading loop visits loop' (slice_set visits client (record visit { heard = visit.heard ++ piece })) []

-- what crosses the proxy's end of a connection: the first bytes that its loop has for the node leave it, or the first on their way
-- back reach it
pub data CrossesLink (c : Connection) (loop : LoopView) : Connection → LoopView → Type 0 where
  leaves : {loop' : LoopView} (piece rest : List ℕ) → link_output_in (slice_get loop.links c.link) ≡ piece ++ rest
      → LinkWrote c.link (length piece) loop loop' → CrossesLink c loop (record c { forth = c.forth ++ piece }) loop'
  reaches : {loop' : LoopView} {end : LinkEnd} (now : ℕ) (piece rest : List ℕ) → c.back ≡ piece ++ rest
      → LinkBytes c.link now piece loop end loop' → CrossesLink c loop (record c { back = rest }) loop'

-- what happens at the node's end of a connection, at its place among the node's clients, and what the history gains
pub data NodeDoes (c : Connection) (place : ℕ) (loop : NodeView CacheView) : Connection → NodeView CacheView → List Entry → Type 0 where
  -- the first bytes on their way reach it: it serves what is whole, whether or not the proxy has left
  reaches : {loop' : NodeView CacheView} {pause : NodePause} (by : Author) (now : ℕ) (piece rest : List ℕ) → c.forth ≡ piece ++ rest
      → (step : NodeBytes node_does place now piece loop pause loop') → NodeDoes c place loop (record c { forth = rest }) loop' (stored_in by step.serves.serves)
  -- it reads that a connection which the proxy has left ends: it serves what is whole of what came
  ends : {loop' : NodeView CacheView} {pause : NodePause} (by : Author) (now : ℕ) → c.is_left ≡ true → c.forth ≡ []
      → (step : NodeEnds node_does place now loop pause loop') → NodeDoes c place loop c loop' (stored_in by step.serves.serves)
  -- the first bytes that it has for the proxy leave it
  leaves : {loop' : NodeView CacheView} (piece rest : List ℕ) → out_in (slice_get loop.clients place) ≡ piece ++ rest
      → NodeWrote place (length piece) loop loop' → NodeDoes c place loop (record c { back = c.back ++ piece }) loop' []
  -- it is gone, by the node's wish or by nobody's: what was on its way to it is lost, what is on its way back may still come
  goes : NodeDoes c place loop (record c { place = None; forth = [] }) (after_node_leaving place loop) []

-- the proxy's end of a connection is gone where its link is down
abbrev pub left_if_down : ℕ → LoopView → Connection → Connection
left_if_down proxy loop c = if (c.proxy == proxy) && not (is_up_at loop.links c.link) then record c { is_left = true } else c

-- a proxy is as its loop is now, and the connections of its links that are down are left
abbrev pub with_loop : ℕ → LoopView → StreamsView → StreamsView
with_loop proxy loop s = record s { loops = slice_set s.loops proxy loop; connections = map (left_if_down proxy loop) s.connections }

-- a connection changes
abbrev pub with_connection : ℕ → Connection → StreamsView → StreamsView
with_connection number c s = record s { connections = slice_set s.connections number c }

-- a node is as its loop is now
abbrev pub with_node : ℕ → NodeEnd → NodeView CacheView → StreamsView → StreamsView
with_node number node loop s = record s { nodes = slice_set s.nodes number (record node { loop = loop }) }

-- the history gains entries
abbrev pub with_entries : List Entry → StreamsView → StreamsView
with_entries gains s = record s { history = s.history ++ gains }

-- the names of the nodes that the links go to: the nodes are counted pool by pool
abbrev pub names_of : RoutingView → List (List ℕ)
names_of routing = flat_map (λ pool. pool) routing.pools

-- the proxy's end of the connection over a link is gone
abbrev pub left_over : ℕ → ℕ → Connection → Connection
left_over proxy link c = if (c.proxy == proxy) && (c.link == link) then record c { is_left = true } else c

-- a connection on which nothing is on its way
abbrev pub fresh_connection : ℕ → ℕ → ℕ → ℕ → Connection
fresh_connection proxy link node place =
    record { proxy = proxy; link = link; node = node; place = Some place; is_left = false; forth = []; back = [] }

-- the node's end of a connection is gone where it was to this node
abbrev pub gone_from : ℕ → Connection → Connection
gone_from node c = if c.node == node then record c { place = None; forth = [] } else c

-- one thing that happens, and the ticks of clocks by it; a call that is refused memory and leaves all as it was is none
pub data StreamsStep (old : StreamsView) : List Tick → StreamsView → Type 0 where
  -- a clock shows another reading
  shows : (tick : Tick) → tick.proxy < length old.loops → StreamsStep old (tick ∷ []) (record old { readings = readings_after old.readings tick })
  -- a proxy does something by itself or for its clients
  at_proxy : {reading : ℕ} {loop loop' : LoopView} {visits visits' : List Visit} {gains : List Entry} (number : ℕ)
      → At old.readings.standing number reading → At old.loops number loop → At old.visits number visits → ProxyDoes reading loop visits loop' visits' gains
      → StreamsStep old [] (with_entries gains (record (with_loop number loop' old) { visits = slice_set old.visits number visits' }))
  -- a link comes up, over a connection to the node that the routing names, at a place of it that no connection has
  connects : {loop loop' : LoopView} {end : NodeEnd} (number link node place now : ℕ) → At old.loops number loop → LinkComesUp link now loop loop'
      → At old.nodes node end → At (names_of loop.front.core.routing) link end.name → place < length end.loop.clients
      → ((other : ℕ) (c : Connection) → At old.connections other c → c.node ≡ node → c.place ≢ Some place)
      → StreamsStep old [] (record (with_node node end (after_node_coming place end.loop) old) {
        loops = slice_set old.loops number loop';
        connections = map (left_over number link) old.connections ++ fresh_connection number link node place ∷ [];
      })
  -- bytes cross the proxy's end of a connection, unless it was left; where the loop can't go on with them its link is down
  at_link : {c c' : Connection} {loop loop' : LoopView} (number : ℕ) → At old.connections number c → c.is_left ≡ false → At old.loops c.proxy loop
      → CrossesLink c loop c' loop' → StreamsStep old [] (with_loop c.proxy loop' (with_connection number c' old))
  -- something happens at the node's end of a connection, unless it is gone
  at_node : {c c' : Connection} {end : NodeEnd} {loop' : NodeView CacheView} {gains : List Entry} (number place : ℕ)
      → At old.connections number c → c.place ≡ Some place → At old.nodes c.node end → NodeDoes c place end.loop c' loop' gains
      → StreamsStep old [] (with_entries gains (with_node c.node end loop' (with_connection number c' old)))
  -- a node has one more place for a connection
  adds_place : {end : NodeEnd} (number : ℕ) → At old.nodes number end → StreamsStep old [] (with_node number end (with_node_place end.loop) old)
  -- a node loses all that it holds, and all its connections
  restarts : {end : NodeEnd} (number : ℕ) → At old.nodes number end
      → StreamsStep old [] (record (with_node number end (fresh_node (record end.loop.cache { items = [] }) end.loop.most_unread) old) {
        connections = map (gone_from number) old.connections;
      })

-- things that happen, one after the other, and the ticks of clocks among them
pub data StreamsRun (first : StreamsView) : List Tick → StreamsView → Type 0 where
  begins : StreamsRun first [] first
  goes_on : {ticks more : List Tick} {between last : StreamsView} → StreamsRun first ticks between → StreamsStep between more last
      → StreamsRun first (ticks ++ more) last
