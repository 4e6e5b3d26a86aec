-- What streams refine: the world, in which messages may come late, twice or never.
use Rattle.std.specs.Prelude.{◌≡◌, ℕ, All, List, [], ◌∷◌, ◌++◌}
use Rattle.mr_text.specs.declared.cause.Cause.{Cause}
use Rattle.mr_text.specs.declared.reply.Reply.{Reply}
use Rattle.mr_text.specs.declared.reply.Reply.TheVariants.{ServerError}
use Rattle.mr_text.specs.declared.request.Request.{Request}
use Rattle.mr_clock.specs.Readings.{Tick}
use Rattle.mr_history.specs.declared.entry.Author.{Author}
use Rattle.mr_history.specs.declared.entry.Entry.{Entry}
use Rattle.mr_history.specs.declared.entry.Entry.TheVariants.{Issued, Stored, Removed, Answered}
use Rattle.mr_history.specs.declared.op_id.OpId.{OpId}
use Rattle.mr_phases.specs.declared.side.Side.{Side}
use Rattle.mr_world.specs.Headline.{IsPlan}
use Rattle.mr_world.specs.Lists.{Has}
use Rattle.mr_world.specs.Setup.{SetupView, Begins}
use Rattle.mr_world.specs.WorldView.{WorldView}
use Rattle.mr_streams.specs.Fleet.{FleetEvent, FleetRun, ticks_of}
use Rattle.mr_streams.specs.Headline.{Starts, HasText}
use Rattle.mr_streams.specs.Steps.{StreamsRun}
use Rattle.mr_streams.specs.StreamsView.{StreamsView, cores_of, world_nodes}

-- The first list tells what the second does, in the same order: but it tells answers earlier, and some that the second never tells;
-- of an item that was stored, by whom; and which keys were removed. Of an answer that is an error it need not tell.
pub data Tells : List Entry → List Entry → Type 0 where
  begins : (history : List Entry) → Tells history history
  issues : {told heard : List Entry} (op : OpId) (proxy : ℕ) (request : Request)
      → Tells told heard → Tells (told ++ Issued op proxy request ∷ []) (heard ++ Issued op proxy request ∷ [])
  stores : {told heard : List Entry} (by other : Author) (key : List ℕ) (flags : ℕ) (block : List ℕ)
      → Tells told heard → Tells (told ++ Stored by key flags block ∷ []) (heard ++ Stored other key flags block ∷ [])
  removes : {told heard : List Entry} (op : OpId) (side : Side) (key : List ℕ)
      → Tells told heard → Tells (told ++ Removed op side key ∷ []) heard
  removed : {told heard : List Entry} (op : OpId) (side : Side) (key : List ℕ)
      → Tells told heard → Tells told (heard ++ Removed op side key ∷ [])
  knows : {told heard : List Entry} (op : OpId) (reply : Reply)
      → Tells told heard → Tells (told ++ Answered op reply ∷ []) heard
  answers : {told heard : List Entry} (op : OpId) (reply : Reply)
      → Tells told heard → Has told (Answered op reply) → Tells told (heard ++ Answered op reply ∷ [])
  errs : {told heard : List Entry} (op : OpId) (cause : Cause)
      → Tells told heard → Tells told (heard ++ Answered op (ServerError cause) ∷ [])

-- events of the world, with legs that fail, lead to a fleet of the same cores and the same nodes, at the same readings, whose history
-- tells all that happened in the streams
pub record ReachesWorld (start : WorldView) (ticks : List Tick) (last : StreamsView) : Type 0 where
  pub world : WorldView
  pub happened : List FleetEvent
  pub run : FleetRun start happened world
  pub same_ticks : ticks_of happened ≡ ticks
  pub readings : world.readings ≡ last.readings
  pub cores : world.proxies ≡ cores_of last.loops
  pub nodes : world.nodes ≡ world_nodes last.nodes
  pub history : Tells world.history last.history

-- whatever happens to streams from a fresh start on, events of the world come to the same
abbrev pub RefinesWorld : Type 0
RefinesWorld =
    (setup : SetupView) (first last : StreamsView) (start : WorldView) (ticks : List Tick)
    → All (λ proxy. IsPlan proxy.routing proxy.schedule) setup.proxies → All HasText setup.held
    → Starts setup first → Begins setup start → StreamsRun first ticks last → ReachesWorld start ticks last
