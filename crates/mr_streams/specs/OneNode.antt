-- What bytes that reach a node over one connection do to the world: its node performs the messages that they are, in their order.
use Rattle.std.specs.Prelude.{◌≡◌, ◌⊎◌, ℕ, Bool, false, List, [], ◌++◌, slice_set}
use Rattle.mr_history.specs.Places.{At}
use Rattle.mr_history.specs.declared.entry.Author.{Author}
use Rattle.mr_history.specs.declared.entry.Entry.{Entry}
use Rattle.mr_node.specs.Recency.{CacheView}
use Rattle.mr_loop.specs.declared.sent_legs.SentLeg.{SentLeg}
use Rattle.mr_loop.specs.node.Serving.{Seat, ServesSome, IsOver, to_tell}
use Rattle.mr_world.specs.Lists.{Has}
use Rattle.mr_world.specs.WorldView.{WorldView}
use Rattle.mr_world.specs.declared.message.Delivery.{Delivery}
use Rattle.mr_world.specs.declared.message.Message.{Message}
use Rattle.mr_world.specs.declared.node.Node.{Node}
use Rattle.mr_streams.specs.Entries.{stored_in}
use Rattle.mr_streams.specs.Fleet.{FleetEvent, FleetRun, ticks_of}
use Rattle.mr_streams.specs.Flows.{AreReplies, AreRequests}
use Rattle.mr_streams.specs.Kept.{AreTellable}
use Rattle.mr_streams.specs.Refines.{Tells}
use Rattle.mr_streams.specs.StreamsView.{node_does}

-- a node of this name that holds this
abbrev pub holding : List ℕ → CacheView → Node
holding name cache = record { name = name; cache = cache }

-- the node of this number holds this in the end, messages were delivered to it, and the history tells what happened beside
pub record ServesSo (w : WorldView) (number : ℕ) (name : List ℕ) (cache : CacheView) (heard heard' : List Entry) : Type 0 where
  pub world : WorldView
  pub events : List FleetEvent
  pub run : FleetRun w events world
  pub nodes : world.nodes ≡ slice_set w.nodes number (holding name cache)
  pub proxies : world.proxies ≡ w.proxies
  pub sent : world.sent ≡ w.sent
  pub readings : world.readings ≡ w.readings
  pub more : List Delivery
  pub replies : world.replies ≡ w.replies ++ more
  pub tells : Tells w.history heard → Tells world.history heard'
  pub grows : (entry : Entry) → Has w.history entry → Has world.history entry
  pub ticks : ticks_of events ≡ []

-- The legs of a connection whose replies are on the way back, and those whose requests are on the way to the node; the node reads no
-- further where it is deaf.
pub record IsBusy (messages : List Message) (deliveries : List Delivery) (node : ℕ) (is_deaf : Bool) (returning going : List SentLeg) (back forth : List ℕ) : Type 0 where
  pub replies : AreReplies messages deliveries returning back
  pub requests : (is_deaf ≡ false → AreRequests messages node going forth)

-- what serving a connection leaves
pub record HasServed (messages : List Message) (deliveries : List Delivery) (w : WorldView) (number : ℕ) (name : List ℕ) (new : Seat CacheView) (returning going : List SentLeg)
    (back later : List ℕ) (heard heard' : List Entry) : Type 0 where
  pub so : ServesSo w number name new.cache heard heard'
  pub answered : List SentLeg
  pub left : List SentLeg
  pub splits : going ≡ answered ++ left
  pub busy : IsBusy messages (deliveries ++ so.more) number new.client.inbox.is_done (returning ++ answered) left (back ++ to_tell new.client) (new.client.inbox.reader.kept ++ later)
  pub kept : AreTellable new.cache.items

-- whatever bytes come: each request that is whole is the message of its leg, delivered, and its reply is on the way back behind the others
abbrev pub RequestsAreDelivered : Type 0
RequestsAreDelivered =
    (by : Author) (messages : List Message) (deliveries : List Delivery) (w : WorldView) (number reading most : ℕ) (name back later : List ℕ) (old new : Seat CacheView)
    (returning going : List SentLeg) (heard : List Entry) (serves : ServesSome node_does reading most old new ⊎ IsOver old new)
    → w.sent ≡ messages → w.replies ≡ deliveries → At w.nodes number (holding name old.cache) → AreTellable old.cache.items
    → IsBusy messages deliveries number old.client.inbox.is_done returning going (back ++ to_tell old.client) (old.client.inbox.reader.kept ++ later)
    → HasServed messages deliveries w number name new returning going back later heard (heard ++ stored_in by serves)
