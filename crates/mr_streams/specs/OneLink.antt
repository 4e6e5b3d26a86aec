-- What bytes that come over one link do to the world: whatever they are, the replies on their way come back, each to its leg.
use Rattle.std.specs.Prelude.{◌≡◌, ℕ, ◌⊎◌, false, List, ◌++◌}
use Rattle.mr_history.specs.Places.{At}
use Rattle.mr_proxy.specs.ProxyView.{ProxyView}
use Rattle.mr_loop.specs.Events.{FrontView}
use Rattle.mr_loop.specs.Returning.{TakesBytes, Breaks}
use Rattle.mr_loop.specs.declared.link.Link.{Link}
use Rattle.mr_loop.specs.declared.link.LinkEnd.{LinkEnd}
use Rattle.mr_loop.specs.declared.sent_legs.SentLeg.{SentLeg}
use Rattle.mr_world.specs.WorldView.{WorldView}
use Rattle.mr_world.specs.declared.message.Message.{Message}
use Rattle.mr_world.specs.declared.message.Delivery.{Delivery}
use Rattle.mr_streams.specs.Flows.{AreReplies, AreOf}
use Rattle.mr_streams.specs.OneProxy.{FrontRuns}

-- where the replies of the first legs are on their way, and the others are not answered
pub record Awaits (messages : List Message) (deliveries : List Delivery) (w : WorldView) (number : ℕ) (core : ProxyView) (legs going : List SentLeg) (bytes : List ℕ) : Type 0 where
  pub returning : List SentLeg
  pub splits : legs ≡ returning ++ going
  pub replies : AreReplies messages deliveries returning bytes
  pub own : AreOf number legs
  pub sent : w.sent ≡ messages
  pub replied : w.replies ≡ deliveries
  pub there : At w.proxies number core

-- what bytes that came over a link leave: the legs that have no reply, or a link that is down
pub record BytesTaken (messages : List Message) (deliveries : List Delivery) (w : WorldView) (number : ℕ) (front front' : FrontView) (old new : Link) (going : List SentLeg) (later : List ℕ) : Type 0 where
  pub run : FrontRuns w number front front'
  pub left :
      ((new.is_up ≡ old.is_up) × (new.out ≡ old.out) × Awaits messages deliveries run.so.world number front'.core new.legs going (new.reader.kept ++ later))
      ⊎ ((new.is_up ≡ false) × AreOf number new.legs)

-- whatever bytes come, and however the link ends by them: events of the fleet lead to the same core, and the legs that are left await the
-- replies that are left
abbrev pub RepliesComeBack : Type 0
RepliesComeBack =
    (messages : List Message) (deliveries : List Delivery) (w : WorldView) (number now : ℕ) (piece later : List ℕ) (end : LinkEnd)
    (old new : Link) (front front' : FrontView) (going : List SentLeg)
    → Awaits messages deliveries w number front.core old.legs going ((old.reader.kept ++ piece) ++ later)
    → TakesBytes now piece old front end new front' → BytesTaken messages deliveries w number front front' old new going later

-- a link that breaks gives the requests of its legs up, by events of the fleet
abbrev pub LinksGiveUp : Type 0
LinksGiveUp =
    (now : ℕ) (link link' : Link) (front front' : FrontView) (w : WorldView) (number : ℕ)
    → At w.proxies number front.core → AreOf number link.legs → Breaks now link front link' front' → FrontRuns w number front front'
