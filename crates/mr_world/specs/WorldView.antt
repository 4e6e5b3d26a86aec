-- A fleet as contracts see it.
use Rattle.std.specs.Prelude.{List}
use Rattle.mr_clock.specs.Readings.{ReadingsView}
use Rattle.mr_history.specs.declared.entry.Entry.{Entry}
use Rattle.mr_proxy.specs.ProxyView.{ProxyView}
use Rattle.mr_world.specs.declared.message.Message.{Message}
use Rattle.mr_world.specs.declared.message.Delivery.{Delivery}
use Rattle.mr_world.specs.declared.node.Node.{Node}
use Rattle.mr_world.specs.declared.terms.Terms.{Terms}

-- a whole fleet, with all that ever happened in it
pub record WorldView : Type 0 where
  pub readings : ReadingsView
  -- by their numbers
  pub proxies : List ProxyView
  -- one for each name
  pub nodes : List Node
  -- each message that was ever sent, by its number
  pub sent : List Message
  -- each delivery that was ever made, by the number of its reply
  pub replies : List Delivery
  pub history : List Entry
  -- what the setup says of the premises
  pub terms : Terms
