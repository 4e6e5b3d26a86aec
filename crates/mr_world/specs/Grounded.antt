-- What a fleet keeps while its premises hold.
use Rattle.std.specs.Prelude.{◌≡◌, ℕ, ◌<◌, ◌≤◌, List, length, Some}
use Rattle.mr_history.specs.History.{IsSafe}
use Rattle.mr_history.specs.Places.{At}
use Rattle.mr_phases.specs.Schedule.{Hop, least_interval}
use Rattle.mr_pools.specs.Routing.{RoutingView}
use Rattle.mr_node.specs.Command.{key_of_command}
use Rattle.mr_proxy.specs.ProxyView.{ProxyView}
use Rattle.mr_proxy.specs.Sheets.{pool_at}
use Rattle.mr_world.specs.declared.message.Message.{Message}
use Rattle.mr_world.specs.Ground.{SetsAreReached, DeletesReachDown, SetsComeLater, GetsComeLater, ItemsAreHeld, HitsAreFresh, home_of}
use Rattle.mr_world.specs.Headline.{AllHold, IsPlan}
use Rattle.mr_world.specs.Lists.{Has}
use Rattle.mr_world.specs.Premises.{premises_of}
use Rattle.mr_world.specs.WorldView.{WorldView}

-- for proxies of this routing and this schedule
pub record IsGrounded (routing : RoutingView) (hops : List Hop) (w : WorldView) : Type 0 where
  pub plan : IsPlan routing hops
  pub least : w.terms.least ≤ least_interval hops
  pub pools : (message : Message) → Has w.sent message → pool_at message.sheet < length routing.pools
  pub goes : (message : Message) → Has w.sent message → message.node ≡ home_of w.nodes routing (pool_at message.sheet) (key_of_command message.sheet.command)
  pub reached : SetsAreReached hops w.readings.standing w.sent
  pub reach_down : DeletesReachDown hops w.readings.standing w.sent w.history
  pub sets_later : SetsComeLater w.sent w.history
  pub gets_later : GetsComeLater w.sent w.history
  pub held : ItemsAreHeld routing w
  pub fresh : HitsAreFresh w.sent w.replies w.history

-- all proxies have one plan, no last reading is ahead of its clock, and the history is safe
pub record IsSecured (w : WorldView) : Type 0 where
  pub alike : (m n : ℕ) (p q : ProxyView) → At w.proxies m p → At w.proxies n q → (p.routing ≡ q.routing) × (p.schedule ≡ q.schedule)
  pub past : (number : ℕ) (p : ProxyView) (reading last : ℕ) → At w.proxies number p → At w.readings.standing number reading → p.last ≡ Some last → last ≤ reading
  pub safe : IsSafe w.history
  pub grounded : (number : ℕ) (p : ProxyView) → At w.proxies number p → IsGrounded p.routing p.schedule w

-- as long as the premises hold
abbrev pub StaysSecured : WorldView → Type 0
StaysSecured w = AllHold (premises_of w) → IsSecured w
