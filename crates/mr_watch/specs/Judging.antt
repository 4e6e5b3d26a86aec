-- What is found of the premises after a look, and when a fleet has migrated.
use Rattle.std.specs.Prelude.{ℕ, ◌-◌, ◌==◌, ◌&&◌, ◌||◌, not, Bool, true, false, List, length, Option, Some, None}
use Rattle.std.specs.List.{list_any}
use Rattle.mr_phases.specs.Schedule.{Hop, least_interval}
use Rattle.mr_phases.specs.declared.phase_name.PhaseName.{PhaseName}
use Rattle.mr_phases.specs.declared.phase_name.PhaseName.TheVariants.{OldOnly, BothReadOld, BothReadNew, NewOnly}
use Rattle.mr_watch.specs.Premises.{has_told, same_after, empty_after, forward_after}
use Rattle.mr_watch.specs.Spread.{near_after, spread_in, all_ahead}
use Rattle.mr_watch.specs.declared.finding.Findings.{Findings}
use Rattle.mr_watch.specs.declared.look.Look.{Look}
use Rattle.mr_watch.specs.declared.look.ProxySeen.{ProxySeen}
use Rattle.mr_watch.specs.declared.told.ProxyTold.{ProxyTold}

-- what is found of each premise
abbrev pub findings_after : Findings → List ProxySeen → Look → List ℕ → List Hop → Findings
findings_after before earlier look expected hops = record {
  same = same_after before.same expected look.proxies.now;
  empty = empty_after before.empty hops look.proxies.now look.nodes.now;
  near = near_after before.near (least_interval hops) (spread_in (all_ahead look.proxies.now));
  forward = forward_after before.forward earlier look.proxies.now;
}

-- it is the last phase of a hop
abbrev pub is_new_only : PhaseName → Bool
is_new_only OldOnly = false
is_new_only BothReadOld = false
is_new_only BothReadNew = false
is_new_only NewOnly = true

-- it told that it is in the last phase of the last hop
abbrev pub tells_last : List Hop → Option ProxyTold → Bool
tells_last hops None = false
tells_last hops (Some told) = is_new_only told.place.phase && (told.place.hop == length hops - 1)

-- it told what a proxy tells, at this look or at an earlier one
abbrev pub has_ever_told : ProxySeen → Bool
has_ever_told proxy = proxy.known || has_told proxy

-- it told once, and doesn't tell now that it is in the last phase of the last hop
abbrev pub is_not_last : List Hop → ProxySeen → Bool
is_not_last hops proxy = has_ever_told proxy && not (tells_last hops proxy.told)

-- A proxy answered, and each that ever did tells now that it is in the last phase of the last hop. An address that never told what a
-- proxy tells is passed over.
abbrev pub are_last : List Hop → List ProxySeen → Bool
are_last hops proxies = list_any has_told proxies && not (list_any (is_not_last hops) proxies)
