-- What has changed since the look before, a line for each change.
use Rattle.std.specs.Prelude.{ℕ, ◌==◌, ◌&&◌, Bool, true, false, List, [], ◌∷◌, ◌++◌, Option, Some, None, if◌then◌else◌, codes, decimal}
use Rattle.std.specs.List.{list_any}
use Rattle.std.specs.Str.{bytes_eq}
use Rattle.mr_phases.specs.PhaseText.{phase_text}
use Rattle.mr_phases.specs.declared.phase_name.PhaseName.{PhaseName}
use Rattle.mr_phases.specs.declared.phase_name.PhaseName.TheVariants.{OldOnly, BothReadOld, BothReadNew, NewOnly}
use Rattle.mr_watch.specs.PremiseLines.{same_line, empty_line, near_line, forward_line}
use Rattle.mr_watch.specs.Shown.{cut}
use Rattle.mr_watch.specs.declared.finding.Finding.{Finding}
use Rattle.mr_watch.specs.declared.finding.Finding.TheVariants.{Unseen, Holds, Broken}
use Rattle.mr_watch.specs.declared.finding.Findings.{Findings}
use Rattle.mr_watch.specs.declared.look.ProxySeen.{ProxySeen}
use Rattle.mr_watch.specs.declared.told.ProxyTold.{ProxyTold}
use Rattle.mr_watch.specs.declared.view.View.{View}

-- where a proxy stands, in words
abbrev pub state_text : Option ProxyTold → List ℕ
state_text None = codes "unreached"
state_text (Some told) = phase_text told.place.phase ++ (codes " of hop " ++ decimal told.place.hop)

-- both are the same phase
abbrev pub is_same_phase : PhaseName → PhaseName → Bool
is_same_phase OldOnly OldOnly = true
is_same_phase BothReadOld BothReadOld = true
is_same_phase BothReadNew BothReadNew = true
is_same_phase NewOnly NewOnly = true
is_same_phase one other = false

-- both stand at the same place, or neither was reached
abbrev pub is_same_state : Option ProxyTold → Option ProxyTold → Bool
is_same_state None None = true
is_same_state None (Some other) = false
is_same_state (Some told) None = false
is_same_state (Some told) (Some other) = is_same_phase told.place.phase other.place.phase && (told.place.hop == other.place.hop)

-- the same address at the same place
abbrev pub is_unchanged : ProxySeen → ProxySeen → Bool
is_unchanged proxy earlier = bytes_eq earlier.address.now proxy.address.now && is_same_state proxy.told earlier.told

-- the second at the front of a line
abbrev pub second_text : ℕ → List ℕ
second_text at = decimal at ++ codes " "

-- the line of a proxy's new place
abbrev pub state_line : ℕ → ProxySeen → List ℕ
state_line at proxy = second_text at ++ (cut 24 proxy.address.now ++ (codes " " ++ (state_text proxy.told ++ codes "\n")))

-- a proxy that wasn't at this place at the look before
abbrev pub proxy_change : ℕ → List ProxySeen → ProxySeen → List ℕ
proxy_change at earlier proxy = if list_any (is_unchanged proxy) earlier then [] else state_line at proxy

-- the lines of all proxies that have changed
abbrev pub proxy_changes : ℕ → List ProxySeen → List ProxySeen → List ℕ
proxy_changes at earlier [] = []
proxy_changes at earlier (proxy ∷ proxies) = proxy_change at earlier proxy ++ proxy_changes at earlier proxies

-- both findings are the same
abbrev pub is_same_finding : Finding → Finding → Bool
is_same_finding Unseen Unseen = true
is_same_finding Holds Holds = true
is_same_finding Broken Broken = true
is_same_finding one other = false

-- a premise of which something else was found before: its line
abbrev pub premise_change : ℕ → Finding → Finding → List ℕ → List ℕ
premise_change at before now line = if is_same_finding before now then [] else second_text at ++ line

-- the line of one configuration, if its finding has changed
abbrev pub same_change : Findings → View → List ℕ
same_change before view = premise_change view.at before.same view.findings.same (same_line false view)

-- the line of an empty new pool, if its finding has changed
abbrev pub empty_change : Findings → View → List ℕ
empty_change before view = premise_change view.at before.empty view.findings.empty (empty_line false view)

-- the line of clocks that are near, if its finding has changed
abbrev pub near_change : Findings → View → List ℕ
near_change before view = premise_change view.at before.near view.findings.near (near_line false view)

-- the line of clocks that don't go back, if its finding has changed
abbrev pub forward_change : Findings → View → List ℕ
forward_change before view = premise_change view.at before.forward view.findings.forward (forward_line false view)

-- the lines of all premises that have changed
unfoldable pub premise_changes : Findings → View → List ℕ
premise_changes before view = same_change before view ++ (empty_change before view ++ (near_change before view ++ forward_change before view))

-- what has changed since these were found and the earlier proxies were seen
abbrev pub change_text : Findings → View → List ℕ
change_text before view = proxy_changes view.at view.earlier.now view.look.proxies.now ++ premise_changes before view
