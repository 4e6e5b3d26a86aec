-- The lines of proxies.
use Rattle.std.specs.Prelude.{ℕ, ◌+◌, ◌-◌, ◌/◌, ◌^◌, min, nat_lt, Bool, List, [], ◌∷◌, ◌++◌, length, Option, Some, None, if◌then◌else◌, codes}
use Rattle.mr_phases.specs.PhaseText.{phase_text}
use Rattle.mr_phases.specs.declared.phase_name.PhaseName.{PhaseName}
use Rattle.mr_watch.specs.Rate.{rate_of}
use Rattle.mr_watch.specs.Shown.{left, padding, signed_cell, cell, perhaps_cell, coloured}
use Rattle.mr_watch.specs.declared.look.ProxySeen.{ProxySeen}
use Rattle.mr_watch.specs.declared.shown.Colour.TheVariants.{Cyan, Red}
use Rattle.mr_watch.specs.declared.told.ProxyTold.{ProxyTold}
use Rattle.mr_watch.specs.declared.told.Traffic.{Traffic}

-- what stands above
unfoldable pub proxies_head : List ℕ
proxies_head = codes "proxy                    phase           clock   req/s    hits    lost    held\n"

-- a phase in a column of thirteen
abbrev pub phase_cell : Bool → PhaseName → List ℕ
phase_cell colours phase = coloured colours Cyan (phase_text phase) ++ padding (13 - length (phase_text phase))

-- What the watcher's clock says at an answer, if it said `at` at a moment before: as many whole seconds later as have passed, and no
-- more than 64 bits count.
abbrev pub second_then : ℕ → ℕ → ℕ → ℕ
second_then at moment answered = min (at + (answered - moment) / 1000) (2 ^ 64 - 1)

-- by how many seconds a clock is ahead of the watcher's, or behind it
abbrev pub clock_cell : ℕ → Option ℕ → List ℕ
clock_cell at None = perhaps_cell None
clock_cell at (Some reading) = if nat_lt reading at then signed_cell (codes "-") (at - reading) else signed_cell (codes "+") (reading - at)

-- what a proxy did, in the last columns of its line
abbrev pub traffic_cells : Option ℕ → Traffic → List ℕ
traffic_cells rate traffic =
    perhaps_cell rate ++ (cell traffic.hits ++ (cell traffic.lost ++ (perhaps_cell traffic.held_back ++ codes "\n")))

-- what stands behind the address
abbrev pub proxy_cells : Bool → ℕ → Option ℕ → Option ProxyTold → List ℕ
proxy_cells colours at rate None = coloured colours Red (codes "unreached") ++ codes "\n"
proxy_cells colours at rate (Some told) =
    phase_cell colours told.place.phase ++ (clock_cell at told.clock ++ traffic_cells rate told.traffic)

-- where the watcher's clock said this second at that moment
abbrev pub proxy_line : Bool → ℕ → ℕ → List ProxySeen → ProxySeen → List ℕ
proxy_line colours at moment earlier proxy =
    left 24 proxy.address.now ++ (codes " " ++ proxy_cells colours (second_then at moment proxy.answered) (rate_of earlier proxy) proxy.told)

-- the lines of proxies, in order
abbrev pub proxy_lines : Bool → ℕ → ℕ → List ProxySeen → List ProxySeen → List ℕ
proxy_lines colours at moment earlier [] = []
proxy_lines colours at moment earlier (proxy ∷ proxies) =
    proxy_line colours at moment earlier proxy ++ proxy_lines colours at moment earlier proxies

-- all proxies
abbrev pub proxies_text : Bool → ℕ → ℕ → List ProxySeen → List ProxySeen → List ℕ
proxies_text colours at moment earlier proxies = proxies_head ++ proxy_lines colours at moment earlier proxies
