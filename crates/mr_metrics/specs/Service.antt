-- What nodes and proxies alike tell of themselves.
use Rattle.std.specs.Prelude.{ℕ, List, ◌++◌, Option, codes}
use Rattle.mr_metrics.specs.Families.{one_number, perhaps_number, info}
use Rattle.mr_metrics.specs.declared.exposition.Kind.TheVariants.{Counter, Gauge}
use Rattle.mr_metrics.specs.declared.service.ServiceSnapshot.{ServiceSnapshot}

-- its version
abbrev pub version_family : List ℕ → List ℕ
version_family version = info (codes "migctl_build_info") (codes "The version of the program.") (codes "version") version

-- when it began
abbrev pub began_family : Option ℕ → List ℕ
began_family began = perhaps_number (codes "migctl_start_time_seconds") (codes "When the service began, in seconds since the epoch.") began

-- how many connections are open
abbrev pub connected_family : ℕ → List ℕ
connected_family connected = one_number (codes "migctl_open_connections") (codes "Connections of clients that are open.") Gauge connected

-- how many connections were accepted
abbrev pub accepted_family : ℕ → List ℕ
accepted_family accepted = one_number (codes "migctl_connections_total") (codes "Connections of clients that were accepted.") Counter accepted

-- what its clock says
abbrev pub clock_family : Option ℕ → List ℕ
clock_family clock = perhaps_number (codes "migctl_clock_seconds") (codes "What the clock of the service says, in seconds since the epoch.") clock

-- how often its clock went back
abbrev pub steps_back_family : ℕ → List ℕ
steps_back_family steps_back = one_number (codes "migctl_clock_steps_back_total") (codes "How often the clock gave a reading before the one that it gave last.") Counter steps_back

-- a service
abbrev pub service_text : ServiceSnapshot → List ℕ
service_text snapshot =
    version_family snapshot.version.now
    ++ (began_family snapshot.began
    ++ (connected_family snapshot.connected
    ++ (accepted_family snapshot.accepted
    ++ (clock_family snapshot.clock
    ++ steps_back_family snapshot.steps_back))))
