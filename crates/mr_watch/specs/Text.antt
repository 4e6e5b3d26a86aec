-- A look as text.
use Rattle.std.specs.Prelude.{ℕ, ◌+◌, Bool, List, ◌++◌, length, codes}
use Rattle.mr_watch.specs.Next.{schedule_text}
use Rattle.mr_watch.specs.Nodes.{nodes_text}
use Rattle.mr_watch.specs.PremiseLines.{premises_text}
use Rattle.mr_watch.specs.Proxies.{proxies_text}
use Rattle.mr_watch.specs.declared.view.View.{View}

-- the proxies, and the nodes of so many pools
unfoldable pub seen_text : Bool → View → ℕ → List ℕ
seen_text colours view pools =
    proxies_text colours view.at view.moment view.earlier.now view.look.proxies.now
    ++ (codes "\n" ++ nodes_text view.look.nodes.now pools)

-- what the schedule says, what was seen, and the premises, with empty lines between
abbrev pub look_text : Bool → View → List ℕ
look_text colours view =
    schedule_text colours view.schedule view.at ++ (codes "\n" ++ (seen_text colours view (length view.schedule + 1) ++ (codes "\n" ++ premises_text colours view)))
