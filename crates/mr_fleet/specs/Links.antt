-- Links to nodes, and what waits for a reply.
use Rattle.std.specs.Prelude.{◌≡◌, ℕ, List, Option, Some, ⊤, slice_get}
use Rattle.mr_proxy.specs.Sheets.{pool_at}
use Rattle.mr_desks.specs.Carriers.{CarriersView}
use Rattle.mr_proxy.specs.declared.sheet.LegSheet.{LegSheet}

-- for each node of each pool, the old pool first, whether it has a link
abbrev pub LinkedNodes : Type 0
LinkedNodes = List (List (Option ⊤))

-- the node that the sheet names has a link
abbrev pub HasLink : LinkedNodes → LegSheet → Type 0
HasLink pools leg =
    (nodes : List (Option ⊤)) × (slice_get pools (pool_at leg) ≡ Some nodes) × (slice_get nodes leg.node ≡ Some (Some tt))

-- the links; how many legs were sent whose reply wasn't received yet; and what was sent, lost and brought
pub record LinkCarriersView : Type 0 where
  pub links : LinkedNodes
  pub awaited : ℕ
  pub told : CarriersView
