-- Carriers that carry as a leg is sent.
use Rattle.std.specs.Prelude.{◌≡◌, ◌⊎◌, ℕ, ◌+◌, ◌≤◌, length, List, [], ◌∷◌, ◌++◌, Option, Some, None, slice_get, slice_set}
use Rattle.mr_text.specs.declared.cause.Cause.TheVariants.{LegLost}
use Rattle.mr_join.specs.declared.leg_reply.LegReply.{LegReply}
use Rattle.mr_join.specs.declared.leg_reply.LegReply.TheVariants.{Failed}
use Rattle.mr_proxy.specs.Sheets.{pool_at}
use Rattle.mr_proxy.specs.declared.sheet.LegBack.{LegBack}
use Rattle.mr_proxy.specs.declared.sheet.LegSheet.{LegSheet}
use Rattle.mr_desks.specs.Carriers.{CarriersView}

-- the carriers, a list for each pool; the legs that were carried and not received yet, in order; how many of them there is
-- room for without memory; and what is told of what went through
pub record DirectView (C : Type 0) : Type 0 where
  pub pools : List (List C)
  pub came : List LegBack
  pub room : ℕ
  pub told : CarriersView

-- what one call of a carrier does: the carrier before it, the sheet, the reply or none at a fault, and the carrier after it
abbrev pub CarryRelation : Type 0 → Type 1
CarryRelation C = C → LegSheet → Option LegReply → C → Type 0

-- a carrier was called once for a leg, and this came back; a fault is told as a lost leg
abbrev pub CarriesOnce : {C : Type 0} → CarryRelation C → (C → ℕ) → C → LegBack → C → Type 0
CarriesOnce carries faults old back new =
    carries old back.sheet (Some back.reply) new × (faults new ≡ faults old)
    ⊎ carries old back.sheet None new × (faults new ≡ faults old + 1) × (back.reply ≡ Failed LegLost)

-- the carrier of the node with this number was called once for the leg; the others are as they were
abbrev pub NodeCarries : {C : Type 0} → CarryRelation C → (C → ℕ) → ℕ → List C → LegBack → List C → Type 0
NodeCarries {C} carries faults node old back new =
    (carrier : C) × (carrier' : C) × (slice_get old node ≡ Some carrier) × CarriesOnce carries faults carrier back carrier' × (new ≡ slice_set old node carrier')

-- the carrier of this pool and this node was called once for the leg; the others are as they were
abbrev pub PlaceCarries : {C : Type 0} → CarryRelation C → (C → ℕ) → ℕ → ℕ → List (List C) → LegBack → List (List C) → Type 0
PlaceCarries {C} carries faults pool node old back new =
    (nodes : List C) × (nodes' : List C) × (slice_get old pool ≡ Some nodes) × NodeCarries carries faults node nodes back nodes'
    × (new ≡ slice_set old pool nodes')

-- that of the pool and the node that the sheet names
abbrev pub PoolCarries : {C : Type 0} → CarryRelation C → (C → ℕ) → List (List C) → LegBack → List (List C) → Type 0
PoolCarries carries faults old back new = PlaceCarries carries faults (pool_at back.sheet) back.sheet.node old back new

-- the leg was carried by the carrier that its sheet names, and came back, behind the others
pub record IsSentDirectly {C : Type 0} (carries : CarryRelation C) (faults : C → ℕ) (old : DirectView C) (leg : LegSheet) (new : DirectView C) : Type 0 where
  pub back : LegBack
  pub of_leg : back.sheet ≡ leg
  pub carried : PoolCarries carries faults old.pools back new.pools
  pub came : new.came ≡ old.came ++ back ∷ []
  pub room : old.room ≤ new.room

-- there is no carrier of this pool and this node
abbrev pub LacksPlace : {C : Type 0} → List (List C) → ℕ → ℕ → Type 0
LacksPlace {C} pools pool node = (nodes : List C) → slice_get pools pool ≡ Some nodes → slice_get nodes node ≡ None

-- there is none for the node that the sheet names
abbrev pub LacksCarrier : {C : Type 0} → List (List C) → LegSheet → Type 0
LacksCarrier pools leg = LacksPlace pools (pool_at leg) leg.node

-- the leg has no carrier, or what comes back has no room without memory; no carrier was called
pub record IsHandedBack {C : Type 0} (old : DirectView C) (leg : LegSheet) (new : DirectView C) : Type 0 where
  pub why : LacksCarrier old.pools leg ⊎ (old.room ≤ length old.came)
  pub pools : new.pools ≡ old.pools
  pub came : new.came ≡ old.came
  pub room : old.room ≤ new.room
