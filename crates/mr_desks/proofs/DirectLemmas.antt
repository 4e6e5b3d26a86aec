-- Carriers that carry as a leg is sent.
use Rattle.std.proofs.Common.{◌≡◌, ◌∙◌, ℕ, ◌<◌, ◌≤◌, List, [], ◌∷◌, ◌++◌, length, map, get_or, set, slice_get, Some, None, Result, Ok, Err, ap, sym, subst, subst₂, arith}
use Rattle.std.specs.Option.{option_map}
use Rattle.std.specs.Result.{IfOk, IfErr, OnErr}
use Rattle.std.proofs.Math.Seq.{map-set_same}
use Rattle.std.proofs.lemmas.List.{length-map, map-append, map-set}
use Rattle.std.proofs.lemmas.Option.{slice_get-map, slice_get-get_or, slice_get_within}
use Rattle.mr_proxy.specs.declared.sheet.LegBack.{LegBack}
use Rattle.mr_proxy.specs.declared.sheet.LegSheet.{LegSheet}
use Rattle.mr_proxy.specs.Sheets.{pool_at}
use Rattle.mr_desks.specs.Direct.{DirectView, CarryRelation, NodeCarries, PlaceCarries, PoolCarries, LacksPlace, LacksCarrier, IsSentDirectly}

-- one more stands behind the others
pub one_behind : {X Y : Type 0} (f : X → Y) (before reserved after : List X) (x : X) → reserved ≡ before → after ≡ reserved ++ x ∷ []
    → map f after ≡ map f before ++ f x ∷ []
one_behind f before reserved after x same is = ap (map f) (is ∙ ap (λ l. l ++ x ∷ []) same) ∙ map-append f before (x ∷ [])

-- a leg was carried, and its reply stands behind the others
pub sent_so : {C : Type 0} (carries : CarryRelation C) (faults : C → ℕ) (old inside new : DirectView C) (leg : LegSheet) (back : LegBack)
    → old ≡ inside → back.sheet ≡ leg → PoolCarries carries faults inside.pools back new.pools → new.came ≡ inside.came ++ back ∷ []
    → inside.room ≤ new.room → IsSentDirectly carries faults old leg new
sent_so {C} carries faults old inside new leg back same of carried came room =
    subst (λ (v : DirectView C). IsSentDirectly carries faults v leg new) (sym same)
    (record { back = back; of_leg = of; carried = carried; came = came; room = room })

-- a pool as it is kept, and the carriers that stand in it
module _ {C V : Type 0} (items : V → List C) (pools : List V) (pool node : ℕ) where
  pool_there : (old : V) → pool < length pools → old ≡ get_or pools pool old → slice_get (map items pools) pool ≡ Some (items old)
  pool_there old below is =
      slice_get-map items pools pool ∙ ap (option_map items) (slice_get-get_or pools pool old below ∙ ap Some (sym is))

  -- one of its carriers was called
  pub place_carries : {X E : Type 0} (carries : CarryRelation C) (faults : C → ℕ) (back_of : X → LegBack) (leg : LegSheet) (old new : V) (r : Result X E)
      → pool < length pools → old ≡ get_or pools pool old
      → IfOk r (λ x. ((back_of x).sheet ≡ leg) × NodeCarries carries faults node (items old) (back_of x) (items new))
      → IfOk r (λ x. ((back_of x).sheet ≡ leg) × PlaceCarries carries faults pool node (map items pools) (back_of x) (map items (set pools pool new)))
  place_carries carries faults back_of leg old new (Ok x) below is h =
      (h.0, (items old, items new, pool_there old below is, h.1, map-set items pools pool new))
  place_carries carries faults back_of leg old new (Err e) below is h = tt

  -- none was
  pub place_kept : {X E : Type 0} (old new : V) (r : Result X E) → old ≡ get_or pools pool old → OnErr r (items new ≡ items old)
      → OnErr r (map items (set pools pool new) ≡ map items pools)
  place_kept old new (Ok x) is h = tt
  place_kept old new (Err e) is h = map-set_same items pools pool new old (h ∙ ap items is)

  -- it has no such carrier
  pub place_lacks : {X E : Type 0} (leg : E) (old : V) (r : Result X E) → pool < length pools → old ≡ get_or pools pool old
      → IfErr r (λ back. (back ≡ leg) × (slice_get (items old) node ≡ None))
      → IfErr r (λ back. (back ≡ leg) × LacksPlace (map items pools) pool node)
  place_lacks leg old (Ok x) below is h = tt
  place_lacks leg old (Err e) below is h =
      (h.0, λ nodes there. let both : Some (items old) ≡ Some nodes = sym (pool_there old below is) ∙ there in let same : items old ≡ nodes = cc in ap (λ l. slice_get l node) (sym same) ∙ h.1)

  -- there is no such pool
  pub pool_lacks : length pools ≤ pool → LacksPlace (map items pools) pool node
  pool_lacks past nodes there =
      let below = slice_get_within (map items pools) pool nodes there in let count = length-map pools items in absurd (omega arith)

-- the place is the one that the sheet names
pub named_carries : {C X E : Type 0} (carries : CarryRelation C) (faults : C → ℕ) (back_of : X → LegBack) (pool node : ℕ) (leg : LegSheet) (old new : List (List C)) (r : Result X E)
    → pool ≡ pool_at leg → node ≡ leg.node → IfOk r (λ x. ((back_of x).sheet ≡ leg) × PlaceCarries carries faults pool node old (back_of x) new)
    → IfOk r (λ x. ((back_of x).sheet ≡ leg) × PoolCarries carries faults old (back_of x) new)
named_carries carries faults back_of pool node leg old new (Ok x) p n h =
    (h.0, subst₂ (λ a b. PlaceCarries carries faults a b old (back_of x) new) (p ∙ ap pool_at (sym (h.0))) (n ∙ ap (λ (s : LegSheet). s.node) (sym (h.0))) (h.1))
named_carries carries faults back_of pool node leg old new (Err e) p n h = tt

pub named_lacks : {C X : Type 0} (pool node : ℕ) (leg : LegSheet) (old : List (List C)) (r : Result X LegSheet) → pool ≡ pool_at leg → node ≡ leg.node
    → IfErr r (λ back. (back ≡ leg) × LacksPlace old pool node) → IfErr r (λ back. (back ≡ leg) × LacksCarrier old leg)
named_lacks pool node leg old (Ok x) p n h = tt
named_lacks pool node leg old (Err e) p n h = (h.0, subst₂ (λ a b. LacksPlace old a b) p n (h.1))
