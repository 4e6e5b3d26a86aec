-- How far the objects of a route stand inside one another.
use Rattle.std.proofs.Common.{◌≡◌, ℕ, zero, suc, ◌-◌, ◌<◌, arith, refl, Err}
use Rattle.serde_json.specs.Data.{Data}
use Rattle.mr_configs.specs.Route.{chain_by, chain_of}
use Rattle.mr_configs.specs.declared.error.PlanError.TheVariants.{BadRoute}

-- no object may come any more
pub no_object : (objects : ℕ) (pools route : Data) → objects ≡ 0 → chain_of objects pools route ≡ Err BadRoute
unfolding chain_of
no_object objects pools route e = rw e refl

-- one object more
pub one_object : (objects : ℕ) (pools route : Data) → 0 < objects → chain_of objects pools route ≡ chain_by (chain_of (objects - 1) pools) pools route
unfolding chain_of
one_object zero pools route some = absurd (omega arith)
one_object (suc fewer) pools route some =
    let same : suc fewer - 1 ≡ fewer = omega arith in rw same refl
