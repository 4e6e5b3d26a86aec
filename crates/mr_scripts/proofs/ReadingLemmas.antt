-- JSON values that are read one after another.
use Rattle.std.proofs.Common.{◌≡◌, ℕ, ◌+◌, ◌<◌, List, [], ◌∷◌, ◌++◌, length, get_or, map, drop, Ok, Err, Result, ap, ◌∙◌, subst}
use Rattle.std.specs.Result.{result_err}
use Rattle.std.specs.Prelude.{IsOk}
use Rattle.serde_json.specs.Data.{Data}
use Rattle.serde_json.specs.View.{view}
use Rattle.serde_json.specs.declared.value.Value.{Value}
use Rattle.mr_configs.specs.Checking.{◌>>=◌}
use Rattle.mr_scripts.specs.Lists.{all_of}
use Rattle.mr_configs.specs.declared.error.PlanError.{PlanError}
use Rattle.mr_scripts.proofs.ListLemmas.{one_more, rest_ok, turn}

-- what is yet to come after one more item
item_made : {Y : Type 0} (read : Data → Result Y PlanError) (made : List Y) (value : Data) (values : List Data) (item : Y) → read value ≡ Ok item →
    (all_of read (value ∷ values) >>= λ items. Ok (made ++ items)) ≡ (all_of read values >>= λ items. Ok ((made ++ item ∷ []) ++ items))
item_made read made value values item is = rw is (one_more made item (all_of read values))

others_ready : {Y : Type 0} (outcome : Result Y PlanError) (rest : Result (List Y) PlanError) →
    IsOk (outcome >>= λ item. rest >>= λ items. Ok (item ∷ items)) → IsOk rest
others_ready (Ok item) rest is = rest_ok (item ∷◌) rest is
others_ready (Err refusal) rest is = cc

-- the values before an index were looked at, and none of them changes the refusal
abbrev pub AreSeen : {Y : Type 0} → (Data → Result Y PlanError) → List Value → ℕ → Type 0
AreSeen read values index = result_err (all_of read (map view values)) ≡ result_err (all_of read (map view (drop index values)))

-- these items were made, and those that are yet to come can be
pub record AreMade {Y : Type 0} (read : Data → Result Y PlanError) (values : List Value) (index : ℕ) (made : List Y) : Type 0 where
  pub ready : IsOk (all_of read (map view (drop index values)))
  pub whole : all_of read (map view values) ≡ (all_of read (map view (drop index values)) >>= λ items. Ok (made ++ items))

at_turn : {Y : Type 0} (read : Data → Result Y PlanError) (values : List Value) (index : ℕ) (value : Value) → index < length values →
    value ≡ get_or values index value → IsOk (all_of read (map view (drop index values))) → IsOk (all_of read (view value ∷ map view (drop (index + 1) values)))
at_turn read values index value within is ready =
    let P : List Data → Type 0 = λ rest. IsOk (all_of read rest) in subst P (turn view values index value within is) ready

pub one_made : {Y : Type 0} (read : Data → Result Y PlanError) (values : List Value) (index : ℕ) (value : Value) (made : List Y) (item : Y) →
    index < length values → value ≡ get_or values index value → AreMade read values index made → read (view value) ≡ Ok item →
    AreMade read values (index + 1) (made ++ item ∷ [])
one_made read values index value made item within is so_far here = record {
  ready = others_ready (read (view value)) (all_of read (map view (drop (index + 1) values))) (at_turn read values index value within is so_far.ready);
  whole = so_far.whole ∙ ap (λ rest. all_of read rest >>= λ items. Ok (made ++ items)) (turn view values index value within is)
      ∙ item_made read made (view value) (map view (drop (index + 1) values)) item here;
}
