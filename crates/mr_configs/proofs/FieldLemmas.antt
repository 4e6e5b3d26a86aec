-- What is read from JSON values is what their views hold.
use Rattle.std.specs.Prelude.{◌≡◌, List, [], ◌∷◌}
use Rattle.std.proofs.Common.{refl, ap}
use Rattle.serde_json.specs.Data.{Data}
use Rattle.serde_json.specs.View.{items_of}
use Rattle.mr_configs.specs.Fields.{values_in}

pub values_in_items : (values : List Data) → values_in (items_of values) ≡ values
values_in_items [] = refl
values_in_items (value ∷ values) = ap (value ∷◌) (values_in_items values)
