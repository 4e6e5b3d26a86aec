-- Events that are looked at one after another.
use Rattle.std.proofs.Common.{◌≡◌, ℕ, ◌+◌, ◌<◌, List, [], ◌∷◌, ◌++◌, length, get_or, map, drop, true, false, Ok, Err, Result, refl, ap, ◌∙◌, subst}
use Rattle.serde_json.specs.View.{view}
use Rattle.serde_json.specs.declared.value.Value.{Value}
use Rattle.std.specs.Result.{result_err}
use Rattle.std.specs.Prelude.{IsOk, is_ok}
use Rattle.serde_json.specs.Data.{Data}
use Rattle.mr_world.specs.declared.event.Event.{Event}
use Rattle.mr_shown.specs.declared.format.Format.{Format}
use Rattle.mr_configs.specs.Checking.{◌>>=◌}
use Rattle.mr_scripts.specs.Events.{event_of, event_at, events_of}
use Rattle.mr_configs.specs.declared.error.PlanError.{PlanError}
use Rattle.mr_configs.specs.declared.error.PlanError.TheVariants.{BadEvent}
use Rattle.mr_scripts.proofs.ListLemmas.{refusal_kept, one_more, rest_ok, refused, turn}

-- an event that can be made changes no refusal
pub next_event : (format : Format) (index : ℕ) (value : Data) (values : List Data) → is_ok (event_of format value) ≡ true →
    result_err (events_of format index (value ∷ values)) ≡ result_err (events_of format (index + 1) values)
next_event format index value values is = go (event_of format value) is
  where
    go : (outcome : Result Event PlanError) → is_ok outcome ≡ true →
        result_err (event_at index outcome >>= λ event. events_of format (index + 1) values >>= λ events. Ok (event ∷ events)) ≡ result_err (events_of format (index + 1) values)
    go (Ok event) ready = refusal_kept event (events_of format (index + 1) values)
    go (Err refusal) ready = cc

-- the first that can't be made is told
pub bad_event : (format : Format) (index : ℕ) (value : Data) (values : List Data) → is_ok (event_of format value) ≡ false → events_of format index (value ∷ values) ≡ Err (BadEvent index)
bad_event format index value values is = go (event_of format value) is
  where
    go : (outcome : Result Event PlanError) → is_ok outcome ≡ false →
        (event_at index outcome >>= λ event. events_of format (index + 1) values >>= λ events. Ok (event ∷ events)) ≡ Err (BadEvent index)
    go (Ok event) bad = cc
    go (Err refusal) bad = refl

-- what is yet to come after one more event
pub event_made : (format : Format) (made : List Event) (index : ℕ) (value : Data) (values : List Data) (event : Event) → event_of format value ≡ Ok event →
    (events_of format index (value ∷ values) >>= λ items. Ok (made ++ items)) ≡ (events_of format (index + 1) values >>= λ items. Ok ((made ++ event ∷ []) ++ items))
event_made format made index value values event is = rw is (one_more made event (events_of format (index + 1) values))

pub others_ready : (format : Format) (index : ℕ) (value : Data) (values : List Data) → IsOk (events_of format index (value ∷ values)) → IsOk (events_of format (index + 1) values)
others_ready format index value values is = go (event_of format value) is
  where
    go : (outcome : Result Event PlanError) → IsOk (event_at index outcome >>= λ event. events_of format (index + 1) values >>= λ events. Ok (event ∷ events)) → IsOk (events_of format (index + 1) values)
    go (Ok event) ready = rest_ok (event ∷◌) (events_of format (index + 1) values) ready
    go (Err refusal) ready = cc

-- the values before an index were looked at, and none of them changes the refusal
abbrev pub IsSeen : Format → List Value → ℕ → Type 0
IsSeen format values index = result_err (events_of format 0 (map view values)) ≡ result_err (events_of format index (map view (drop index values)))

pub seen_bad : (format : Format) (values : List Value) (index : ℕ) (value : Value) → index < length values → value ≡ get_or values index value → IsSeen format values index →
    is_ok (event_of format (view value)) ≡ false → events_of format 0 (map view values) ≡ Err (BadEvent index)
seen_bad format values index value within is seen bad =
    refused (events_of format 0 (map view values)) (BadEvent index)
    (seen ∙ ap (λ rest. result_err (events_of format index rest)) (turn view values index value within is)
    ∙ ap result_err (bad_event format index (view value) (map view (drop (index + 1) values)) bad))

pub seen_more : (format : Format) (values : List Value) (index : ℕ) (value : Value) → index < length values → value ≡ get_or values index value → IsSeen format values index →
    is_ok (event_of format (view value)) ≡ true → IsSeen format values (index + 1)
seen_more format values index value within is seen good =
    seen ∙ ap (λ rest. result_err (events_of format index rest)) (turn view values index value within is)
    ∙ next_event format index (view value) (map view (drop (index + 1) values)) good

-- these events were made, and those that are yet to come can be
pub record AreMade (format : Format) (values : List Value) (index : ℕ) (made : List Event) : Type 0 where
  pub ready : IsOk (events_of format index (map view (drop index values)))
  pub whole : events_of format 0 (map view values) ≡ (events_of format index (map view (drop index values)) >>= λ items. Ok (made ++ items))

pub one_made : (format : Format) (values : List Value) (index : ℕ) (value : Value) (made : List Event) (event : Event) → index < length values →
    value ≡ get_or values index value → AreMade format values index made → event_of format (view value) ≡ Ok event → AreMade format values (index + 1) (made ++ event ∷ [])
one_made format values index value made event within is so_far here = record {
  ready = others_ready format index (view value) (map view (drop (index + 1) values))
      (let P : List Data → Type 0 = λ rest. IsOk (events_of format index rest) in subst P (turn view values index value within is) so_far.ready);
  whole = so_far.whole ∙ ap (λ rest. events_of format index rest >>= λ items. Ok (made ++ items)) (turn view values index value within is)
      ∙ event_made format made index (view value) (map view (drop (index + 1) values)) event here;
}
