-- The texts of a transcript's events, one after the other.
use Rattle.std.proofs.Common.{◌≡◌, ℕ, List, [], ◌∷◌, ◌++◌, false}
use Rattle.serde_json.specs.Data.{Data}
use Rattle.serde_json.specs.Written.{compact_text, has_float}
use Rattle.mr_transcripts.specs.Seen.{AreTexts}

-- one more text of one more value
pub one_more_text : (values : List Data) (texts : List (List ℕ)) (value : Data) (text : List ℕ) → AreTexts values texts
    → (has_float value ≡ false → text ≡ compact_text value) → AreTexts (values ++ value ∷ []) (texts ++ text ∷ [])
one_more_text [] [] value text are is = (is, are)
one_more_text [] (other ∷ texts) value text are is = absurd are
one_more_text (other ∷ values) [] value text are is = absurd are
one_more_text (other ∷ values) (first ∷ texts) value text are is = (are.0, one_more_text values texts value text are.1 is)
