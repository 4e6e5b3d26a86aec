-- That words which plainly name a refusal are read as it.
use Rattle.std.proofs.Common.{◌≡◌, ◌∙◌, ap, ap₂, refl, sym, subst, arith, inl, inr, List, [], ◌∷◌, None, Some, false, true, ℕ, codes}
use Rattle.std.specs.Prelude.{is_some}
use Rattle.clap.proofs.OnLiterals.{clap_on_literals}
use Rattle.clap.specs.Faults.{walk_fault, turn_fault, settle_fault, defaults_fault, check_fault, level_fault}
use Rattle.clap.specs.Kinds.{Kinds, or_else}
use Rattle.clap.specs.Simple.{Shape, built_leaf, inherited, marked_built, with_leaf_noted}
use Rattle.clap.specs.ValueTests.{accepts}
use Rattle.clap.specs.Walk.{Held, Walk, walk, walked, walk_from, nothing_held, settled, finished, idle}
use Rattle.clap.specs.Words.{Row, Text, fault_of, subcommand_of}
use Rattle.mr_words.proofs.PlainPlan.{number_word, number_taken, value_taken}
use Rattle.mr_words.proofs.PlainWalk.{IsPlainWord, plain_word, word_step, no_word_left}
use Rattle.mr_words.proofs.TableLemmas.{table_complete}
use Rattle.mr_words.specs.Command.{numbers, program_app, explain_app}
use Rattle.mr_words.specs.Explain.{IsNamed, Told, explanation_of, told_by}
use Rattle.mr_words.specs.Words.{IsNoOption, Say, SaysExplain}
use Rattle.mr_words.specs.declared.explain.Explanation.{Explanation}
use Rattle.mr_words.specs.declared.words.Wanted.TheVariants.{Explain}

-- the command `explain` as it is built
abbrev leaf : Shape
leaf = built_leaf (inherited (with_leaf_noted (marked_built program_app.top)) explain_app.top)

-- what is held after the layer, and after the number
abbrev held_1 : Text → Held
held_1 layer = record { rows = []; pending = Some (codes "layer", layer ∷ []); skip = 0 }

abbrev held_2 : Text → Text → Held
held_2 layer number = record (settled leaf.rules (held_1 layer)) { pending = Some (codes "number", number ∷ []) }

-- a walk before the word at this place
abbrev before : ℕ → Held → Walk
before place h = record { held = h; waiting = idle; position = place; is_trailing = false; stopped = None }

module _ (layer number : Text) (layer_plain : IsPlainWord layer) (number_plain : IsPlainWord number)
    (number_is : accepts false numbers number ≡ true) where
  abbrev words : List Text
  words = layer ∷ number ∷ []

  layer_walked : walked leaf.rules [] (walk_from nothing_held) layer ≡ before 2 (held_1 layer)
  unfolding clap_on_literals
  layer_walked = rw (layer_plain.dashes, layer_plain.long, layer_plain.short) refl

  number_walked : walked leaf.rules [] (before 2 (held_1 layer)) number ≡ before 3 (held_2 layer number)
  unfolding clap_on_literals
  number_walked = rw (number_plain.dashes, number_plain.long, number_plain.short) refl

  layer_turn : turn_fault leaf [] (walk_from nothing_held) layer ≡ []
  unfolding clap_on_literals
  layer_turn = rw (layer_plain.dashes, layer_plain.long, layer_plain.short) refl

  number_turn : turn_fault leaf [] (before 2 (held_1 layer)) number ≡ []
  unfolding clap_on_literals
  number_turn = rw (number_plain.dashes, number_plain.long, number_plain.short) refl

  next : Text → Walk → Walk
  next word w = walked leaf.rules [] w word

  walk_is : walk leaf.rules [] nothing_held words ≡ before 3 (held_2 layer number)
  unfolding next
  walk_is = ap (next number) layer_walked ∙ number_walked

  left : List Text → Walk → Kinds
  left rest w = walk_fault leaf [] w rest

  walk_taken : walk_fault leaf [] (walk_from nothing_held) words ≡ []
  unfolding left
  walk_taken = word_step leaf (walk_from nothing_held) layer _ layer_turn
      ∙ ap (left (number ∷ [])) layer_walked
      ∙ word_step leaf (before 2 (held_1 layer)) number [] number_turn
      ∙ ap (left []) number_walked
      ∙ no_word_left leaf (before 3 (held_2 layer number))

  -- what is left to look at once the words are walked
  abbrev after_walk : Walk → Kinds
  after_walk w =
      or_else (settle_fault leaf.rules leaf.args_override_self w.held)
      (or_else (defaults_fault (settled leaf.rules w.held).rows leaf.rules) (check_fault leaf (finished leaf.rules w.held) false))

  end_taken : after_walk (before 3 (held_2 layer number)) ≡ []
  unfolding clap_on_literals
  end_taken = ap (λ (kinds : Kinds). or_else kinds []) (value_taken number number_is)

  level_taken : level_fault leaf [] nothing_held words false [] ≡ []
  level_taken = ap₂ or_else walk_taken (ap after_walk walk_is ∙ end_taken)

  words_taken : fault_of program_app (codes "explain" ∷ words) ≡ []
  unfolding clap_on_literals
  words_taken = ap (λ (below : Kinds). or_else below []) level_taken

  rows_found : subcommand_of program_app (codes "explain" ∷ words) ≡ Some (codes "explain", finished leaf.rules (held_2 layer number))
  unfolding clap_on_literals
  rows_found = ap (λ (w : Walk). Some (codes "explain", finished leaf.rules w.held)) walk_is

-- the name of a layer is no option
layer_word : (layer : Text) (number : ℕ) (name : List ℕ) → IsNamed layer number name → IsNoOption layer
layer_word layer number name (inl h) = subst IsNoOption (sym h.0) (λ e. absurd (omega arith))
layer_word layer number name (inr (inl h)) = subst IsNoOption (sym h.0) (λ e. absurd (omega arith))
layer_word layer number name (inr (inr (inl h))) = subst IsNoOption (sym h.0) (λ e. absurd (omega arith))
layer_word layer number name (inr (inr (inr (inl h)))) = subst IsNoOption (sym h.0) (λ e. absurd (omega arith))
layer_word layer number name (inr (inr (inr (inr (inl h))))) = subst IsNoOption (sym h.0) (λ e. absurd (omega arith))
layer_word layer number name (inr (inr (inr (inr (inr (inl h)))))) = subst IsNoOption (sym h.0) (λ e. absurd (omega arith))
layer_word layer number name (inr (inr (inr (inr (inr (inr (inl h))))))) = subst IsNoOption (sym h.0) (λ e. absurd (omega arith))
layer_word layer number name (inr (inr (inr (inr (inr (inr (inr (inl h)))))))) = subst IsNoOption (sym h.0) (λ e. absurd (omega arith))
layer_word layer number name (inr (inr (inr (inr (inr (inr (inr (inr h)))))))) = subst IsNoOption (sym h.0) (λ e. absurd (omega arith))

told_layer : (told : Told) → explanation_of told.layer told.number ≡ Some told → IsNoOption told.layer
told_layer told is =
    let named = (table_complete.known told.layer told.number).0 (ap is_some is) in
    layer_word told.layer told.number named.0 named.1

-- words that plainly name a refusal name it to `clap`
pub explanation_said : (said : List Text) (explanation : Explanation) → SaysExplain said (told_by explanation) → Say said (Explain explanation)
explanation_said said explanation says =
    let layer = explanation.layer.now in
    let layer_plain = plain_word layer (told_layer (told_by explanation) says.is_told) in
    let number_plain = plain_word says.number (number_word says.number says.number_is.digits) in
    let number_is = number_taken says.number explanation.number says.number_is in
    let rows : List Row = finished leaf.rules (held_2 layer says.number) in
    record {
      fits = subst (λ (w : List Text). fault_of program_app w ≡ []) (sym says.words_are) (words_taken layer says.number layer_plain number_plain number_is);
      finds = (
        rows,
        subst (λ (w : List Text). subcommand_of program_app w ≡ Some (codes "explain", rows)) (sym says.words_are)
            (rows_found layer says.number layer_plain number_plain number_is),
        record { number = says.number; layer_is = refl; number_row = refl; number_is = says.number_is; is_told = says.is_told },
      );
    }
