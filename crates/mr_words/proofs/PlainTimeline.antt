-- That words which plainly say a timeline are read as it.
use Rattle.std.proofs.Common.{◌≡◌, ◌∙◌, ap, ap₂, refl, sym, subst, List, [], ◌∷◌, Option, None, Some, false, codes}
use Rattle.clap.proofs.OnLiterals.{clap_on_literals}
use Rattle.clap.specs.Faults.{walk_fault, settle_fault, defaults_fault, check_fault, level_fault}
use Rattle.clap.specs.Kinds.{Kinds, or_else}
use Rattle.clap.specs.Simple.{Shape, built_leaf, inherited, marked_built, with_leaf_noted}
use Rattle.clap.specs.Walk.{Held, Walk, walk, walked, walk_from, nothing_held, settled, finished}
use Rattle.clap.specs.Words.{Row, Text, fault_of, subcommand_of}
use Rattle.mr_words.proofs.PlainWalk.{IsPlainWord, plain_word, standing, asking, value_walked, word_step, value_step, no_word_left}
use Rattle.mr_words.specs.Command.{program_app, timeline_app}
use Rattle.mr_words.specs.Words.{AreReadings, Say, SaysTimeline, readings_in}
use Rattle.mr_words.specs.declared.words.TimelineValues.{TimelineValues}
use Rattle.mr_words.specs.declared.words.Wanted.TheVariants.{Timeline}

-- the command `timeline` as it is built
abbrev leaf : Shape
leaf = built_leaf (inherited (with_leaf_noted (marked_built program_app.top)) timeline_app.top)

-- what is held after the name of the file's option, its value, and the name of the readings' option
abbrev held_1 : Held
held_1 = record { rows = []; pending = Some (codes "config", []); skip = 0 }

abbrev held_2 : Text → Held
held_2 config = record { rows = []; pending = Some (codes "config", config ∷ []); skip = 0 }

abbrev held_3 : Text → Held
held_3 config = record (settled leaf.rules (held_2 config)) { pending = Some (codes "readings", []) }

abbrev held_4 : Text → Text → Held
held_4 config readings = record (held_3 config) { pending = Some (codes "readings", readings ∷ []) }

next : Text → Walk → Walk
next word w = walked leaf.rules [] w word

left : List Text → Walk → Kinds
left rest w = walk_fault leaf [] w rest

-- what is left to look at once the words are walked
abbrev after_walk : Walk → Kinds
after_walk w =
    or_else (settle_fault leaf.rules leaf.args_override_self w.held)
    (or_else (defaults_fault (settled leaf.rules w.held).rows leaf.rules) (check_fault leaf (finished leaf.rules w.held) false))

-- what a walk that ends so says of the words
module _ (words : List Text) (end : Walk) (walk_is : walk leaf.rules [] nothing_held words ≡ end)
    (walk_taken : walk_fault leaf [] (walk_from nothing_held) words ≡ []) (end_taken : after_walk end ≡ []) where
  level_taken : level_fault leaf [] nothing_held words false [] ≡ []
  level_taken = ap₂ or_else walk_taken (ap after_walk walk_is ∙ end_taken)

config_named : walked leaf.rules [] (walk_from nothing_held) (codes "--config") ≡ asking (codes "config") held_1
unfolding clap_on_literals
config_named = refl

-- the name of the file alone
module _ (config : Text) (config_plain : IsPlainWord config) where
  abbrev short_words : List Text
  short_words = codes "--config" ∷ config ∷ []

  short_walk : walk leaf.rules [] nothing_held short_words ≡ standing (held_2 config)
  unfolding next
  short_walk = ap (next config) config_named ∙ value_walked leaf.rules (codes "config") held_1 config config_plain

  short_walk_taken : walk_fault leaf [] (walk_from nothing_held) short_words ≡ []
  unfolding left
  short_walk_taken = word_step leaf (walk_from nothing_held) (codes "--config") _ refl
      ∙ ap (left (config ∷ [])) config_named
      ∙ value_step leaf (codes "config") held_1 config [] config_plain
      ∙ no_word_left leaf (standing (held_2 config))

  short_end_taken : after_walk (standing (held_2 config)) ≡ []
  unfolding clap_on_literals
  short_end_taken = refl

  short_taken : fault_of program_app (codes "timeline" ∷ short_words) ≡ []
  unfolding clap_on_literals
  short_taken = ap (λ (below : Kinds). or_else below []) (level_taken short_words _ short_walk short_walk_taken short_end_taken)

  short_found : subcommand_of program_app (codes "timeline" ∷ short_words) ≡ Some (codes "timeline", finished leaf.rules (held_2 config))
  unfolding clap_on_literals
  short_found = ap (λ (w : Walk). Some (codes "timeline", finished leaf.rules w.held)) short_walk

-- the readings behind it
module _ (config readings : Text) (config_plain : IsPlainWord config) (readings_plain : IsPlainWord readings) where
  abbrev words : List Text
  words = codes "--config" ∷ config ∷ codes "--readings" ∷ readings ∷ []

  readings_named : walked leaf.rules [] (standing (held_2 config)) (codes "--readings") ≡ asking (codes "readings") (held_3 config)
  unfolding clap_on_literals
  readings_named = refl

  walk_is : walk leaf.rules [] nothing_held words ≡ standing (held_4 config readings)
  unfolding next
  walk_is =
      ap (next readings)
      (ap (next (codes "--readings")) (ap (next config) config_named ∙ value_walked leaf.rules (codes "config") held_1 config config_plain) ∙ readings_named)
      ∙ value_walked leaf.rules (codes "readings") (held_3 config) readings readings_plain

  walk_taken : walk_fault leaf [] (walk_from nothing_held) words ≡ []
  unfolding left
  walk_taken = word_step leaf (walk_from nothing_held) (codes "--config") _ refl
      ∙ ap (left (config ∷ codes "--readings" ∷ readings ∷ [])) config_named
      ∙ value_step leaf (codes "config") held_1 config _ config_plain
      ∙ word_step leaf (standing (held_2 config)) (codes "--readings") _ refl
      ∙ ap (left (readings ∷ [])) readings_named
      ∙ value_step leaf (codes "readings") (held_3 config) readings [] readings_plain
      ∙ no_word_left leaf (standing (held_4 config readings))

  end_taken : after_walk (standing (held_4 config readings)) ≡ []
  unfolding clap_on_literals
  end_taken = refl

  words_taken : fault_of program_app (codes "timeline" ∷ words) ≡ []
  unfolding clap_on_literals
  words_taken = ap (λ (below : Kinds). or_else below []) (level_taken words _ walk_is walk_taken end_taken)

  rows_found : subcommand_of program_app (codes "timeline" ∷ words) ≡ Some (codes "timeline", finished leaf.rules (held_4 config readings))
  unfolding clap_on_literals
  rows_found = ap (λ (w : Walk). Some (codes "timeline", finished leaf.rules w.held)) walk_is

-- words that plainly say a timeline say it to `clap`
pub timeline_said : (said : List Text) (values : TimelineValues) (readings : Option Text) → SaysTimeline said values.config.now readings
    → AreReadings readings (readings_in values) → Say said (Timeline values)
timeline_said said values None says are =
    let config = values.config.now in
    let config_plain = plain_word config says.1 in
    let rows : List Row = finished leaf.rules (held_2 config) in
    record {
      fits = subst (λ (w : List Text). fault_of program_app w ≡ []) (sym says.0) (short_taken config config_plain);
      finds = (
        rows,
        subst (λ (w : List Text). subcommand_of program_app w ≡ Some (codes "timeline", rows)) (sym says.0) (short_found config config_plain),
        record { config_is = refl; readings_are = are },
      );
    }
timeline_said said values (Some readings) says are =
    let config = values.config.now in
    let config_plain = plain_word config says.1 in
    let readings_plain = plain_word readings says.2 in
    let rows : List Row = finished leaf.rules (held_4 config readings) in
    record {
      fits = subst (λ (w : List Text). fault_of program_app w ≡ []) (sym says.0) (words_taken config readings config_plain readings_plain);
      finds = (
        rows,
        subst (λ (w : List Text). subcommand_of program_app w ≡ Some (codes "timeline", rows)) (sym says.0)
            (rows_found config readings config_plain readings_plain),
        record { config_is = refl; readings_are = are },
      );
    }
