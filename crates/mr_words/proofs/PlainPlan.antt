-- That words which plainly say a plan by its options are read as it.
use Rattle.std.proofs.Common.{◌≡◌, ◌<◌, ◌^◌, ◌∙◌, ap, ap₂, refl, sym, subst, arith, List, [], ◌∷◌, Some, false, true, ℕ, codes}
use Rattle.std.specs.Str.Parse.{IsNumeral, digits_value, without_leading_plus}
use Rattle.clap.proofs.OnLiterals.{clap_on_literals}
use Rattle.clap.proofs.ValueTestLemmas.{Accepts-accepts}
use Rattle.clap.specs.Faults.{walk_fault, settle_fault, defaults_fault, check_fault, level_fault}
use Rattle.clap.specs.Kinds.{Kinds, or_else, values_kinds}
use Rattle.clap.specs.Simple.{Shape, built_leaf, inherited, marked_built, with_leaf_noted}
use Rattle.clap.specs.ValueTests.{accepts}
use Rattle.clap.specs.Walk.{Held, Walk, walk, walked, walk_from, nothing_held, settled, finished}
use Rattle.clap.specs.Words.{Row, Text, fault_of, subcommand_of}
use Rattle.mr_words.proofs.PlainWalk.{IsPlainWord, plain_word, standing, asking, value_walked, word_step, value_step, no_word_left}
use Rattle.mr_words.specs.Command.{numbers, program_app, plan_app}
use Rattle.mr_words.specs.Words.{IsNoOption, IsNumberWord, Say, SaysFilePlan}
use Rattle.std.specs.Borrow.{Bor}
use Rattle.mr_words.specs.declared.plan_words.Planned.TheVariants.{InFile}
use Rattle.mr_words.specs.declared.words.Wanted.TheVariants.{Plan}

-- the command `plan` as it is built
abbrev leaf : Shape
leaf = built_leaf (inherited (with_leaf_noted (marked_built program_app.top)) plan_app.top)

-- what is held after the name of the file's option, its value, and the name of the second's option
abbrev held_1 : Held
held_1 = record { rows = []; pending = Some (codes "config", []); skip = 0 }

abbrev held_2 : Text → Held
held_2 config = record { rows = []; pending = Some (codes "config", config ∷ []); skip = 0 }

abbrev held_3 : Text → Held
held_3 config = record (settled leaf.rules (held_2 config)) { pending = Some (codes "at", []) }

abbrev held_4 : Text → Text → Held
held_4 config at = record (held_3 config) { pending = Some (codes "at", at ∷ []) }

-- a value that its parser takes is no fault
pub value_taken : (word : Text) → accepts false numbers word ≡ true → values_kinds false numbers (word ∷ []) ≡ []
value_taken word taken = rw taken refl

module _ (config at : Text) (config_plain : IsPlainWord config) (at_plain : IsPlainWord at) (at_number : accepts false numbers at ≡ true) where
  abbrev words : List Text
  words = codes "--config" ∷ config ∷ codes "--at" ∷ at ∷ []

  config_named : walked leaf.rules [] (walk_from nothing_held) (codes "--config") ≡ asking (codes "config") held_1
  unfolding clap_on_literals
  config_named = refl

  at_named : walked leaf.rules [] (standing (held_2 config)) (codes "--at") ≡ asking (codes "at") (held_3 config)
  unfolding clap_on_literals
  at_named = refl

  next : Text → Walk → Walk
  next word w = walked leaf.rules [] w word

  walk_is : walk leaf.rules [] nothing_held words ≡ standing (held_4 config at)
  unfolding next
  walk_is =
      ap (next at) (ap (next (codes "--at")) (ap (next config) config_named ∙ value_walked leaf.rules (codes "config") held_1 config config_plain) ∙ at_named)
      ∙ value_walked leaf.rules (codes "at") (held_3 config) at at_plain

  left : List Text → Walk → Kinds
  left rest w = walk_fault leaf [] w rest

  walk_taken : walk_fault leaf [] (walk_from nothing_held) words ≡ []
  unfolding left
  walk_taken = word_step leaf (walk_from nothing_held) (codes "--config") _ refl
      ∙ ap (left (config ∷ codes "--at" ∷ at ∷ [])) config_named
      ∙ value_step leaf (codes "config") held_1 config _ config_plain
      ∙ word_step leaf (standing (held_2 config)) (codes "--at") _ refl
      ∙ ap (left (at ∷ [])) at_named
      ∙ value_step leaf (codes "at") (held_3 config) at [] at_plain
      ∙ no_word_left leaf (standing (held_4 config at))

  -- what is left to look at once the words are walked
  abbrev after_walk : Walk → Kinds
  after_walk w =
      or_else (settle_fault leaf.rules leaf.args_override_self w.held)
      (or_else (defaults_fault (settled leaf.rules w.held).rows leaf.rules) (check_fault leaf (finished leaf.rules w.held) false))

  end_taken : after_walk (standing (held_4 config at)) ≡ []
  unfolding clap_on_literals
  end_taken = ap (λ (kinds : Kinds). or_else kinds []) (value_taken at at_number)

  level_taken : level_fault leaf [] nothing_held words false [] ≡ []
  level_taken = ap₂ or_else walk_taken (ap after_walk walk_is ∙ end_taken)

  words_taken : fault_of program_app (codes "plan" ∷ words) ≡ []
  unfolding clap_on_literals
  words_taken = ap (λ (below : Kinds). or_else below []) level_taken

  rows_found : subcommand_of program_app (codes "plan" ∷ words) ≡ Some (codes "plan", finished leaf.rules (held_4 config at))
  unfolding clap_on_literals
  rows_found = ap (λ (w : Walk). Some (codes "plan", finished leaf.rules w.held)) walk_is

-- a number is no option
pub number_word : (word : Text) → IsNumeral 10 (without_leading_plus word) → IsNoOption word
number_word [] h = tt
number_word (byte ∷ rest) h = λ e. no_hyphen rest (subst (λ (b : ℕ). IsNumeral 10 (without_leading_plus (b ∷ rest))) e h)
  where
    no_hyphen : (rest : Text) → IsNumeral 10 (without_leading_plus (45 ∷ rest)) → ⊥
    no_hyphen rest h = let bad : 36 < 10 = h.1.0 in absurd (omega arith)

pub number_taken : (word : Text) (number : ℕ) → IsNumberWord word number → accepts false numbers word ≡ true
number_taken word number is =
    let fits : digits_value 10 (without_leading_plus word) < 2 ^ 64 = rw (← is.value) is.fits in
    Accepts-accepts false numbers word (is.digits, fits, omega arith, omega arith)

-- a word that is taken for a value, and for a number
pub record IsTakenNumber (word : Text) : Type 0 where
  pub plain : IsPlainWord word
  pub accepted : accepts false numbers word ≡ true

pub number_is_taken : (word : Text) (number : ℕ) → IsNumberWord word number → IsTakenNumber word
number_is_taken word number is = record { plain = plain_word word (number_word word is.digits); accepted = number_taken word number is }

-- words that plainly say a plan by its options say it to `clap`
pub file_plan_said : (said : List Text) (path : Bor Text) (second : ℕ) → SaysFilePlan said path.now second
    → Say said (Plan (record { planned = InFile path; at = second }))
file_plan_said said path second says =
    let config = path.now in
    let config_plain = plain_word config says.config_is_none in
    let at_plain = plain_word says.at (number_word says.at says.at_is.digits) in
    let at_number = number_taken says.at second says.at_is in
    let rows : List Row = finished leaf.rules (held_4 config says.at) in
    record {
      fits = subst (λ (w : List Text). fault_of program_app w ≡ []) (sym says.words_are) (words_taken config says.at config_plain at_plain at_number);
      finds = (
        rows,
        subst (λ (w : List Text). subcommand_of program_app w ≡ Some (codes "plan", rows)) (sym says.words_are)
            (rows_found config says.at config_plain at_plain at_number),
        (record { config_is = refl; at_is = record { word = says.at; is_row = refl; is_number = says.at_is } }, refl),
      );
    }
