-- That words which plainly say a watch are read as it.
use Rattle.std.proofs.Common.{◌≡◌, ◌∙◌, ap, ap₂, refl, sym, subst, List, [], ◌∷◌, None, Some, false, codes}
use Rattle.clap.proofs.OnLiterals.{clap_on_literals}
use Rattle.clap.specs.Faults.{walk_fault, turn_fault, settle_fault, defaults_fault, check_fault, level_fault}
use Rattle.clap.specs.Kinds.{Kinds, or_else}
use Rattle.clap.specs.Simple.{Shape, built_leaf, inherited, marked_built, with_leaf_noted}
use Rattle.clap.specs.Walk.{Held, Walk, positional, walk, walked, walk_from, nothing_held, settled, finished}
use Rattle.clap.specs.Words.{Row, Text, fault_of, subcommand_of}
use Rattle.mr_words.proofs.PlainWalk.{IsPlainWord, plain_word, standing, asking, value_walked, word_step, value_step, no_word_left}
use Rattle.mr_words.specs.Command.{program_app, watch_app}
use Rattle.mr_words.specs.Words.{Say, SaysWatch}
use Rattle.mr_words.specs.declared.watch_words.WatchValues.{WatchValues}
use Rattle.mr_words.specs.declared.words.Wanted.TheVariants.{Watch}

-- the command `watch` as it is built
abbrev leaf : Shape
leaf = built_leaf (inherited (with_leaf_noted (marked_built program_app.top)) watch_app.top)

-- what is held after the name of the file's option, and after its value
abbrev held_1 : Held
held_1 = record { rows = []; pending = Some (codes "config", []); skip = 0 }

abbrev held_2 : Text → Held
held_2 config = record { rows = []; pending = Some (codes "config", config ∷ []); skip = 0 }

-- what is held after the address, and where the walk stands then
abbrev held_3 : Text → Text → Held
held_3 config address = record (settled leaf.rules (held_2 config)) { pending = Some (codes "address", address ∷ []) }

abbrev after_address : Text → Text → Walk
after_address config address = record { held = held_3 config address; waiting = positional; position = 1; is_trailing = false; stopped = None }

module _ (config address : Text) (config_plain : IsPlainWord config) (address_plain : IsPlainWord address) where
  abbrev words : List Text
  words = codes "--config" ∷ config ∷ address ∷ []

  config_named : walked leaf.rules [] (walk_from nothing_held) (codes "--config") ≡ asking (codes "config") held_1
  unfolding clap_on_literals
  config_named = refl

  address_walked : walked leaf.rules [] (standing (held_2 config)) address ≡ after_address config address
  unfolding clap_on_literals
  address_walked = rw (address_plain.dashes, address_plain.long, address_plain.short) refl

  next : Text → Walk → Walk
  next word w = walked leaf.rules [] w word

  walk_is : walk leaf.rules [] nothing_held words ≡ after_address config address
  unfolding next
  walk_is =
      ap (next address) (ap (next config) config_named ∙ value_walked leaf.rules (codes "config") held_1 config config_plain) ∙ address_walked

  turn_taken : turn_fault leaf [] (standing (held_2 config)) address ≡ []
  unfolding clap_on_literals
  turn_taken = rw (address_plain.dashes, address_plain.long, address_plain.short) refl

  left : List Text → Walk → Kinds
  left rest w = walk_fault leaf [] w rest

  walk_taken : walk_fault leaf [] (walk_from nothing_held) words ≡ []
  unfolding left
  walk_taken = word_step leaf (walk_from nothing_held) (codes "--config") _ refl
      ∙ ap (left (config ∷ address ∷ [])) config_named
      ∙ value_step leaf (codes "config") held_1 config _ config_plain
      ∙ word_step leaf (standing (held_2 config)) address [] turn_taken
      ∙ no_word_left leaf _

  -- what is left to look at once the words are walked
  abbrev after_walk : Walk → Kinds
  after_walk w =
      or_else (settle_fault leaf.rules leaf.args_override_self w.held)
      (or_else (defaults_fault (settled leaf.rules w.held).rows leaf.rules) (check_fault leaf (finished leaf.rules w.held) false))

  end_taken : after_walk (after_address config address) ≡ []
  unfolding clap_on_literals
  end_taken = refl

  level_taken : level_fault leaf [] nothing_held words false [] ≡ []
  level_taken = ap₂ or_else walk_taken (ap after_walk walk_is ∙ end_taken)

  words_taken : fault_of program_app (codes "watch" ∷ words) ≡ []
  unfolding clap_on_literals
  words_taken = ap (λ (below : Kinds). or_else below []) level_taken

  rows_found : subcommand_of program_app (codes "watch" ∷ words) ≡ Some (codes "watch", finished leaf.rules (held_3 config address))
  unfolding clap_on_literals
  rows_found = ap (λ (w : Walk). Some (codes "watch", finished leaf.rules w.held)) walk_is

-- words that plainly say a watch say it to `clap`
pub watch_said : (said : List Text) (values : WatchValues) → SaysWatch said values → Say said (Watch values)
watch_said said values says =
    let config = values.config.now in
    let config_plain = plain_word config says.config_is_none in
    let address_plain = plain_word says.address says.address_is_none in
    let rows : List Row = finished leaf.rules (held_3 config says.address) in
    record {
      fits = subst (λ (w : List Text). fault_of program_app w ≡ []) (sym says.words_are) (words_taken config says.address config_plain address_plain);
      finds = (
        rows,
        subst (λ (w : List Text). subcommand_of program_app w ≡ Some (codes "watch", rows)) (sym says.words_are)
            (rows_found config says.address config_plain address_plain),
        record {
          config_is = refl;
          once_is = says.once_is;
          json_is = says.json_is;
          addresses_are = ap (λ (texts : List Text). Some texts) (sym says.addresses_are);
        },
      );
    }
