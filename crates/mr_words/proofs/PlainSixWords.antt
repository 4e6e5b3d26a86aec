-- That the six words which plainly say a plan are read as it.
use Rattle.std.proofs.Common.{◌≡◌, ◌∙◌, ap, refl, sym, subst, suc, List, [], ◌∷◌, None, Some, false, ℕ, codes}
use Rattle.std.specs.Prelude.{fold}
use Rattle.clap.proofs.OnLiterals.{clap_on_literals}
use Rattle.clap.specs.Faults.{walk_fault, turn_fault}
use Rattle.clap.specs.Kinds.{Kinds, or_else}
use Rattle.clap.specs.Simple.{Shape, built_leaf, inherited, marked_built, with_leaf_noted}
use Rattle.clap.specs.Walk.{Held, Walk, walked, nothing_held, settled, finished, idle}
use Rattle.clap.specs.Words.{Row, Text, fault_of, subcommand_of}
use Rattle.mr_pools.specs.Hash.{name_of_hash}
use Rattle.mr_pools.specs.declared.hash.NamedHash.{NamedHash}
use Rattle.mr_pools.specs.declared.hash.NamedHash.TheVariants.{Sum, Fnv}
use Rattle.mr_words.proofs.PlainPlan.{IsTakenNumber, number_is_taken, value_taken}
use Rattle.mr_words.proofs.PlainWalk.{IsPlainWord, IsWalked, Leads, after_walk, all_walked, no_words, plain_word, word_step}
use Rattle.mr_words.specs.Command.{program_app, plan_app}
use Rattle.mr_words.specs.Words.{Say, SaysSixWords}
use Rattle.mr_words.specs.declared.plan_words.MigrationWords.{MigrationWords}
use Rattle.mr_words.specs.declared.plan_words.Planned.TheVariants.{InWords}
use Rattle.mr_words.specs.declared.words.Wanted.TheVariants.{Plan}

-- the command `plan` as it is built
abbrev leaf : Shape
leaf = built_leaf (inherited (with_leaf_noted (marked_built program_app.top)) plan_app.top)

-- what is held after a word of this name
abbrev held_after : Held → Text → Text → Held
held_after h name word = record (settled leaf.rules h) { pending = Some (name, word ∷ []) }

-- a walk before the word at this place
abbrev before : ℕ → Held → Walk
before place h = record { held = h; waiting = idle; position = place; is_trailing = false; stopped = None }

-- what is held after each of the six
abbrev held_1 : Text → Held
held_1 old = held_after nothing_held (codes "old") old

abbrev held_2 : Text → Text → Held
held_2 old new = held_after (held_1 old) (codes "new") new

abbrev held_3 : Text → Text → Text → Held
held_3 old new start = held_after (held_2 old new) (codes "start") start

abbrev held_4 : Text → Text → Text → Text → Held
held_4 old new start interval = held_after (held_3 old new start) (codes "interval") interval

abbrev held_5 : Text → Text → Text → Text → Text → Held
held_5 old new start interval hash = held_after (held_4 old new start interval) (codes "hash") hash

abbrev held_6 : Text → Text → Text → Text → Text → Text → Held
held_6 old new start interval hash at = held_after (held_5 old new start interval hash) (codes "second") at

module _ (old new start interval hash at : Text) (old_plain : IsPlainWord old) (new_plain : IsPlainWord new) (start_is : IsTakenNumber start)
    (interval_is : IsTakenNumber interval) (hash_plain : IsPlainWord hash) (at_is : IsTakenNumber at) where
  abbrev words : List Text
  words = old ∷ new ∷ start ∷ interval ∷ hash ∷ at ∷ []

  old_walked : walked leaf.rules [] (before 1 nothing_held) old ≡ before 2 (held_1 old)
  unfolding clap_on_literals
  old_walked = rw (old_plain.dashes, old_plain.long, old_plain.short) refl

  new_walked : walked leaf.rules [] (before 2 (held_1 old)) new ≡ before 3 (held_2 old new)
  unfolding clap_on_literals
  new_walked = rw (new_plain.dashes, new_plain.long, new_plain.short) refl

  start_walked : walked leaf.rules [] (before 3 (held_2 old new)) start ≡ before 4 (held_3 old new start)
  unfolding clap_on_literals
  start_walked = rw (start_is.plain.dashes, start_is.plain.long, start_is.plain.short) refl

  interval_walked : walked leaf.rules [] (before 4 (held_3 old new start)) interval ≡ before 5 (held_4 old new start interval)
  unfolding clap_on_literals
  interval_walked = rw (interval_is.plain.dashes, interval_is.plain.long, interval_is.plain.short) refl

  hash_walked : walked leaf.rules [] (before 5 (held_4 old new start interval)) hash ≡ before 6 (held_5 old new start interval hash)
  unfolding clap_on_literals
  hash_walked = rw (hash_plain.dashes, hash_plain.long, hash_plain.short) refl

  at_walked : walked leaf.rules [] (before 6 (held_5 old new start interval hash)) at ≡ before 7 (held_6 old new start interval hash at)
  unfolding clap_on_literals
  at_walked = rw (at_is.plain.dashes, at_is.plain.long, at_is.plain.short) refl

  old_turn : turn_fault leaf [] (before 1 nothing_held) old ≡ []
  unfolding clap_on_literals
  old_turn = rw (old_plain.dashes, old_plain.long, old_plain.short) refl

  new_turn : turn_fault leaf [] (before 2 (held_1 old)) new ≡ []
  unfolding clap_on_literals
  new_turn = rw (new_plain.dashes, new_plain.long, new_plain.short) refl

  start_turn : turn_fault leaf [] (before 3 (held_2 old new)) start ≡ []
  unfolding clap_on_literals
  start_turn = rw (start_is.plain.dashes, start_is.plain.long, start_is.plain.short) refl

  interval_turn : turn_fault leaf [] (before 4 (held_3 old new start)) interval ≡ []
  unfolding clap_on_literals
  interval_turn = rw (interval_is.plain.dashes, interval_is.plain.long, interval_is.plain.short, value_taken start start_is.accepted) refl

  hash_turn : turn_fault leaf [] (before 5 (held_4 old new start interval)) hash ≡ []
  unfolding clap_on_literals
  hash_turn = rw (hash_plain.dashes, hash_plain.long, hash_plain.short, value_taken interval interval_is.accepted) refl

  at_turn : turn_fault leaf [] (before 6 (held_5 old new start interval hash)) at ≡ []
  unfolding clap_on_literals
  at_turn = rw (at_is.plain.dashes, at_is.plain.long, at_is.plain.short) refl

  -- one word of the six, before those behind it
  word_before : (place : ℕ) (h after : Held) (word : Text) (rest : List Text) (end : Walk)
      → walked leaf.rules [] (before place h) word ≡ before (suc place) after → turn_fault leaf [] (before place h) word ≡ []
      → Leads leaf (before (suc place) after) rest end → Leads leaf (before place h) (word ∷ rest) end
  word_before place h after word rest end is none more = record {
    ends = ap (λ (w : Walk). fold (walked leaf.rules []) w rest) is ∙ more.ends;
    taken = word_step leaf (before place h) word rest none ∙ (ap (λ (w : Walk). walk_fault leaf [] w rest) is ∙ more.taken);
  }

  all_lead : Leads leaf (before 1 nothing_held) words (before 7 (held_6 old new start interval hash at))
  all_lead =
      word_before 1 _ _ old _ _ old_walked old_turn
      (word_before 2 _ _ new _ _ new_walked new_turn
      (word_before 3 _ _ start _ _ start_walked start_turn
      (word_before 4 _ _ interval _ _ interval_walked interval_turn
      (word_before 5 _ _ hash _ _ hash_walked hash_turn
      (word_before 6 _ _ at _ _ at_walked at_turn (no_words leaf (before 7 (held_6 old new start interval hash at))))))))

  end_taken : after_walk leaf (before 7 (held_6 old new start interval hash at)) ≡ []
  unfolding clap_on_literals
  end_taken = ap (λ (kinds : Kinds). or_else kinds []) (value_taken at at_is.accepted)

  all_taken : IsWalked leaf words (before 7 (held_6 old new start interval hash at))
  all_taken = all_walked leaf words (before 7 (held_6 old new start interval hash at)) all_lead end_taken

  words_taken : fault_of program_app (codes "plan" ∷ words) ≡ []
  unfolding clap_on_literals
  words_taken = ap (λ (below : Kinds). or_else below []) all_taken.fits

  rows_found : subcommand_of program_app (codes "plan" ∷ words) ≡ Some (codes "plan", finished leaf.rules (held_6 old new start interval hash at))
  unfolding clap_on_literals
  rows_found = ap (λ (w : Walk). Some (codes "plan", finished leaf.rules w.held)) all_taken.ends

-- the name of a hash is no option
hash_word : (hash : NamedHash) → IsPlainWord (name_of_hash hash)
hash_word Sum = record { long = refl; short = refl; dashes = refl }
hash_word Fnv = record { long = refl; short = refl; dashes = refl }

-- six words that plainly say a plan say it to `clap`
pub six_words_said : (said : List Text) (migration : MigrationWords) (second : ℕ) → SaysSixWords said migration second
    → Say said (Plan (record { planned = InWords migration; at = second }))
six_words_said said migration second says =
    let old = migration.old.now in
    let new = migration.new.now in
    let hash : Text = name_of_hash migration.hash in
    let old_plain = plain_word old says.old_is_none in
    let new_plain = plain_word new says.new_is_none in
    let hash_plain = hash_word migration.hash in
    let start_is = number_is_taken says.start migration.start says.start_is in
    let interval_is = number_is_taken says.interval migration.interval says.interval_is in
    let at_is = number_is_taken says.at second says.at_is in
    let rows : List Row = finished leaf.rules (held_6 old new says.start says.interval hash says.at) in
    record {
      fits = subst (λ (w : List Text). fault_of program_app w ≡ []) (sym says.words_are)
          (words_taken old new says.start says.interval hash says.at old_plain new_plain start_is interval_is hash_plain at_is);
      finds = (
        rows,
        subst (λ (w : List Text). subcommand_of program_app w ≡ Some (codes "plan", rows)) (sym says.words_are)
            (rows_found old new says.start says.interval hash says.at old_plain new_plain start_is interval_is hash_plain at_is),
        (
          record {
            old_is = refl;
            new_is = refl;
            start_is = record { word = says.start; is_row = refl; is_number = says.start_is };
            interval_is = record { word = says.interval; is_row = refl; is_number = says.interval_is };
            hash_is = refl;
            at_is = record { word = says.at; is_row = refl; is_number = says.at_is };
          },
          record { no_config = refl; no_at = refl },
        ),
      );
    }
