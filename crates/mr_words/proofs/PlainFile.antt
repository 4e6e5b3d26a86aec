-- That words which plainly say a run, a check, a drawing or an upgrade are read as it.
use Rattle.std.proofs.Common.{◌≡◌, ◌∙◌, ap, ap₂, refl, sym, subst, List, [], ◌∷◌, Option, None, Some, false, codes}
use Rattle.std.specs.Borrow.{Bor}
use Rattle.clap.proofs.OnLiterals.{clap_on_literals}
use Rattle.clap.specs.Faults.{walk_fault, turn_fault, settle_fault, defaults_fault, check_fault, level_fault}
use Rattle.clap.specs.Kinds.{Kinds, or_else}
use Rattle.clap.specs.Simple.{Shape, built_leaf, inherited, marked_built, with_leaf_noted}
use Rattle.clap.specs.Walk.{Held, Walk, idle, walk, walk_from, nothing_held, settled, finished}
use Rattle.clap.specs.Words.{Row, Text, fault_of, subcommand_of}
use Rattle.mr_words.proofs.PlainWalk.{IsPlainWord, plain_word, word_step, no_word_left}
use Rattle.mr_words.specs.Command.{file_app, program_app}
use Rattle.mr_words.specs.Words.{HasFile, Say, SaysFile, path_in}
use Rattle.mr_words.specs.declared.words.Wanted.TheVariants.{Run, Check, Draw, Upgrade}

-- what is held after the file's name
abbrev held_file : Text → Held
held_file file = record { rows = []; pending = Some (codes "file", file ∷ []); skip = 0 }

-- where the walk stands then
abbrev after_file : Text → Walk
after_file file = record { held = held_file file; waiting = idle; position = 2; is_trailing = false; stopped = None }

-- a command of this name as it is built
module _ (name : Text) where
  abbrev leaf : Shape
  leaf = built_leaf (inherited (with_leaf_noted (marked_built program_app.top)) (file_app name).top)

  -- what is left to look at once the words are walked
  abbrev after_walk : Walk → Kinds
  after_walk w =
      or_else (settle_fault leaf.rules leaf.args_override_self w.held)
      (or_else (defaults_fault (settled leaf.rules w.held).rows leaf.rules) (check_fault leaf (finished leaf.rules w.held) false))

  nothing_taken : level_fault leaf [] nothing_held [] false [] ≡ []
  unfolding clap_on_literals
  nothing_taken = refl

  module _ (file : Text) (plain : IsPlainWord file) where
    walk_is : walk leaf.rules [] nothing_held (file ∷ []) ≡ after_file file
    unfolding clap_on_literals
    walk_is = rw (plain.dashes, plain.long, plain.short) refl

    turn_taken : turn_fault leaf [] (walk_from nothing_held) file ≡ []
    unfolding clap_on_literals
    turn_taken = rw (plain.dashes, plain.long, plain.short) refl

    walk_taken : walk_fault leaf [] (walk_from nothing_held) (file ∷ []) ≡ []
    walk_taken = word_step leaf (walk_from nothing_held) file [] turn_taken ∙ no_word_left leaf _

    end_taken : after_walk (after_file file) ≡ []
    unfolding clap_on_literals
    end_taken = refl

    file_taken : level_fault leaf [] nothing_held (file ∷ []) false [] ≡ []
    file_taken = ap₂ or_else walk_taken (ap after_walk walk_is ∙ end_taken)

-- the rows of a command that is given this file, or none
abbrev rows_with : Option Text → List Row
rows_with None = finished (leaf (codes "run")).rules nothing_held
rows_with (Some file) = finished (leaf (codes "run")).rules (held_file file)

abbrev words_with : Option Text → List Text
words_with None = []
words_with (Some file) = file ∷ []

rows_have : (file : Option Text) → HasFile (rows_with file) file
unfolding clap_on_literals
rows_have None = refl
rows_have (Some file) = refl

file_named : (name : Text) (said : List Text) (file : Option Text) → SaysFile name said file → said ≡ name ∷ words_with file
file_named name said None says = says
file_named name said (Some file) says = says.0

run_passed : (said : List Text) (file : Option Text) → SaysFile (codes "run") said file → fault_of program_app (codes "run" ∷ words_with file) ≡ []
unfolding clap_on_literals
run_passed said None says = ap (λ (below : Kinds). or_else below []) (nothing_taken (codes "run"))
run_passed said (Some file) says = ap (λ (below : Kinds). or_else below []) (file_taken (codes "run") file (plain_word file says.1))

run_found : (said : List Text) (file : Option Text) → SaysFile (codes "run") said file
    → subcommand_of program_app (codes "run" ∷ words_with file) ≡ Some (codes "run", rows_with file)
unfolding clap_on_literals
run_found said None says = refl
run_found said (Some file) says =
    ap (λ (w : Walk). Some (codes "run", finished (leaf (codes "run")).rules w.held)) (walk_is (codes "run") file (plain_word file says.1))

check_passed : (said : List Text) (file : Option Text) → SaysFile (codes "check") said file → fault_of program_app (codes "check" ∷ words_with file) ≡ []
unfolding clap_on_literals
check_passed said None says = ap (λ (below : Kinds). or_else below []) (nothing_taken (codes "check"))
check_passed said (Some file) says = ap (λ (below : Kinds). or_else below []) (file_taken (codes "check") file (plain_word file says.1))

check_found : (said : List Text) (file : Option Text) → SaysFile (codes "check") said file
    → subcommand_of program_app (codes "check" ∷ words_with file) ≡ Some (codes "check", rows_with file)
unfolding clap_on_literals
check_found said None says = refl
check_found said (Some file) says =
    ap (λ (w : Walk). Some (codes "check", finished (leaf (codes "check")).rules w.held)) (walk_is (codes "check") file (plain_word file says.1))

draw_passed : (said : List Text) (file : Option Text) → SaysFile (codes "draw") said file → fault_of program_app (codes "draw" ∷ words_with file) ≡ []
unfolding clap_on_literals
draw_passed said None says = ap (λ (below : Kinds). or_else below []) (nothing_taken (codes "draw"))
draw_passed said (Some file) says = ap (λ (below : Kinds). or_else below []) (file_taken (codes "draw") file (plain_word file says.1))

draw_found : (said : List Text) (file : Option Text) → SaysFile (codes "draw") said file
    → subcommand_of program_app (codes "draw" ∷ words_with file) ≡ Some (codes "draw", rows_with file)
unfolding clap_on_literals
draw_found said None says = refl
draw_found said (Some file) says =
    ap (λ (w : Walk). Some (codes "draw", finished (leaf (codes "draw")).rules w.held)) (walk_is (codes "draw") file (plain_word file says.1))

upgrade_passed : (said : List Text) (file : Option Text) → SaysFile (codes "upgrade") said file
    → fault_of program_app (codes "upgrade" ∷ words_with file) ≡ []
unfolding clap_on_literals
upgrade_passed said None says = ap (λ (below : Kinds). or_else below []) (nothing_taken (codes "upgrade"))
upgrade_passed said (Some file) says = ap (λ (below : Kinds). or_else below []) (file_taken (codes "upgrade") file (plain_word file says.1))

upgrade_found : (said : List Text) (file : Option Text) → SaysFile (codes "upgrade") said file
    → subcommand_of program_app (codes "upgrade" ∷ words_with file) ≡ Some (codes "upgrade", rows_with file)
unfolding clap_on_literals
upgrade_found said None says = refl
upgrade_found said (Some file) says =
    ap (λ (w : Walk). Some (codes "upgrade", finished (leaf (codes "upgrade")).rules w.held)) (walk_is (codes "upgrade") file (plain_word file says.1))

-- words that plainly say a run, a check, a drawing or an upgrade say it to `clap`
pub run_said : (said : List Text) (file : Option (Bor Text)) → SaysFile (codes "run") said (path_in file) → Say said (Run file)
run_said said file says =
    let named = file_named (codes "run") said (path_in file) says in
    record {
      fits = subst (λ (w : List Text). fault_of program_app w ≡ []) (sym named) (run_passed said (path_in file) says);
      finds = (
        rows_with (path_in file),
        subst (λ (w : List Text). subcommand_of program_app w ≡ Some (codes "run", rows_with (path_in file))) (sym named) (run_found said (path_in file) says),
        rows_have (path_in file),
      );
    }

pub check_said : (said : List Text) (file : Option (Bor Text)) → SaysFile (codes "check") said (path_in file) → Say said (Check file)
check_said said file says =
    let named = file_named (codes "check") said (path_in file) says in
    record {
      fits = subst (λ (w : List Text). fault_of program_app w ≡ []) (sym named) (check_passed said (path_in file) says);
      finds = (
        rows_with (path_in file),
        subst (λ (w : List Text). subcommand_of program_app w ≡ Some (codes "check", rows_with (path_in file))) (sym named) (check_found said (path_in file) says),
        rows_have (path_in file),
      );
    }

pub draw_said : (said : List Text) (file : Option (Bor Text)) → SaysFile (codes "draw") said (path_in file) → Say said (Draw file)
draw_said said file says =
    let named = file_named (codes "draw") said (path_in file) says in
    record {
      fits = subst (λ (w : List Text). fault_of program_app w ≡ []) (sym named) (draw_passed said (path_in file) says);
      finds = (
        rows_with (path_in file),
        subst (λ (w : List Text). subcommand_of program_app w ≡ Some (codes "draw", rows_with (path_in file))) (sym named) (draw_found said (path_in file) says),
        rows_have (path_in file),
      );
    }

pub upgrade_said : (said : List Text) (file : Option (Bor Text)) → SaysFile (codes "upgrade") said (path_in file) → Say said (Upgrade file)
upgrade_said said file says =
    let named = file_named (codes "upgrade") said (path_in file) says in
    record {
      fits = subst (λ (w : List Text). fault_of program_app w ≡ []) (sym named) (upgrade_passed said (path_in file) says);
      finds = (
        rows_with (path_in file),
        subst (λ (w : List Text). subcommand_of program_app w ≡ Some (codes "upgrade", rows_with (path_in file))) (sym named) (upgrade_found said (path_in file) says),
        rows_have (path_in file),
      );
    }
