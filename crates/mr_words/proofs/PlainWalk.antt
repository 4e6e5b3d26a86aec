-- The walk of `clap` over options that are given as a name and a value, of which the value doesn't look like an option.
use Rattle.std.proofs.Common.{◌≡◌, ◌∙◌, ap, ap₂, refl, List, [], ◌∷◌, None, Some, false, true, ℕ, Bool}
use Rattle.std.proofs.lemmas.Bool.Decides.{Decides-eqb}
use Rattle.std.specs.Prelude.{◌==◌, fold}
use Rattle.std.specs.Str.{bytes_eq}
use Rattle.clap.specs.Faults.{walk_fault, turn_fault, settle_fault, defaults_fault, check_fault, level_fault}
use Rattle.clap.specs.Kinds.{Kinds, or_else}
use Rattle.clap.specs.Lexer.{long_of, short_of}
use Rattle.clap.specs.Simple.{Shape, filled}
use Rattle.clap.specs.Walk.{Held, Rule, Walk, walk, walked, arg_by_id, finished, idle, nothing_held, option, option_word, reacted, settled}
use Rattle.clap.specs.Words.{Text}
use Rattle.mr_words.specs.Words.{IsNoOption}

-- what `clap` asks of a word before it takes it for a value
pub record IsPlainWord (word : Text) : Type 0 where
  pub long : long_of word ≡ None
  pub short : short_of word ≡ None
  pub dashes : bytes_eq word (45 ∷ 45 ∷ []) ≡ false

plain_by_first : (byte : ℕ) (rest : Text) → (byte == 45) ≡ false → IsPlainWord (byte ∷ rest)
plain_by_first byte rest other = record { long = rw other refl; short = rw other refl; dashes = rw other refl }

is_false : (b : Bool) → ¬ (b ≡ true) → b ≡ false
is_false true h = absurd (h refl)
is_false false h = refl

-- a word that doesn't begin with a hyphen
pub plain_word : (word : Text) → IsNoOption word → IsPlainWord word
plain_word [] h = record { long = refl; short = refl; dashes = refl }
plain_word (byte ∷ rest) h = plain_by_first byte rest (is_false (byte == 45) (λ e. h ((Decides-eqb byte 45).0 e)))

-- a walk between two options
abbrev pub standing : Held → Walk
standing h = record { held = h; waiting = idle; position = 1; is_trailing = false; stopped = None }

-- a walk whose last word was the name of an option
abbrev pub asking : Text → Held → Walk
asking id h = record { held = h; waiting = option id; position = 1; is_trailing = false; stopped = None }

-- where it stands after one more word
abbrev pub answered : List Rule → Text → Held → Text → Walk
answered c id h word =
    let taken = option_word (arg_by_id c id) id word h in
    record { held = taken.0; waiting = taken.1; position = 1; is_trailing = false; stopped = None }

pub value_walked : (c : List Rule) (id : Text) (h : Held) (word : Text) → IsPlainWord word → walked c [] (asking id h) word ≡ answered c id h word
unfolding walked
value_walked c id h word plain = rw (plain.dashes, plain.long, plain.short) refl

value_turn : (s : Shape) (id : Text) (h : Held) (word : Text) → IsPlainWord word → turn_fault s [] (asking id h) word ≡ []
value_turn s id h word plain = rw (plain.dashes, plain.long, plain.short) refl

-- a word without a fault
pub word_step : (s : Shape) (w : Walk) (word : Text) (rest : List Text) → turn_fault s [] w word ≡ []
    → walk_fault s [] w (word ∷ rest) ≡ walk_fault s [] (walked s.rules [] w word) rest
unfolding walk_fault
word_step s w word rest none = ap (λ kinds. or_else kinds (walk_fault s [] (walked s.rules [] w word) rest)) none

-- the value of an option
pub value_step : (s : Shape) (id : Text) (h : Held) (word : Text) (rest : List Text) → IsPlainWord word
    → walk_fault s [] (asking id h) (word ∷ rest) ≡ walk_fault s [] (answered s.rules id h word) rest
value_step s id h word rest plain =
    word_step s (asking id h) word rest (value_turn s id h word plain)
    ∙ ap (λ (w : Walk). walk_fault s [] w rest) (value_walked s.rules id h word plain)

pub no_word_left : (s : Shape) (w : Walk) → walk_fault s [] w [] ≡ []
unfolding walk_fault
no_word_left s w = refl

-- what is held once an option of this id was named, and once its value was given
abbrev pub with_named : Shape → Text → Held → Held
with_named s id h = record (settled s.rules h) { pending = Some (id, []) }

abbrev pub with_given : Shape → Text → Text → Held → Held
with_given s id value h = record (settled s.rules h) { pending = Some (id, value ∷ []) }

-- what is held once a flag of this rule was given
abbrev pub with_flag : Shape → Rule → Held → Held
with_flag s rule h = reacted s.rules (filled rule) [] h

-- the words lead from one walk to another, and no fault is found in them
pub record Leads (s : Shape) (start : Walk) (words : List Text) (end : Walk) : Type 0 where
  pub ends : fold (walked s.rules []) start words ≡ end
  pub taken : walk_fault s [] start words ≡ []

pub no_words : (s : Shape) (w : Walk) → Leads s w [] w
no_words s w = record { ends = refl; taken = no_word_left s w }

-- an option before the words
pub option_before : (s : Shape) (name id value : Text) (h named : Held) (rest : List Text) (end : Walk)
    → walked s.rules [] (standing h) name ≡ asking id named → turn_fault s [] (standing h) name ≡ [] → IsPlainWord value
    → Leads s (answered s.rules id named value) rest end → Leads s (standing h) (name ∷ value ∷ rest) end
option_before s name id value h named rest end is none plain more =
    let rules : List Rule = s.rules in
    let after_name : Walk = walked rules [] (standing h) name in
    record {
      ends = ap (λ (w : Walk). fold (walked rules []) (walked rules [] w value) rest) is
          ∙ (ap (λ (w : Walk). fold (walked rules []) w rest) (value_walked rules id named value plain) ∙ more.ends);
      taken = word_step s (standing h) name (value ∷ rest) none
          ∙ (ap (λ (w : Walk). walk_fault s [] w (value ∷ rest)) is ∙ (value_step s id named value rest plain ∙ more.taken));
    }

-- a word before the words
pub word_before : (s : Shape) (word : Text) (start next : Walk) (rest : List Text) (end : Walk) → walked s.rules [] start word ≡ next
    → turn_fault s [] start word ≡ [] → Leads s next rest end → Leads s start (word ∷ rest) end
word_before s word start next rest end is none more =
    let rules : List Rule = s.rules in
    record {
      ends = ap (λ (w : Walk). fold (walked rules []) w rest) is ∙ more.ends;
      taken = word_step s start word rest none ∙ (ap (λ (w : Walk). walk_fault s [] w rest) is ∙ more.taken);
    }

-- a flag before the words
pub flag_before : (s : Shape) (name : Text) (h after : Held) (rest : List Text) (end : Walk)
    → walked s.rules [] (standing h) name ≡ standing after → turn_fault s [] (standing h) name ≡ []
    → Leads s (standing after) rest end → Leads s (standing h) (name ∷ rest) end
flag_before s name h after rest end is none more = word_before s name (standing h) (standing after) rest end is none more

-- the words of a command that walks to an end without a fault
pub record IsWalked (s : Shape) (words : List Text) (end : Walk) : Type 0 where
  pub fits : level_fault s [] nothing_held words false [] ≡ []
  pub ends : walk s.rules [] nothing_held words ≡ end

-- what is left to look at once the words are walked
abbrev pub after_walk : Shape → Walk → Kinds
after_walk s w =
    or_else (settle_fault s.rules s.args_override_self w.held)
    (or_else (defaults_fault (settled s.rules w.held).rows s.rules) (check_fault s (finished s.rules w.held) false))

pub all_walked : (s : Shape) (words : List Text) (end : Walk) → Leads s (standing nothing_held) words end → after_walk s end ≡ [] → IsWalked s words end
all_walked s words end leads fits = record {
  fits = ap₂ or_else leads.taken (ap (after_walk s) leads.ends ∙ fits);
  ends = leads.ends;
}
