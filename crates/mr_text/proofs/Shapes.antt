-- Words have a shape where the reading of words finds it.
use Rattle.std.proofs.Common.{◌≡◌, ℕ, Bool, true, false, List, [], ◌∷◌, Contains, Option, Some, None, Result, Ok, Err, refl, sym, ◌∙◌, ap, subst, arith, codes, if◌then◌else◌, inl, inr, ◌⊎◌, IsTrue, ◌↔◌}
use Rattle.std.specs.Str.{bytes_eq}
use Rattle.std.specs.List.{list_any}
use Rattle.mr_text.specs.Commands.{Shape, HasShape, IsUnknown, AreWrong, command_words, block_command_words}
use Rattle.mr_text.specs.Commands.Shape.{GetShape, SetShape, DeleteShape, QuitShape}
use Rattle.mr_text.specs.steps.Reading.{shape_of, get_shape, set_shape, set_shape_with, delete_shape, delete_shape_with, quit_shape, noreply_of, without_zero}
use Rattle.mr_text.specs.declared.error.TextError.{TextError}
use Rattle.mr_text.specs.declared.error.TextError.TheVariants.{LineTooLong, BadKey, BadNumber, WrongWords, DataTooLong, BadDataEnd, UnknownCommand, Truncated, Closed, OutOfMemory}
use Rattle.mr_text.proofs.Texts.{text_true, among_true, true_among}

-- words of a shape are read so
pub shape_found : (words : List (List ℕ)) (shape : Shape) → HasShape words shape → shape_of words ≡ Ok shape
unfolding shape_of
shape_found words (GetShape []) h = absurd (let x = h.1 in omega arith)
shape_found words (GetShape (key ∷ keys)) h = rw h.0 refl
shape_found words (SetShape key flags exptime bytes false) h = rw h refl
shape_found words (SetShape key flags exptime bytes true) h = rw h refl
shape_found words (DeleteShape key false) (inl h) = rw h refl
shape_found words (DeleteShape key false) (inr h) = rw h refl
shape_found words (DeleteShape key true) (inl h) = rw h refl
shape_found words (DeleteShape key true) (inr h) = rw h refl
shape_found words QuitShape h = rw h refl

abbrev Options : List (List ℕ) → Option Bool → Type 0
Options words None = Unit {0}
Options words (Some false) = words ≡ []
Options words (Some true) = words ≡ codes "noreply" ∷ []

options_are : (words : List (List ℕ)) → Options words (noreply_of words)
options_are [] = refl
options_are (word ∷ []) = go (bytes_eq word (codes "noreply")) refl
  where
    go : (t : Bool) → bytes_eq word (codes "noreply") ≡ t → Options (word ∷ []) (if t then Some true else None)
    go true e = ap (λ w. w ∷ []) (text_true word (codes "noreply") e)
    go false e = tt
options_are (word ∷ other ∷ words) = tt

-- what the reading of words finds: a shape that they have, or why they are refused
abbrev pub ShapeIs : List (List ℕ) → Result Shape TextError → Type 0
ShapeIs words (Ok shape) = HasShape words shape
ShapeIs words (Err (UnknownCommand closes)) = IsUnknown words closes
ShapeIs words (Err WrongWords) = AreWrong words
ShapeIs words (Err refusal) = ⊥

-- where the words begin with a command and none is read, no shape is there
wrong : (word : List ℕ) (arguments : List (List ℕ)) → Contains command_words word → shape_of (word ∷ arguments) ≡ Err WrongWords → AreWrong (word ∷ arguments)
wrong word arguments known read = (known, λ shape h. let found = shape_found (word ∷ arguments) shape h in cc)

get_is : (arguments : List (List ℕ)) → ShapeIs (codes "get" ∷ arguments) (get_shape arguments)
unfolding shape_of
get_is [] = wrong (codes "get") [] (0, omega arith, refl) refl
get_is (key ∷ keys) = (refl, omega arith)

set_is : (arguments : List (List ℕ)) → ShapeIs (codes "set" ∷ arguments) (set_shape arguments)
unfolding shape_of
set_is [] = wrong (codes "set") _ (1, omega arith, refl) refl
set_is (key ∷ []) = wrong (codes "set") _ (1, omega arith, refl) refl
set_is (key ∷ flags ∷ []) = wrong (codes "set") _ (1, omega arith, refl) refl
set_is (key ∷ flags ∷ exptime ∷ []) = wrong (codes "set") _ (1, omega arith, refl) refl
set_is (key ∷ flags ∷ exptime ∷ bytes ∷ options) = go (noreply_of options) refl (options_are options)
  where
    go : (o : Option Bool) → noreply_of options ≡ o → Options options o
        → ShapeIs (codes "set" ∷ key ∷ flags ∷ exptime ∷ bytes ∷ options) (set_shape_with key flags exptime bytes o)
    go None e are = wrong (codes "set") (key ∷ flags ∷ exptime ∷ bytes ∷ options) (1, omega arith, refl) (rw e refl)
    go (Some false) e are = ap (λ os. codes "set" ∷ key ∷ flags ∷ exptime ∷ bytes ∷ os) are
    go (Some true) e are = ap (λ os. codes "set" ∷ key ∷ flags ∷ exptime ∷ bytes ∷ os) are

zero_or_not : (options : List (List ℕ)) → (options ≡ without_zero options) ⊎ (options ≡ codes "0" ∷ without_zero options)
zero_or_not [] = inl refl
zero_or_not (word ∷ words) = go (bytes_eq word (codes "0")) refl
  where
    go : (t : Bool) → bytes_eq word (codes "0") ≡ t
        → ((word ∷ words) ≡ (if t then words else word ∷ words)) ⊎ ((word ∷ words) ≡ codes "0" ∷ (if t then words else word ∷ words))
    go true e = inr (ap (λ w. w ∷ words) (text_true word (codes "0") e))
    go false e = inl refl

delete_is : (arguments : List (List ℕ)) → ShapeIs (codes "delete" ∷ arguments) (delete_shape arguments)
unfolding shape_of
delete_is [] = wrong (codes "delete") [] (2, omega arith, refl) refl
delete_is (key ∷ options) = go (noreply_of (without_zero options)) refl (options_are (without_zero options)) (zero_or_not options)
  where
    go : (o : Option Bool) → noreply_of (without_zero options) ≡ o → Options (without_zero options) o
        → (options ≡ without_zero options) ⊎ (options ≡ codes "0" ∷ without_zero options)
        → ShapeIs (codes "delete" ∷ key ∷ options) (delete_shape_with key o)
    go None e are either = wrong (codes "delete") (key ∷ options) (2, omega arith, refl) (rw e refl)
    go (Some false) e are (inl z) = inl (ap (λ os. codes "delete" ∷ key ∷ os) (z ∙ are))
    go (Some false) e are (inr z) = inr (ap (λ os. codes "delete" ∷ key ∷ os) (z ∙ ap (λ os. codes "0" ∷ os) are))
    go (Some true) e are (inl z) = inl (ap (λ os. codes "delete" ∷ key ∷ os) (z ∙ are))
    go (Some true) e are (inr z) = inr (ap (λ os. codes "delete" ∷ key ∷ os) (z ∙ ap (λ os. codes "0" ∷ os) are))

quit_is : (arguments : List (List ℕ)) → ShapeIs (codes "quit" ∷ arguments) (quit_shape arguments)
unfolding shape_of
quit_is [] = refl
quit_is (word ∷ words) = wrong (codes "quit") (word ∷ words) (3, omega arith, refl) refl

unknown_is : (word : List ℕ) (arguments : List (List ℕ)) → bytes_eq word (codes "get") ≡ false → bytes_eq word (codes "set") ≡ false
    → bytes_eq word (codes "delete") ≡ false → bytes_eq word (codes "quit") ≡ false
    → IsUnknown (word ∷ arguments) (list_any (bytes_eq word) block_command_words)
unknown_is word arguments g s d q = (
  λ known. let found = true_among word command_words known in let none = rw (g, s, d, q) at found in cc,
  (among_true word block_command_words, true_among word block_command_words),
)

-- what is read of words is so
pub shape_is : (words : List (List ℕ)) → ShapeIs words (shape_of words)
unfolding shape_of
shape_is [] = refl
shape_is (word ∷ arguments) = get_or_not (bytes_eq word (codes "get")) refl
  where
    at : (text : List ℕ) (r : Result Shape TextError) → bytes_eq word text ≡ true → ShapeIs (text ∷ arguments) r → ShapeIs (word ∷ arguments) r
    at text r e h = subst (λ w. ShapeIs (w ∷ arguments) r) (sym (text_true word text e)) h

    quit_or_not : (t : Bool) → bytes_eq word (codes "quit") ≡ t → bytes_eq word (codes "get") ≡ false → bytes_eq word (codes "set") ≡ false
        → bytes_eq word (codes "delete") ≡ false
        → ShapeIs (word ∷ arguments) (if t then quit_shape arguments else Err (UnknownCommand (list_any (bytes_eq word) block_command_words)))
    quit_or_not true e g s d = at (codes "quit") (quit_shape arguments) e (quit_is arguments)
    quit_or_not false e g s d = unknown_is word arguments g s d e

    delete_or_not : (t : Bool) → bytes_eq word (codes "delete") ≡ t → bytes_eq word (codes "get") ≡ false → bytes_eq word (codes "set") ≡ false
        → ShapeIs (word ∷ arguments) (if t then delete_shape arguments
        else if bytes_eq word (codes "quit") then quit_shape arguments else Err (UnknownCommand (list_any (bytes_eq word) block_command_words)))
    delete_or_not true e g s = at (codes "delete") (delete_shape arguments) e (delete_is arguments)
    delete_or_not false e g s = quit_or_not (bytes_eq word (codes "quit")) refl g s e

    set_or_not : (t : Bool) → bytes_eq word (codes "set") ≡ t → bytes_eq word (codes "get") ≡ false
        → ShapeIs (word ∷ arguments) (if t then set_shape arguments else if bytes_eq word (codes "delete") then delete_shape arguments
        else if bytes_eq word (codes "quit") then quit_shape arguments else Err (UnknownCommand (list_any (bytes_eq word) block_command_words)))
    set_or_not true e g = at (codes "set") (set_shape arguments) e (set_is arguments)
    set_or_not false e g = delete_or_not (bytes_eq word (codes "delete")) refl g e

    get_or_not : (t : Bool) → bytes_eq word (codes "get") ≡ t
        → ShapeIs (word ∷ arguments) (if t then get_shape arguments else if bytes_eq word (codes "set") then set_shape arguments
        else if bytes_eq word (codes "delete") then delete_shape arguments
        else if bytes_eq word (codes "quit") then quit_shape arguments else Err (UnknownCommand (list_any (bytes_eq word) block_command_words)))
    get_or_not true e = at (codes "get") (get_shape arguments) e (get_is arguments)
    get_or_not false e = set_or_not (bytes_eq word (codes "set")) refl e

-- the first word is a command's
abbrev IsKnown : List (List ℕ) → Type 0
IsKnown [] = ⊥
IsKnown (word ∷ words) = Contains command_words word

shape_known : (words : List (List ℕ)) (shape : Shape) → HasShape words shape → IsKnown words
shape_known words (GetShape keys) h = subst IsKnown (sym h.0) (0, omega arith, refl)
shape_known words (SetShape key flags exptime bytes false) h = subst IsKnown (sym h) (1, omega arith, refl)
shape_known words (SetShape key flags exptime bytes true) h = subst IsKnown (sym h) (1, omega arith, refl)
shape_known words (DeleteShape key false) (inl h) = subst IsKnown (sym h) (2, omega arith, refl)
shape_known words (DeleteShape key false) (inr h) = subst IsKnown (sym h) (2, omega arith, refl)
shape_known words (DeleteShape key true) (inl h) = subst IsKnown (sym h) (2, omega arith, refl)
shape_known words (DeleteShape key true) (inr h) = subst IsKnown (sym h) (2, omega arith, refl)
shape_known words QuitShape h = subst IsKnown (sym h) (3, omega arith, refl)

unknown_not_known : (words : List (List ℕ)) (closes : Bool) → IsUnknown words closes → ¬ IsKnown words
unknown_not_known [] closes h known = known
unknown_not_known (word ∷ words) closes h known = h.0 known

one_closes : (a b : Bool) (P : Type 0) → (IsTrue a ↔ P) → (IsTrue b ↔ P) → a ≡ b
one_closes true true P h k = refl
one_closes true false P h k = let bad = k.1 (h.0 refl) in cc
one_closes false true P h k = let bad = h.1 (k.0 refl) in cc
one_closes false false P h k = refl

same_closes : (words : List (List ℕ)) (a b : Bool) → IsUnknown words a → IsUnknown words b → a ≡ b
same_closes [] a b h k = h ∙ sym k
same_closes (word ∷ words) a b h k = one_closes a b (Contains block_command_words word) h.1 k.1

wrong_known : (words : List (List ℕ)) → AreWrong words → IsKnown words
wrong_known [] h = h
wrong_known (word ∷ words) h = h.0

no_shape : (words : List (List ℕ)) → AreWrong words → (shape : Shape) → ¬ HasShape words shape
no_shape [] h shape = absurd h
no_shape (word ∷ words) h shape = h.1 shape

-- unknown words are read so
pub unknown_found : (words : List (List ℕ)) (closes : Bool) → IsUnknown words closes → shape_of words ≡ Err (UnknownCommand closes)
unknown_found words closes h = go (shape_of words) (shape_is words)
  where
    go : (r : Result Shape TextError) → ShapeIs words r → r ≡ Err (UnknownCommand closes)
    go (Ok shape) is = absurd (unknown_not_known words closes h (shape_known words shape is))
    go (Err (UnknownCommand other)) is = ap (λ c. Err (UnknownCommand c)) (same_closes words other closes is h)
    go (Err WrongWords) is = absurd (unknown_not_known words closes h (wrong_known words is))
    go (Err LineTooLong) is = absurd is
    go (Err BadKey) is = absurd is
    go (Err BadNumber) is = absurd is
    go (Err DataTooLong) is = absurd is
    go (Err BadDataEnd) is = absurd is
    go (Err Truncated) is = absurd is
    go (Err Closed) is = absurd is
    go (Err OutOfMemory) is = absurd is

-- wrong words are read so
pub wrong_found : (words : List (List ℕ)) → AreWrong words → shape_of words ≡ Err WrongWords
wrong_found words h = go (shape_of words) (shape_is words)
  where
    go : (r : Result Shape TextError) → ShapeIs words r → r ≡ Err WrongWords
    go (Ok shape) is = absurd (no_shape words h shape is)
    go (Err (UnknownCommand other)) is = absurd (unknown_not_known words other is (wrong_known words h))
    go (Err WrongWords) is = refl
    go (Err LineTooLong) is = absurd is
    go (Err BadKey) is = absurd is
    go (Err BadNumber) is = absurd is
    go (Err DataTooLong) is = absurd is
    go (Err BadDataEnd) is = absurd is
    go (Err Truncated) is = absurd is
    go (Err Closed) is = absurd is
    go (Err OutOfMemory) is = absurd is
