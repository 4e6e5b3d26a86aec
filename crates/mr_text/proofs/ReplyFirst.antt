-- What the first line of a reply says, as the reading finds it.
use Rattle.std.proofs.Common.{◌≡◌, ◌≢◌, ℕ, zero, suc, ◌<◌, Bool, true, false, List, [], ◌∷◌, length, drop, Contains, Result, Ok, Err, refl, sym, ap, subst, arith, codes, if◌then◌else◌, inl, inr, slice_index_or}
use Rattle.std.specs.List.{list_any}
use Rattle.std.specs.Str.{bytes_eq}
use Rattle.mr_lines.specs.Words.{drop_spaces}
use Rattle.mr_text.specs.Replies.{lone_words, reply_words, IsUnknownReply, AreWrongReply, cause_of}
use Rattle.mr_text.specs.steps.ReplyReading.{ReplyLine, item_line, lone_line, first_line}
use Rattle.mr_text.specs.steps.ReplyReading.ReplyLine.{ItemLine, EndLine, LoneLine}
use Rattle.mr_text.specs.declared.error.TextError.{TextError}
use Rattle.mr_text.specs.declared.error.TextError.TheVariants.{LineTooLong, BadKey, BadNumber, WrongWords, DataTooLong, BadDataEnd, UnknownCommand, Truncated, Closed, OutOfMemory}
use Rattle.mr_text.specs.declared.reply.Reply.{Reply}
use Rattle.mr_text.specs.declared.reply.Reply.TheVariants.{Items, Stored, Deleted, NotFound, Error, ClientError, ServerError}
use Rattle.mr_text.proofs.ReplyLines.{ItemIs, item_is, wrong_item_found}
use Rattle.mr_text.proofs.ReplySteps.{LineSays}
use Rattle.mr_text.proofs.Texts.{text_true, true_among, not_among}

-- the text behind the error's word
abbrev pub error_text : List ℕ → List ℕ → List ℕ
error_text word line = drop 1 (drop (length word) (drop_spaces line))

-- a line by itself
abbrev pub LoneIs : List ℕ → List (List ℕ) → Reply → Type 0
LoneIs line words (Items items) = ⊥
LoneIs line words Stored = words ≡ codes "STORED" ∷ []
LoneIs line words Deleted = words ≡ codes "DELETED" ∷ []
LoneIs line words NotFound = words ≡ codes "NOT_FOUND" ∷ []
LoneIs line words Error = words ≡ codes "ERROR" ∷ []
LoneIs line words (ClientError cause) = (behind : List (List ℕ)) × (words ≡ codes "CLIENT_ERROR" ∷ behind) × (cause ≡ cause_of (error_text (codes "CLIENT_ERROR") line))
LoneIs line words (ServerError cause) = (behind : List (List ℕ)) × (words ≡ codes "SERVER_ERROR" ∷ behind) × (cause ≡ cause_of (error_text (codes "SERVER_ERROR") line))

abbrev pub FirstIs : List ℕ → List (List ℕ) → Result ReplyLine TextError → Type 0
FirstIs line words (Ok (LoneLine reply)) = LoneIs line words reply
FirstIs line words (Err (UnknownCommand true)) = IsUnknownReply words
FirstIs line words (Err (UnknownCommand false)) = ⊥
FirstIs line words r = LineSays 0 words r

module _ (line : List ℕ) where
  lone_is : (text : List ℕ) → Contains lone_words text → (said : ReplyLine) → FirstIs line (text ∷ []) (Ok said) → (words : List (List ℕ))
      → FirstIs line (text ∷ words) (lone_line said words)
  lone_is text lone said is [] = is
  lone_is text lone said is (word ∷ words) = inl (lone, λ e. cc)

  value_is : (behind : List (List ℕ)) → FirstIs line (codes "VALUE" ∷ behind) (item_line behind)
  value_is behind = go (item_line behind) (item_is behind)
    where
      go : (r : Result ReplyLine TextError) → ItemIs behind r → FirstIs line (codes "VALUE" ∷ behind) r
      go (Ok (ItemLine key flags block_length)) is = (omega arith, behind, refl, is.0, is.1)
      go (Ok EndLine) is = absurd is
      go (Ok (LoneLine reply)) is = absurd is
      go (Err WrongWords) is = inr (refl, is)
      go (Err BadKey) is = (omega arith, behind, refl, is)
      go (Err BadNumber) is = (omega arith, behind, refl, is)
      go (Err DataTooLong) is = (omega arith, behind, refl, is)
      go (Err (UnknownCommand closes)) is = absurd is
      go (Err LineTooLong) is = absurd is
      go (Err BadDataEnd) is = absurd is
      go (Err Truncated) is = absurd is
      go (Err Closed) is = absurd is
      go (Err OutOfMemory) is = absurd is

  module _ (word : List ℕ) (words : List (List ℕ)) where
    at : (text : List ℕ) (r : Result ReplyLine TextError) → bytes_eq word text ≡ true → FirstIs line (text ∷ words) r → FirstIs line (word ∷ words) r
    at text r e h = subst (λ w. FirstIs line (w ∷ words) r) (sym (text_true word text e)) h

    either : (text : List ℕ) (r s : Result ReplyLine TextError) → (bytes_eq word text ≡ true → FirstIs line (word ∷ words) r)
        → (bytes_eq word text ≡ false → FirstIs line (word ∷ words) s) → FirstIs line (word ∷ words) (if bytes_eq word text then r else s)
    either text r s passes fails = go (bytes_eq word text) passes fails
      where
        go : (t : Bool) → (t ≡ true → FirstIs line (word ∷ words) r) → (t ≡ false → FirstIs line (word ∷ words) s) → FirstIs line (word ∷ words) (if t then r else s)
        go true passes fails = passes refl
        go false passes fails = fails refl

    client_is : bytes_eq word (codes "CLIENT_ERROR") ≡ true → FirstIs line (word ∷ words) (Ok (LoneLine (ClientError (cause_of (error_text word line)))))
    client_is e = let is = text_true word (codes "CLIENT_ERROR") e in (words, ap (λ w. w ∷ words) is, ap (λ w. cause_of (error_text w line)) is)

    server_is : bytes_eq word (codes "SERVER_ERROR") ≡ true → FirstIs line (word ∷ words) (Ok (LoneLine (ServerError (cause_of (error_text word line)))))
    server_is e = let is = text_true word (codes "SERVER_ERROR") e in (words, ap (λ w. w ∷ words) is, ap (λ w. cause_of (error_text w line)) is)

    unknown_is : bytes_eq word (codes "STORED") ≡ false → bytes_eq word (codes "DELETED") ≡ false → bytes_eq word (codes "NOT_FOUND") ≡ false
        → bytes_eq word (codes "ERROR") ≡ false → bytes_eq word (codes "END") ≡ false → bytes_eq word (codes "VALUE") ≡ false
        → bytes_eq word (codes "CLIENT_ERROR") ≡ false → bytes_eq word (codes "SERVER_ERROR") ≡ false → ¬ Contains reply_words word
    unknown_is a b c d e f g h known = let found = true_among word reply_words known in let none = rw (a, b, c, d, e, f, g, h) at found in cc

  pub first_is : (words : List (List ℕ)) → FirstIs line words (first_line line words)
  unfolding first_line
  first_is [] = tt
  first_is (word ∷ words) =
      either word words (codes "STORED") _ _ (λ e. at word words (codes "STORED") _ e (lone_is (codes "STORED") (0, omega arith, refl) (LoneLine Stored) refl words))
      (λ a. either word words (codes "DELETED") _ _ (λ e. at word words (codes "DELETED") _ e (lone_is (codes "DELETED") (1, omega arith, refl) (LoneLine Deleted) refl words))
      (λ b. either word words (codes "NOT_FOUND") _ _ (λ e. at word words (codes "NOT_FOUND") _ e (lone_is (codes "NOT_FOUND") (2, omega arith, refl) (LoneLine NotFound) refl words))
      (λ c. either word words (codes "ERROR") _ _ (λ e. at word words (codes "ERROR") _ e (lone_is (codes "ERROR") (3, omega arith, refl) (LoneLine Error) refl words))
      (λ d. either word words (codes "END") _ _ (λ e. at word words (codes "END") _ e (lone_is (codes "END") (4, omega arith, refl) EndLine refl words))
      (λ n. either word words (codes "VALUE") _ _ (λ e. at word words (codes "VALUE") _ e (value_is words))
      (λ f. either word words (codes "CLIENT_ERROR") _ _ (λ e. client_is word words e)
      (λ g. either word words (codes "SERVER_ERROR") _ _ (λ e. server_is word words e) (λ h. unknown_is word words a b c d n f g h))))))))

-- the lines that are read so
pub value_first : (line : List ℕ) (behind : List (List ℕ)) → first_line line (codes "VALUE" ∷ behind) ≡ item_line behind
unfolding first_line
value_first line behind = refl

pub end_first : (line : List ℕ) → first_line line (codes "END" ∷ []) ≡ Ok EndLine
unfolding first_line
end_first line = refl

pub lone_first : (line : List ℕ) (words : List (List ℕ)) (reply : Reply) → LoneIs line words reply → first_line line words ≡ Ok (LoneLine reply)
unfolding first_line
lone_first line words (Items items) h = absurd h
lone_first line words Stored h = rw h refl
lone_first line words Deleted h = rw h refl
lone_first line words NotFound h = rw h refl
lone_first line words Error h = rw h refl
lone_first line words (ClientError cause) h = rw (h.1, h.2) refl
lone_first line words (ServerError cause) h = rw (h.1, h.2) refl

-- a lone word begins a reply
lone_replies : (word : List ℕ) (k : ℕ) → k < length lone_words → slice_index_or lone_words k word ≡ word → Contains reply_words word
lone_replies word zero within is = (0, omega arith, is)
lone_replies word (suc zero) within is = (1, omega arith, is)
lone_replies word (suc (suc zero)) within is = (2, omega arith, is)
lone_replies word (suc (suc (suc zero))) within is = (3, omega arith, is)
lone_replies word (suc (suc (suc (suc zero)))) within is = (4, omega arith, is)
lone_replies word (suc (suc (suc (suc (suc k))))) within is = absurd (omega arith)

unknown_word : (line word : List ℕ) (words : List (List ℕ)) → ¬ Contains reply_words word → (r : Result ReplyLine TextError) → FirstIs line (word ∷ words) r → r ≡ Err (UnknownCommand true)
unknown_word line word words h r is = go r is
  where
    known : (place : ℕ) (text : List ℕ) (behind : List (List ℕ)) → (word ∷ words) ≡ text ∷ behind → Contains reply_words text → ⊥
    known place text behind e k = h (subst (Contains reply_words) (let first : text ≡ word = cc in first) k)

    value : (behind : List (List ℕ)) → (word ∷ words) ≡ codes "VALUE" ∷ behind → ⊥
    value behind e = known 5 (codes "VALUE") behind e (5, omega arith, refl)

    wrong : AreWrongReply 0 (word ∷ words) → ⊥
    wrong (inl ((place, within, there), more)) = h (lone_replies word place within there)
    wrong (inr is) = value words (ap (λ w. w ∷ words) is.0)

    go : (r : Result ReplyLine TextError) → FirstIs line (word ∷ words) r → r ≡ Err (UnknownCommand true)
    go (Ok (LoneLine Stored)) is = absurd (known 0 _ _ is (0, omega arith, refl))
    go (Ok (LoneLine Deleted)) is = absurd (known 1 _ _ is (1, omega arith, refl))
    go (Ok (LoneLine NotFound)) is = absurd (known 2 _ _ is (2, omega arith, refl))
    go (Ok (LoneLine Error)) is = absurd (known 3 _ _ is (3, omega arith, refl))
    go (Ok (LoneLine (ClientError cause))) is = absurd (known 6 _ _ is.1 (6, omega arith, refl))
    go (Ok (LoneLine (ServerError cause))) is = absurd (known 7 _ _ is.1 (7, omega arith, refl))
    go (Ok (LoneLine (Items items))) is = absurd is
    go (Ok EndLine) is = absurd (known 4 _ _ is (4, omega arith, refl))
    go (Ok (ItemLine key flags block_length)) is = absurd (value is.1 is.2)
    go (Err (UnknownCommand true)) is = refl
    go (Err (UnknownCommand false)) is = absurd is
    go (Err WrongWords) is = absurd (wrong is)
    go (Err BadKey) is = absurd (value is.1 is.2)
    go (Err BadNumber) is = absurd (value is.1 is.2)
    go (Err DataTooLong) is = absurd (value is.1 is.2)
    go (Err LineTooLong) is = absurd is
    go (Err BadDataEnd) is = absurd is
    go (Err Truncated) is = absurd is
    go (Err Closed) is = absurd is
    go (Err OutOfMemory) is = absurd is

pub unknown_first : (line : List ℕ) (words : List (List ℕ)) → IsUnknownReply words → first_line line words ≡ Err (UnknownCommand true)
unfolding first_line
unknown_first line [] h = refl
unknown_first line (word ∷ words) h = unknown_word line word words h (first_line line (word ∷ words)) (first_is line (word ∷ words))

-- a lone word with others behind it
lone_wrong : (words : List (List ℕ)) → words ≢ [] → (said : ReplyLine) → lone_line said words ≡ Err WrongWords
lone_wrong [] more said = absurd (more refl)
lone_wrong (word ∷ words) more said = refl

lone_at : (line word : List ℕ) (words : List (List ℕ)) → words ≢ [] → (k : ℕ) → k < length lone_words → slice_index_or lone_words k word ≡ word
    → first_line line (word ∷ words) ≡ Err WrongWords
unfolding first_line
lone_at line word words more zero within is = rw (← is) (lone_wrong words more (LoneLine Stored))
lone_at line word words more (suc zero) within is = rw (← is) (lone_wrong words more (LoneLine Deleted))
lone_at line word words more (suc (suc zero)) within is = rw (← is) (lone_wrong words more (LoneLine NotFound))
lone_at line word words more (suc (suc (suc zero))) within is = rw (← is) (lone_wrong words more (LoneLine Error))
lone_at line word words more (suc (suc (suc (suc zero)))) within is = rw (← is) (lone_wrong words more EndLine)
lone_at line word words more (suc (suc (suc (suc (suc k))))) within is = absurd (omega arith)

pub wrong_first : (line : List ℕ) (words : List (List ℕ)) → AreWrongReply 0 words → first_line line words ≡ Err WrongWords
unfolding first_line
wrong_first line [] h = absurd h
wrong_first line (word ∷ words) (inl ((place, within, there), more)) = lone_at line word words more place within there
wrong_first line (word ∷ words) (inr is) = rw is.0 (wrong_item_found words is.1)

-- the first line by its word, where a test of the word tells it
module _ (line : List ℕ) (words : List (List ℕ)) (word : List ℕ) (behind : List (List ℕ)) (are : words ≡ word ∷ behind) where
  pub value_line : bytes_eq word (codes "VALUE") ≡ true → first_line line words ≡ item_line behind
  unfolding first_line
  value_line is = rw (are, text_true word (codes "VALUE") is) refl

  pub client_error_line : (rest text : List ℕ) → bytes_eq word (codes "CLIENT_ERROR") ≡ true → rest ≡ drop (length word) (drop_spaces line) → text ≡ drop 1 rest
      → first_line line words ≡ Ok (LoneLine (ClientError (cause_of text)))
  unfolding first_line
  client_error_line rest text is left said = rw (are, said, left, text_true word (codes "CLIENT_ERROR") is) refl

  pub server_error_line : (rest text : List ℕ) → bytes_eq word (codes "SERVER_ERROR") ≡ true → rest ≡ drop (length word) (drop_spaces line) → text ≡ drop 1 rest
      → first_line line words ≡ Ok (LoneLine (ServerError (cause_of text)))
  unfolding first_line
  server_error_line rest text is left said = rw (are, said, left, text_true word (codes "SERVER_ERROR") is) refl

  pub unknown_line : bytes_eq word (codes "VALUE") ≡ false → bytes_eq word (codes "CLIENT_ERROR") ≡ false → bytes_eq word (codes "SERVER_ERROR") ≡ false
      → list_any (bytes_eq word) lone_words ≡ false → first_line line words ≡ Err (UnknownCommand true)
  unfolding first_line
  unknown_line value client server lone =
      let stored = not_among word (codes "STORED") lone_words lone (0, omega arith, refl) in
      let deleted = not_among word (codes "DELETED") lone_words lone (1, omega arith, refl) in
      let not_found = not_among word (codes "NOT_FOUND") lone_words lone (2, omega arith, refl) in
      let error = not_among word (codes "ERROR") lone_words lone (3, omega arith, refl) in
      let end = not_among word (codes "END") lone_words lone (4, omega arith, refl) in
      rw (are, stored, deleted, not_found, error, end, value, client, server) refl
