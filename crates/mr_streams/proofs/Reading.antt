-- What a reader has of the bytes that a client sent, and what comes next of them.
use Rattle.std.proofs.Common.{◌≡◌, ◌≢◌, ℕ, inl, inr, Bool, true, false, List, [], ◌++◌, Option, Some, None, Err, refl, sym, ap, ◌∙◌, subst, append_assoc}
use Rattle.std.proofs.lemmas.List.{append-nil}
use Rattle.mr_text.specs.Requests.{SpellsRequest}
use Rattle.mr_text.specs.declared.error.TextError.{TextError}
use Rattle.mr_text.specs.declared.error.TextError.TheVariants.{LineTooLong, BadKey, BadNumber, WrongWords, DataTooLong, BadDataEnd, UnknownCommand, Truncated, Closed, OutOfMemory}
use Rattle.mr_text.specs.declared.request.Request.TheVariants as request
use Rattle.mr_loop.specs.Inboxes.{FetchIs, ReadsOne, TakesHeld}
use Rattle.mr_loop.specs.declared.inbox.Fetched.TheVariants.{Came}
use Rattle.mr_loop.specs.declared.inbox.Inbox.{Inbox}
use Rattle.mr_loop.specs.declared.inbox.Input.{Input}
use Rattle.mr_loop.specs.declared.inbox.Input.TheVariants as input
use Rattle.mr_streams.specs.Served.{IsRefused}
use Rattle.mr_streams.specs.StreamsView.{Visit}

-- the text of what was read of a client; none of bytes that stop inside a request
abbrev pub TextIs : Input → List ℕ → Type 0
TextIs (input.Asks asked) text = SpellsRequest text asked × (asked ≢ request.Quit)
TextIs (input.Refused Truncated) text = text ≡ []
TextIs (input.Refused refusal) text = IsRefused text refusal

-- that of what is held back
abbrev pub HeldIs : Option Input → List ℕ → Type 0
HeldIs None text = text ≡ []
HeldIs (Some next) text = TextIs next text

-- what the reader has of what wasn't read yet; what comes behind the end is lost
pub record ReadsFrom (inbox : Inbox) (tail : List ℕ) : Type 0 where
  pub lost : List ℕ
  pub kept : tail ≡ inbox.reader.kept ++ lost
  pub nothing : inbox.reader.ended ≡ false → lost ≡ []

-- what comes next of what a client sent, behind what was read of it
pub record NextIsRead (visit : Visit) (bytes : List ℕ) (next : Input) (inbox : Inbox) : Type 0 where
  pub text : List ℕ
  pub tail : List ℕ
  pub sent : visit.sent ≡ bytes ++ (text ++ tail)
  pub is : TextIs next text
  pub none_held : inbox.held ≡ None
  pub reads : inbox.reader.closed ≡ false → ReadsFrom inbox tail

held_next : (visit : Visit) (bytes held tail : List ℕ) (next : Input) (old new : Inbox) → visit.sent ≡ bytes ++ (held ++ tail) → HeldIs old.held held
    → (old.reader.closed ≡ false → ReadsFrom old tail) → TakesHeld next old new → NextIsRead visit bytes next new
held_next visit bytes held tail next old new sent holds reads h = record {
  text = held;
  tail = tail;
  sent = sent;
  is = subst (λ o. HeldIs o held) h.held holds;
  none_held = ap (λ (i : Inbox). i.held) h.taken;
  reads = λ open_. (let was = reads (ap (λ (i : Inbox). i.reader.closed) (sym h.taken) ∙ open_) in record {
    lost = was.lost;
    kept = was.kept ∙ ap (λ (i : Inbox). i.reader.kept ++ was.lost) (sym h.taken);
    nothing = λ e. was.nothing (ap (λ (i : Inbox). i.reader.ended) (sym h.taken) ∙ e);
  });
}

-- nothing was held
none_before : (bytes held tail sent : List ℕ) → sent ≡ bytes ++ (held ++ tail) → held ≡ [] → sent ≡ bytes ++ tail
none_before bytes held tail sent e none = e ∙ ap (λ h. bytes ++ (h ++ tail)) none

-- a text was read, and these bytes are left
read_next : (visit : Visit) (bytes tail text after : List ℕ) (next : Input) (old new : Inbox) → visit.sent ≡ bytes ++ tail → (was : ReadsFrom old tail)
    → old.reader.kept ≡ text ++ after → TextIs next text → new.held ≡ None → new.reader.kept ≡ after → new.reader.ended ≡ old.reader.ended → NextIsRead visit bytes next new
read_next visit bytes tail text after next old new sent was splits is none kept ended = record {
  text = text;
  tail = after ++ was.lost;
  sent = sent ∙ ap (λ x. bytes ++ x) (was.kept ∙ ap (λ x. x ++ was.lost) splits ∙ append_assoc text after was.lost);
  is = is;
  none_held = none;
  reads = λ _. record { lost = was.lost; kept = ap (λ x. x ++ was.lost) (sym kept); nothing = λ e. was.nothing (sym ended ∙ e) };
}

-- all that was kept is refused, and nothing more is read
closed_next : (visit : Visit) (bytes tail : List ℕ) (next : Input) (old new : Inbox) → visit.sent ≡ bytes ++ tail → (was : ReadsFrom old tail) → TextIs next old.reader.kept
    → new.held ≡ None → new.reader.closed ≡ true → NextIsRead visit bytes next new
closed_next visit bytes tail next old new sent was is none closed = record {
  text = old.reader.kept;
  tail = was.lost;
  sent = sent ∙ ap (λ x. bytes ++ x) was.kept;
  is = is;
  none_held = none;
  reads = λ e. absurd (let never : true ≡ false = sym closed ∙ e in cc);
}

refused_next : (refusal : TextError) (is_done : Bool) (visit : Visit) (bytes tail : List ℕ) (old new : Inbox) → visit.sent ≡ bytes ++ tail → (old.reader.closed ≡ false → ReadsFrom old tail)
    → ReadsOne old (Err refusal) is_done new → refusal ≢ Closed → refusal ≢ OutOfMemory → NextIsRead visit bytes (input.Refused refusal) new
refused_next LineTooLong is_done visit bytes tail old new sent reads r a b = closed_next visit bytes tail (input.Refused LineTooLong) old new sent (reads r.next.0) r.next.1 r.same_held r.next.2.is_closed
refused_next BadKey is_done visit bytes tail old new sent reads r a b = closed_next visit bytes tail (input.Refused BadKey) old new sent (reads r.next.0) r.next.1 r.same_held r.next.2.is_closed
refused_next BadNumber is_done visit bytes tail old new sent reads r a b = closed_next visit bytes tail (input.Refused BadNumber) old new sent (reads r.next.0) r.next.1 r.same_held r.next.2.is_closed
refused_next WrongWords is_done visit bytes tail old new sent reads r a b = closed_next visit bytes tail (input.Refused WrongWords) old new sent (reads r.next.0) r.next.1 r.same_held r.next.2.is_closed
refused_next DataTooLong is_done visit bytes tail old new sent reads r a b = closed_next visit bytes tail (input.Refused DataTooLong) old new sent (reads r.next.0) r.next.1 r.same_held r.next.2.is_closed
refused_next BadDataEnd is_done visit bytes tail old new sent reads r a b = closed_next visit bytes tail (input.Refused BadDataEnd) old new sent (reads r.next.0) r.next.1 r.same_held r.next.2.is_closed
refused_next (UnknownCommand true) is_done visit bytes tail old new sent reads r a b =
    closed_next visit bytes tail (input.Refused (UnknownCommand true)) old new sent (reads r.next.0) r.next.1 r.same_held r.next.2.is_closed
refused_next (UnknownCommand false) is_done visit bytes tail old new sent reads r a b =
    let skips = r.next.2 in
    read_next visit bytes tail skips.line r.next.1 (input.Refused (UnknownCommand false)) old new sent (reads r.next.0) skips.splits
    (record { words = skips.words; line = skips.line; splits = sym (append-nil skips.line); is_line = skips.is_line; unknown = skips.unknown })
    r.same_held r.next.3.stands r.next.3.is_ended
refused_next Truncated is_done visit bytes tail old new sent reads r a b = record {
  text = [];
  tail = tail;
  sent = sent;
  is = refl;
  none_held = r.same_held;
  reads = λ e. absurd (let never : true ≡ false = sym r.next.3.is_closed ∙ e in cc);
}
refused_next Closed is_done visit bytes tail old new sent reads r a b = absurd (a refl)
refused_next OutOfMemory is_done visit bytes tail old new sent reads r a b = absurd (b refl)

pub fetch_next : (next : Input) (visit : Visit) (bytes held tail : List ℕ) (old new : Inbox) → visit.sent ≡ bytes ++ (held ++ tail) → HeldIs old.held held
    → (old.reader.closed ≡ false → ReadsFrom old tail) → FetchIs old (Came next) new → NextIsRead visit bytes next new
fetch_next (input.Asks asked) visit bytes held tail old new sent holds reads h =
    elim h [
      | inl takes ↦ held_next visit bytes held tail (input.Asks asked) old new sent holds reads takes
      | inr r ↦ (
          let none : held ≡ [] = subst (λ o. HeldIs o held) r.0.none_held holds in
          let begins = r.0.next.2 in
          read_next visit bytes tail begins.spelling r.0.next.1 (input.Asks asked) old new (none_before bytes held tail visit.sent sent none) (reads r.0.next.0) begins.splits
          (begins.spells, r.1) r.0.same_held r.0.next.3.stands r.0.next.3.is_ended)
    ]
fetch_next (input.Refused refusal) visit bytes held tail old new sent holds reads h =
    elim h [
      | inl takes ↦ held_next visit bytes held tail (input.Refused refusal) old new sent holds reads takes
      | inr r ↦ (
          let none : held ≡ [] = subst (λ o. HeldIs o held) r.0.none_held holds in
          refused_next refusal _ visit bytes tail old new (none_before bytes held tail visit.sent sent none) reads r.0 r.1 r.2)
    ]
