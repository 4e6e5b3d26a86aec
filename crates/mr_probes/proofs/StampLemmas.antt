-- The parts of what the data of a set says.
use Rattle.std.proofs.Common.{◌≡◌, ◌∙◌, ℕ, ◌↔◌, List, [], ◌∷◌, ◌++◌, length, take, drop, Option, Some, None, refl, sym, ap, arith, append_assoc, take-append-drop, length-append, length-drop, ◌-◌, suc, zero}
use Rattle.std.proofs.lemmas.List.{drop-drop}
use Rattle.mr_probes.specs.Digits.{number_text, word_text}
use Rattle.mr_probes.specs.Stamp.{stamp_text}
use Rattle.mr_probes.specs.declared.stamp.Stamp.{Stamp}
use Rattle.mr_probes.proofs.DigitsLemmas.{drop_front, length-number_text, length-word_text, take_front}

joined : (a b c d e t u v w : List ℕ) → a ++ u ≡ t → b ++ v ≡ u → c ++ w ≡ v → d ++ e ≡ w → t ≡ a ++ b ++ c ++ d ++ e
joined a b c d e t u v w p q r s =
    sym p ∙ ap (λ x. a ++ x) (sym q ∙ ap (λ x. b ++ x) (sym r ∙ ap (λ x. c ++ x) (sym s)))
    ∙ sym (append_assoc a b (c ++ (d ++ e))) ∙ sym (append_assoc (a ++ b) c (d ++ e)) ∙ sym (append_assoc (a ++ b ++ c) d e)

together : (a b c d e a' b' c' d' e' : List ℕ) → a ≡ a' → b ≡ b' → c ≡ c' → d ≡ d' → e ≡ e' → a ++ b ++ c ++ d ++ e ≡ a' ++ b' ++ c' ++ d' ++ e'
together a b c d e a' b' c' d' e' p q r s t = cc

take_whole : (xs : List ℕ) (n : ℕ) → length xs ≡ n → take n xs ≡ xs
take_whole [] zero e = refl
take_whole [] (suc n) e = refl
take_whole (x ∷ xs) zero e = absurd (omega arith)
take_whole (x ∷ xs) (suc n) e = ap (λ t. x ∷ t) (take_whole xs n (omega arith))

rest_whole : (text : List ℕ) → take (length text - 68) (drop 68 text) ≡ drop 68 text
rest_whole text = take_whole (drop 68 text) (length text - 68) (length-drop 68 text)

-- a text by its first 17 bytes, three times more, and the rest
parts : (text : List ℕ) → text ≡ take 17 text ++ take 17 (drop 17 text) ++ take 17 (drop 34 text) ++ take 17 (drop 51 text) ++ drop 68 text
parts text =
    let d1 : take 17 text ++ drop 17 text ≡ text = take-append-drop 17 text in
    let d2 : take 17 (drop 17 text) ++ drop 34 text ≡ drop 17 text = ap (λ (d : List ℕ). take 17 (drop 17 text) ++ d) (sym (drop-drop 17 17 text)) ∙ take-append-drop 17 (drop 17 text) in
    let d3 : take 17 (drop 34 text) ++ drop 51 text ≡ drop 34 text = ap (λ (d : List ℕ). take 17 (drop 34 text) ++ d) (sym (drop-drop 17 34 text)) ∙ take-append-drop 17 (drop 34 text) in
    let d4 : take 17 (drop 51 text) ++ drop 68 text ≡ drop 51 text = ap (λ (d : List ℕ). take 17 (drop 51 text) ++ d) (sym (drop-drop 17 51 text)) ∙ take-append-drop 17 (drop 51 text) in
    joined (take 17 text) (take 17 (drop 17 text)) (take 17 (drop 34 text)) (take 17 (drop 51 text)) (drop 68 text) text (drop 17 text) (drop 34 text) (drop 51 text) d1 d2 d3 d4

-- the parts of what a set's data says
pub record IsStampText (text : List ℕ) (stamp : Stamp) : Type 0 where
  pub run : take 17 text ≡ word_text stamp.run
  pub key : take 17 (drop 17 text) ≡ word_text stamp.key
  pub value : take 17 (drop 34 text) ≡ word_text stamp.value
  pub client : take 17 (drop 51 text) ≡ word_text stamp.client
  pub time : take (length text - 68) (drop 68 text) ≡ number_text stamp.time

pub text_of : (text : List ℕ) (stamp : Stamp) → IsStampText text stamp → text ≡ stamp_text stamp
unfolding stamp_text
text_of text stamp is = parts text ∙ together (take 17 text) (take 17 (drop 17 text)) (take 17 (drop 34 text)) (take 17 (drop 51 text)) (drop 68 text)
    (word_text stamp.run) (word_text stamp.key) (word_text stamp.value) (word_text stamp.client) (number_text stamp.time) is.run is.key is.value is.client (sym (rest_whole text) ∙ is.time)

module _ (text a b c d e : List ℕ) (la : length a ≡ 17) (lb : length b ≡ 17) (lc : length c ≡ 17) (ld : length d ≡ 17) (same : text ≡ a ++ b ++ c ++ d ++ e) where
  nested : text ≡ a ++ (b ++ (c ++ (d ++ e)))
  nested = same ∙ append_assoc (a ++ b ++ c) d e ∙ append_assoc (a ++ b) c (d ++ e) ∙ append_assoc a b (c ++ (d ++ e))

  behind_17 : drop 17 text ≡ b ++ (c ++ (d ++ e))
  behind_17 = ap (drop 17) nested ∙ drop_front a (b ++ (c ++ (d ++ e))) 17 la

  behind_34 : drop 34 text ≡ c ++ (d ++ e)
  behind_34 = sym (drop-drop 17 17 text) ∙ ap (drop 17) behind_17 ∙ drop_front b (c ++ (d ++ e)) 17 lb

  behind_51 : drop 51 text ≡ d ++ e
  behind_51 = sym (drop-drop 17 34 text) ∙ ap (drop 17) behind_34 ∙ drop_front c (d ++ e) 17 lc

  behind_68 : drop 68 text ≡ e
  behind_68 = sym (drop-drop 17 51 text) ∙ ap (drop 17) behind_51 ∙ drop_front d e 17 ld

  at_0 : take 17 text ≡ a
  at_0 = ap (take 17) nested ∙ take_front a (b ++ (c ++ (d ++ e))) 17 la

  at_17 : take 17 (drop 17 text) ≡ b
  at_17 = ap (take 17) behind_17 ∙ take_front b (c ++ (d ++ e)) 17 lb

  at_34 : take 17 (drop 34 text) ≡ c
  at_34 = ap (take 17) behind_34 ∙ take_front c (d ++ e) 17 lc

  at_51 : take 17 (drop 51 text) ≡ d
  at_51 = ap (take 17) behind_51 ∙ take_front d e 17 ld

pub parts_of : (text : List ℕ) (stamp : Stamp) → text ≡ stamp_text stamp → IsStampText text stamp
unfolding stamp_text
parts_of text stamp same =
    let a = word_text stamp.run in
    let b = word_text stamp.key in
    let c = word_text stamp.value in
    let d = word_text stamp.client in
    let e = number_text stamp.time in
    let la = length-word_text stamp.run in
    let lb = length-word_text stamp.key in
    let lc = length-word_text stamp.value in
    let ld = length-word_text stamp.client in
    record {
      run = at_0 text a b c d e la lb lc ld same;
      key = at_17 text a b c d e la lb lc ld same;
      value = at_34 text a b c d e la lb lc ld same;
      client = at_51 text a b c d e la lb lc ld same;
      time = rest_whole text ∙ behind_68 text a b c d e la lb lc ld same;
    }

pub length-stamp_text : (stamp : Stamp) → length (stamp_text stamp) ≡ 84
unfolding stamp_text
length-stamp_text stamp =
    let a = word_text stamp.run in
    let b = word_text stamp.key in
    let c = word_text stamp.value in
    let d = word_text stamp.client in
    let e = number_text stamp.time in
    omega (
      arith,
      length-append (a ++ b ++ c ++ d) e,
      length-append (a ++ b ++ c) d,
      length-append (a ++ b) c,
      length-append a b,
      length-word_text stamp.run,
      length-word_text stamp.key,
      length-word_text stamp.value,
      length-word_text stamp.client,
      length-number_text stamp.time,
    )

-- where nothing is read, no data says anything
pub unread : (text : List ℕ) (stamp : Stamp) (result : Option Stamp) → result ≡ None → (text ≡ stamp_text stamp → ⊥) → (result ≡ Some stamp) ↔ (text ≡ stamp_text stamp)
unread text stamp result none not = (λ some. absurd (cc), λ same. absurd (not same))

same_stamp : (a b c d e a' b' c' d' e' : ℕ) → a ≡ a' → b ≡ b' → c ≡ c' → d ≡ d' → e ≡ e'
    → ◌≡◌ {A = Stamp} (record { run = a; key = b; value = c; client = d; time = e }) (record { run = a'; key = b'; value = c'; client = d'; time = e' })
same_stamp a b c d e a' b' c' d' e' p q r s t = cc

pub inside : (a b : ℕ) → Some a ≡ Some b → a ≡ b
inside a b e = cc

stamp_inside : (a b : Stamp) → Some a ≡ Some b → a ≡ b
stamp_inside a b e = cc

-- what is read of the parts says what the data says
pub read_so : (text : List ℕ) (stamp : Stamp) (a b c d e : ℕ)
    → (Some a ≡ Some stamp.run) ↔ (take 17 text ≡ word_text stamp.run)
    → (Some b ≡ Some stamp.key) ↔ (take 17 (drop 17 text) ≡ word_text stamp.key)
    → (Some c ≡ Some stamp.value) ↔ (take 17 (drop 34 text) ≡ word_text stamp.value)
    → (Some d ≡ Some stamp.client) ↔ (take 17 (drop 51 text) ≡ word_text stamp.client)
    → (Some e ≡ Some stamp.time) ↔ (take (length text - 68) (drop 68 text) ≡ number_text stamp.time)
    → (Some (record { run = a; key = b; value = c; client = d; time = e }) ≡ Some stamp) ↔ (text ≡ stamp_text stamp)
read_so text stamp a b c d e ra rb rc rd re = (
  λ some.
      let one = stamp_inside (record { run = a; key = b; value = c; client = d; time = e }) stamp some in
      text_of text stamp (record {
        run = ra.0 (ap (λ (s : Stamp). Some s.run) one);
        key = rb.0 (ap (λ (s : Stamp). Some s.key) one);
        value = rc.0 (ap (λ (s : Stamp). Some s.value) one);
        client = rd.0 (ap (λ (s : Stamp). Some s.client) one);
        time = re.0 (ap (λ (s : Stamp). Some s.time) one);
      }),
  λ same.
      let p = parts_of text stamp same in
      ap (λ (s : Stamp). Some s) (same_stamp a b c d e stamp.run stamp.key stamp.value stamp.client stamp.time (inside a stamp.run (ra.1 p.run)) (inside b stamp.key (rb.1 p.key))
      (inside c stamp.value (rc.1 p.value)) (inside d stamp.client (rd.1 p.client)) (inside e stamp.time (re.1 p.time))),
)

-- and what isn't read is none of it
pub none_read : (n : ℕ) → None ≡ Some n → ⊥
none_read n e = cc
