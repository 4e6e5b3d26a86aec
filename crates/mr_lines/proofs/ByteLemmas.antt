-- The place of a byte, as a search finds it and as it splits the bytes.
use Rattle.std.proofs.Common.{◌≡◌, ℕ, zero, suc, ◌+◌, ◌<◌, ◌==◌, Bool, true, false, List, [], ◌∷◌, ◌++◌, Option, Some, None, length, get_or, take, drop, refl, ap, sym, ◌∙◌, arith, option_map, if◌then◌else◌, add-one, Contains, eqb-true, eq-eqb, not, cond, ◌≤◌}
use Rattle.std.specs.List.{prefix_len}
use Rattle.memchr.specs.Find.{IsFirstByte, is_byte}
use Rattle.mr_lines.specs.Lines.{byte_place}

-- a search that says where the first such byte is
pub first_byte_is : (wanted : ℕ) (bytes : List ℕ) (r : Option ℕ) → IsFirstByte (is_byte wanted) bytes r → r ≡ byte_place wanted bytes
first_byte_is wanted [] None h = refl
first_byte_is wanted [] (Some k) h = absurd (let x = h.0.high in omega arith)
first_byte_is wanted (b ∷ bs) r h = go (first_byte_is wanted bs) (b == wanted) refl r h
  where
    go : ((r : Option ℕ) → IsFirstByte (is_byte wanted) bs r → r ≡ byte_place wanted bs)
        → (t : Bool) → (b == wanted) ≡ t → (r : Option ℕ) → IsFirstByte (is_byte wanted) (b ∷ bs) r
        → r ≡ (if t then Some 0 else option_map (λ place. place + 1) (byte_place wanted bs))
    go rest true e None h = absurd (h 0 (omega arith) (omega arith) e)
    go rest true e (Some zero) h = refl
    go rest true e (Some (suc k)) h = absurd (h.0.before 0 (omega arith) (omega arith) e)
    go rest false e None h = rw (← rest None (λ k low high is. h (suc k) (omega arith) (omega arith) is)) refl
    go rest false e (Some zero) h = let is = h.1 in cc
    go rest false e (Some (suc k)) h =
        rw (← rest (Some k) (record { low = omega arith; high = let x = h.0.high in omega arith; before = λ j low high is. h.0.before (suc j) (omega arith) (omega arith) is }, h.1)) (ap Some (sym (add-one k)))

-- the byte stands at this place, and not before it
pub record SplitsAt (wanted : ℕ) (bytes : List ℕ) (place : ℕ) : Type 0 where
  pub within : place < length bytes
  pub splits : bytes ≡ take place bytes ++ (wanted ∷ drop (place + 1) bytes)
  pub behind : drop place bytes ≡ wanted ∷ drop (place + 1) bytes
  pub before : byte_place wanted (take place bytes) ≡ None

abbrev Found : ℕ → List ℕ → Option ℕ → Type 0
Found wanted bytes None = Unit {0}
Found wanted bytes (Some place) = SplitsAt wanted bytes place

found : (wanted : ℕ) (bytes : List ℕ) (r : Option ℕ) → byte_place wanted bytes ≡ r → Found wanted bytes r
found wanted [] None e = tt
found wanted [] (Some k) e = cc
found wanted (b ∷ bs) r e = go (found wanted bs) (b == wanted) refl (byte_place wanted bs) refl r e
  where
    go : ((r : Option ℕ) → byte_place wanted bs ≡ r → Found wanted bs r) → (t : Bool) → (b == wanted) ≡ t → (inner : Option ℕ) → byte_place wanted bs ≡ inner → (r : Option ℕ)
        → (if t then Some 0 else option_map (λ place. place + 1) inner) ≡ r → Found wanted (b ∷ bs) r
    go more t is inner inner_is None e = tt
    go more true is inner inner_is (Some k) e =
        let k_is : k ≡ 0 = cc in
        let b_is : b ≡ wanted = eqb-true b wanted is in
        rw (k_is, b_is) (record { within = omega arith; splits = refl; behind = refl; before = refl })
    go more false is None inner_is (Some k) e = cc
    go more false is (Some j) inner_is (Some k) e =
        let k_is : k ≡ suc j = sym (let f : Some (j + 1) ≡ Some k = e in let g : j + 1 ≡ k = cc in sym (add-one j) ∙ g) in
        let rest : SplitsAt wanted bs j = more (Some j) inner_is in
        rw k_is (record {
          within = let w = rest.within in omega arith;
          splits = rw add-one (ap (λ s. b ∷ s) (rw add-one at rest.splits));
          behind = rw add-one (rw add-one at rest.behind);
          before = rw (is, rest.before) refl;
        })

pub place_splits : (wanted : ℕ) (bytes : List ℕ) (place : ℕ) → byte_place wanted bytes ≡ Some place → SplitsAt wanted bytes place
place_splits wanted bytes place e = found wanted bytes (Some place) e

-- the byte behind bytes that don't have it is the first
pub place_behind : (wanted : ℕ) (front after : List ℕ) → byte_place wanted front ≡ None → byte_place wanted (front ++ (wanted ∷ after)) ≡ Some (length front)
place_behind wanted [] after e = let same : (wanted == wanted) ≡ true = eq-eqb wanted wanted refl in rw same refl
place_behind wanted (b ∷ bs) after e = go (place_behind wanted bs after) (b == wanted) refl (byte_place wanted bs) refl e
  where
    go : (byte_place wanted bs ≡ None → byte_place wanted (bs ++ (wanted ∷ after)) ≡ Some (length bs)) → (t : Bool) → (b == wanted) ≡ t → (inner : Option ℕ) → byte_place wanted bs ≡ inner
        → (if t then Some 0 else option_map (λ place. place + 1) inner) ≡ None
        → (if t then Some 0 else option_map (λ place. place + 1) (byte_place wanted (bs ++ (wanted ∷ after)))) ≡ Some (suc (length bs))
    go more true is inner inner_is e = cc
    go more false is None inner_is e = rw (more inner_is) (ap Some (add-one (length bs)))
    go more false is (Some j) inner_is e = cc

-- a byte that is found nowhere isn't among the bytes
pub place_none : (wanted : ℕ) (bytes : List ℕ) → byte_place wanted bytes ≡ None → ¬ Contains bytes wanted
place_none wanted [] e h = let x = h.1 in omega arith
place_none wanted (b ∷ bs) e h = go (place_none wanted bs) (b == wanted) refl (byte_place wanted bs) refl e h.0 h.1 h.2
  where
    go : (byte_place wanted bs ≡ None → ¬ Contains bs wanted) → (t : Bool) → (b == wanted) ≡ t → (inner : Option ℕ) → byte_place wanted bs ≡ inner
        → (if t then Some 0 else option_map (λ place. place + 1) inner) ≡ None
        → (k : ℕ) → k < length (b ∷ bs) → get_or (b ∷ bs) k wanted ≡ wanted → ⊥
    go more true is inner inner_is e k within at = cc
    go more false is (Some j) inner_is e k within at = cc
    go more false is None inner_is e zero within at = let bad : (b == wanted) ≡ true = eq-eqb b wanted at in cc
    go more false is None inner_is e (suc k) within at = more inner_is (k, omega arith, at)

pub none_place : (wanted : ℕ) (bytes : List ℕ) → ¬ Contains bytes wanted → byte_place wanted bytes ≡ None
none_place wanted [] h = refl
none_place wanted (b ∷ bs) h = go (none_place wanted bs (λ c. h (suc c.0, let x = c.1 in omega arith, c.2))) (b == wanted) refl
  where
    go : byte_place wanted bs ≡ None → (t : Bool) → (b == wanted) ≡ t → (if t then Some 0 else option_map (λ place. place + 1) (byte_place wanted bs)) ≡ None
    go more true is = absurd (h (0, omega arith, eqb-true b wanted is))
    go more false is = rw more refl

-- such a byte among the first ones
pub place_by_run : (wanted n : ℕ) (bytes : List ℕ) (run : ℕ) → run ≡ prefix_len (λ byte. not (byte == wanted)) (take n bytes) → run < n → n ≤ length bytes
    → Some run ≡ byte_place wanted bytes
place_by_run wanted zero bytes run e low long = absurd (omega arith)
place_by_run wanted (suc n) [] run e low long = absurd (omega arith)
place_by_run wanted (suc n) (b ∷ bs) run e low long = go (place_by_run wanted n bs) (b == wanted) refl run e low
  where
    go : ((r : ℕ) → r ≡ prefix_len (λ byte. not (byte == wanted)) (take n bs) → r < n → n ≤ length bs → Some r ≡ byte_place wanted bs)
        → (t : Bool) → (b == wanted) ≡ t → (r : ℕ) → r ≡ cond (not t) (1 + prefix_len (λ byte. not (byte == wanted)) (take n bs)) 0 → r < suc n
        → Some r ≡ (if t then Some 0 else option_map (λ place. place + 1) (byte_place wanted bs))
    go more true is r e low = ap Some e
    go more false is r e low =
        rw (← more (prefix_len (λ byte. not (byte == wanted)) (take n bs)) refl (omega arith) (omega arith)) (ap Some (omega arith))

-- none such among the first ones
pub place_past_run : (wanted n : ℕ) (bytes : List ℕ) → n ≤ prefix_len (λ byte. not (byte == wanted)) (take n bytes) → n ≤ length bytes
    → option_map (λ place. n + place) (byte_place wanted (drop n bytes)) ≡ byte_place wanted bytes
place_past_run wanted zero bytes e long = go (byte_place wanted bytes)
  where
    go : (o : Option ℕ) → option_map (λ place. 0 + place) o ≡ o
    go None = refl
    go (Some k) = ap Some (omega arith)
place_past_run wanted (suc n) [] e long = absurd (omega arith)
place_past_run wanted (suc n) (b ∷ bs) e long = go (place_past_run wanted n bs) (b == wanted) refl e
  where
    shift : (o : Option ℕ) → option_map (λ place. suc n + place) o ≡ option_map (λ place. place + 1) (option_map (λ place. n + place) o)
    shift None = refl
    shift (Some k) = ap Some (omega arith)

    go : (n ≤ prefix_len (λ byte. not (byte == wanted)) (take n bs) → n ≤ length bs → option_map (λ place. n + place) (byte_place wanted (drop n bs)) ≡ byte_place wanted bs)
        → (t : Bool) → (b == wanted) ≡ t → suc n ≤ cond (not t) (1 + prefix_len (λ byte. not (byte == wanted)) (take n bs)) 0
        → option_map (λ place. suc n + place) (byte_place wanted (drop n bs)) ≡ (if t then Some 0 else option_map (λ place. place + 1) (byte_place wanted bs))
    go more true is e = absurd (omega arith)
    go more false is e = shift (byte_place wanted (drop n bs)) ∙ ap (option_map (λ place. place + 1)) (more (omega arith) (omega arith))
