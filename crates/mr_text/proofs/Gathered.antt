-- What goes out of a text that is gathered, piece by piece.
use Rattle.std.proofs.Common.{◌≡◌, ℕ, suc, ◌+◌, ◌<◌, ◌≤◌, ◌⊎◌, inl, inr, List, [], ◌∷◌, ◌++◌, length, take, drop, get_or, flat_map, take-append-drop, drop-cons, length-append, arith, refl, sym, ap, ◌∙◌, append-nil, append_assoc, Result, Ok, Err, subst, take-suc, zero, codes}
use Rattle.std.proofs.lemmas.Bool.{cases_lt}
use Rattle.std.proofs.lemmas.Grind.{flat_map-append, common_steps}
use Rattle.mr_text.specs.Canonical.{spaced, line_end}
use Rattle.mr_text.specs.Gathering.{HasGathered, Gathers, Costs, IsFew, IsFewAtFault, TakesFewCalls, owes}
use Rattle.mr_text.specs.Limits.{FIXED_BUFFER}
use Rattle.mr_text.specs.Sink.{SinkView, HasStopped, Writes}
use Rattle.mr_text.specs.declared.error.WriteFault.{WriteFault}
use Rattle.mr_text.proofs.Writes.{written_none, written_then, stopped_behind, stopped_before, writes_behind}

both_fit : (a t b : ℕ) → (0 < a → b + a ≤ FIXED_BUFFER) → (0 < t → (b + a) + t ≤ FIXED_BUFFER) → 0 < a + t → b + (a + t) ≤ FIXED_BUFFER
both_fit a zero b f g some = let h = f (omega arith) in omega arith
both_fit a (suc t) b f g some = let h = g (omega arith) in omega arith

few_then : (a t b c b' c' b'' c'' : ℕ) → IsFew a b c b' c' → IsFew t b' c' b'' c'' → IsFew (a + t) b c b'' c''
few_then a t b c b' c' b'' c'' (inl (fits, same, grown)) (inl (fits', same', grown')) =
    inl (both_fit a t b fits (λ some. let h = fits' some in omega arith), same' ∙ same, omega arith)
few_then a t b c b' c' b'' c'' (inl (fits, same, grown)) (inr (over, few)) =
    inr (omega arith, λ short. let f = few (omega arith) in (f.0 ∙ ap (λ n. n + 1) same, let g = f.1 in omega arith))
few_then a t b c b' c' b'' c'' (inr (over, few)) (inl (fits, same, grown)) =
    inr (omega arith, λ short. let f = few (omega arith) in let g = f.1 in (same ∙ f.0, omega arith))
few_then a t b c b' c' b'' c'' (inr (over, few)) (inr (over', few')) =
    inr (omega arith, λ short. let f = few (omega arith) in let g = f.1 in absurd (omega arith))

fault_then : (a t b c b' c' c'' : ℕ) → IsFew a b c b' c' → IsFewAtFault t b' c' c'' → IsFewAtFault (a + t) b c c''
fault_then a t b c b' c' c'' (inl (fits, same, grown)) (over, few) = (omega arith, λ short. few (omega arith) ∙ ap (λ n. n + 1) same)
fault_then a t b c b' c' c'' (inr (over, few)) (over', few') =
    (omega arith, λ short. let f = few (omega arith) in let g = f.1 in absurd (omega arith))

fault_before : (a t b c c' : ℕ) → IsFewAtFault a b c c' → IsFewAtFault (a + t) b c c'
fault_before a t b c c' (over, few) = (omega arith, λ short. few (omega arith))

-- nothing
pub gathered_none : (buffer : List ℕ) (w : SinkView) → HasGathered [] buffer w buffer w
gathered_none buffer w = record { sent = []; splits = append-nil buffer; wrote = written_none w; few = inl (λ some. absurd (omega arith), refl, omega arith) }

-- one text, and another behind it
pub gathered_then : (a t b b' b'' : List ℕ) (old mid new : SinkView) → HasGathered a b old b' mid → HasGathered t b' mid b'' new → HasGathered (a ++ t) b old b'' new
gathered_then a t b b' b'' old mid new first second =
    record {
      sent = first.sent ++ second.sent;
      splits = sym (append_assoc b a t) ∙ ap (λ l. l ++ t) first.splits ∙ append_assoc first.sent b' t ∙ ap (λ l. first.sent ++ l) second.splits
          ∙ sym (append_assoc first.sent second.sent b'');
      wrote = written_then first.sent second.sent old mid new first.wrote second.wrote;
      few = rw (length-append a t) (few_then (length a) (length t) (length b) old.calls (length b') mid.calls (length b'') new.calls first.few second.few);
    }

-- one text, and what another leaves
pub gathers_behind : (a t b b' b'' : List ℕ) (old mid new : SinkView) (result : Result (Unit {0}) WriteFault) → HasGathered a b old b' mid
    → Gathers t b' mid result b'' new → Gathers (a ++ t) b old result b'' new
gathers_behind a t b b' b'' old mid new (Ok _) first then = gathered_then a t b b' b'' old mid new first then
gathers_behind a t b b' b'' old mid new (Err e) first (stop, few) =
    let whole : b ++ (a ++ t) ≡ first.sent ++ (b' ++ t) = sym (append_assoc b a t) ∙ ap (λ l. l ++ t) first.splits ∙ append_assoc first.sent b' t in (
      subst (λ l. HasStopped l old new) (sym whole) (stopped_behind first.sent (b' ++ t) old mid new first.wrote stop),
      rw (length-append a t) (fault_then (length a) (length t) (length b) old.calls (length b') mid.calls new.calls first.few few),
    )

-- one text that stops, whatever stands behind it
pub gathers_before : (a t b b' : List ℕ) (old new : SinkView) (e : WriteFault) → Gathers a b old (Err e) b' new → Gathers (a ++ t) b old (Err e) b' new
gathers_before a t b b' old new e (stop, few) = (
  subst (λ l. HasStopped l old new) (append_assoc b a t) (stopped_before (b ++ a) t old new stop),
  rw (length-append a t) (fault_before (length a) (length t) (length b) old.calls new.calls few),
)

-- one text, and what two others leave
pub gathers_pair : (a s t b b' b'' : List ℕ) (old mid new : SinkView) (result : Result (Unit {0}) WriteFault) → HasGathered a b old b' mid
    → Gathers (s ++ t) b' mid result b'' new → Gathers (a ++ s ++ t) b old result b'' new
gathers_pair a s t b b' b'' old mid new result first then =
    subst (λ l. Gathers l b old result b'' new) (sym (append_assoc a s t)) (gathers_behind a (s ++ t) b b' b'' old mid new result first then)

-- one text that stops, whatever two others stand behind it
pub gathers_before_pair : (a s t b b' : List ℕ) (old new : SinkView) (e : WriteFault) → Gathers a b old (Err e) b' new → Gathers (a ++ s ++ t) b old (Err e) b' new
gathers_before_pair a s t b b' old new e stop = gathers_before (a ++ s) t b b' old new e (gathers_before a s b b' old new e stop)

-- a list of texts, cut at one of them
cut_at : {X : Type 0} (text : X → List ℕ) (xs : List X) (i : ℕ) (d : X) → i < length xs
    → flat_map text xs ≡ flat_map text (take i xs) ++ (text (get_or xs i d) ++ flat_map text (drop (suc i) xs))
cut_at text xs i d low =
    let cut : xs ≡ take i xs ++ (get_or xs i d ∷ drop (suc i) xs) = sym (take-append-drop i xs) ∙ ap (λ l. take i xs ++ l) (drop-cons xs i d low) in
    ap (flat_map text) cut ∙ flat_map-append text (take i xs) (get_or xs i d ∷ drop (suc i) xs)

taken_at : {X : Type 0} (text : X → List ℕ) (xs : List X) (i : ℕ) (d : X) → i < length xs
    → flat_map text (take (i + 1) xs) ≡ flat_map text (take i xs) ++ text (get_or xs i d)
taken_at text xs i d low =
    let next : i + 1 ≡ suc i = omega arith in
    ap (λ n. flat_map text (take n xs)) next ∙ ap (flat_map text) (take-suc xs i d low) ∙ flat_map-append text (take i xs) (get_or xs i d ∷ [])
    ∙ ap (λ l. flat_map text (take i xs) ++ l) (append-nil (text (get_or xs i d)))

-- those before, and what the next leaves when it stops
pub gathers_piece : {X : Type 0} (text : X → List ℕ) (xs : List X) (i : ℕ) (d : X) (b b' b'' : List ℕ) (old mid new : SinkView) (e : WriteFault) → i < length xs
    → HasGathered (flat_map text (take i xs)) b old b' mid → Gathers (text (get_or xs i d)) b' mid (Err e) b'' new → Gathers (flat_map text xs) b old (Err e) b'' new
gathers_piece text xs i d b b' b'' old mid new e low first stop =
    let x = get_or xs i d in
    let rest = flat_map text (drop (suc i) xs) in
    let behind = gathers_behind (flat_map text (take i xs)) (text x ++ rest) b b' b'' old mid new (Err e) first (gathers_before (text x) rest b' b'' mid new e stop) in
    subst (λ l. Gathers l b old (Err e) b'' new) (sym (cut_at text xs i d low)) behind

-- those before, and the next
pub gathered_piece : {X : Type 0} (text : X → List ℕ) (xs : List X) (i : ℕ) (d : X) (b b' b'' : List ℕ) (old mid new : SinkView) → i < length xs
    → HasGathered (flat_map text (take i xs)) b old b' mid → HasGathered (text (get_or xs i d)) b' mid b'' new → HasGathered (flat_map text (take (i + 1) xs)) b old b'' new
gathered_piece text xs i d b b' b'' old mid new low first next =
    subst (λ l. HasGathered l b old b'' new) (sym (taken_at text xs i d low)) (gathered_then (flat_map text (take i xs)) (text (get_or xs i d)) b b' b'' old mid new first next)

-- a buffer owes one call at most, and none where no more than a line end stands in it
pub owes_most : (b : List ℕ) → owes b ≤ 1
owes_most [] = omega arith
owes_most (x ∷ []) = omega arith
owes_most (x ∷ y ∷ []) = omega arith
owes_most (x ∷ y ∷ z ∷ more) = omega arith

pub owes_none : (b : List ℕ) → length b ≤ 2 → owes b ≡ 0
owes_none [] short = refl
owes_none (x ∷ []) short = refl
owes_none (x ∷ y ∷ []) short = refl
owes_none (x ∷ y ∷ z ∷ more) short = absurd (omega arith)

pub owes_one : (b : List ℕ) → 2 < length b → owes b ≡ 1
owes_one [] long = absurd (omega arith)
owes_one (x ∷ []) long = absurd (omega arith)
owes_one (x ∷ y ∷ []) long = absurd (omega arith)
owes_one (x ∷ y ∷ z ∷ more) long = refl

-- what a block costs, by what its bytes and its line end take
module _ (block b b1 : List ℕ) (c c1 : ℕ) (few : IsFew (length block) (length b) c (length b1) c1) (long : FIXED_BUFFER < length block → (c1 ≤ c + 2) × (b1 ≡ [])) where
  after_block : (c1 ≤ c + 1) ⊎ ((c1 ≤ c + 2) × (b1 ≡ []))
  after_block = by_length (cases_lt FIXED_BUFFER (length block)) few
    where
      by_length : (FIXED_BUFFER < length block) ⊎ (length block ≤ FIXED_BUFFER) → IsFew (length block) (length b) c (length b1) c1 → (c1 ≤ c + 1) ⊎ ((c1 ≤ c + 2) × (b1 ≡ []))
      by_length (inl over) h = inr (long over)
      by_length (inr short) (inl (fits, same, grown)) = inl (omega arith)
      by_length (inr short) (inr (over, small)) = let s = (small short).0 in inl (omega arith)

  pub block_costs : (b2 : List ℕ) (c2 : ℕ) → IsFew 2 (length b1) c1 (length b2) c2 → c2 + owes b2 ≤ c + 2
  block_costs b2 c2 end = go after_block end
    where
      go : (c1 ≤ c + 1) ⊎ ((c1 ≤ c + 2) × (b1 ≡ [])) → IsFew 2 (length b1) c1 (length b2) c2 → c2 + owes b2 ≤ c + 2
      go (inl low) (inl (fits, same, grown)) = let o = owes_most b2 in omega arith
      go (inl low) (inr (over, small)) = let s = small (omega arith) in let t = s.0 in let o = owes_none b2 s.1 in omega arith
      go (inr (low, none)) (inl (fits, same, grown)) = let z = ap (λ (l : List ℕ). length l) none in let o = owes_none b2 (omega arith) in omega arith
      go (inr (low, none)) (inr (over, small)) = let z = ap (λ (l : List ℕ). length l) none in absurd (omega arith)

  pub block_stops : (c2 : ℕ) → IsFewAtFault 2 (length b1) c1 c2 → c2 ≤ c + 2
  block_stops c2 (over, small) = go after_block
    where
      go : (c1 ≤ c + 1) ⊎ ((c1 ≤ c + 2) × (b1 ≡ [])) → c2 ≤ c + 2
      go (inl low) = let t = small (omega arith) in omega arith
      go (inr (low, none)) = let z = ap (λ (l : List ℕ). length l) none in absurd (omega arith)

-- a block, and what its line end leaves
pub costs_block : (block b b1 b2 : List ℕ) (old mid new : SinkView) (result : Result (Unit {0}) WriteFault) → HasGathered block b old b1 mid
    → (FIXED_BUFFER < length block → (mid.calls ≤ old.calls + 2) × (b1 ≡ [])) → Gathers (13 ∷ 10 ∷ []) b1 mid result b2 new → Costs 2 [] old result b2 new
costs_block block b b1 b2 old mid new (Ok _) first long then =
    let h = block_costs block b b1 old.calls mid.calls first.few long b2 new.calls then.few in omega arith
costs_block block b b1 b2 old mid new (Err e) first long (stop, few) =
    let h = block_stops block b b1 old.calls mid.calls first.few long new.calls few in omega arith

-- a line sends what was gathered only where that is owed
pub line_costs : (text b b' : List ℕ) (old new : SinkView) (result : Result (Unit {0}) WriteFault) → Gathers text b old result b' new → length text + 2 ≤ FIXED_BUFFER
    → new.calls ≤ old.calls + owes b
line_costs text b b' old new (Ok _) h short = go h.few
  where
    go : IsFew (length text) (length b) old.calls (length b') new.calls → new.calls ≤ old.calls + owes b
    go (inl (fits, same, grown)) = omega arith
    go (inr (over, small)) = let o = owes_one b (omega arith) in let t = (small (omega arith)).0 in omega arith
line_costs text b b' old new (Err e) (stop, (over, small)) short =
    let o = owes_one b (omega arith) in let t = small (omega arith) in omega arith

-- a text is gathered in an empty buffer, which is then sent
pub sent_at_last : (text empty b : List ℕ) (old mid new : SinkView) (result : Result (Unit {0}) WriteFault) → empty ≡ [] → HasGathered text empty old b mid → Writes b mid result new
    → Writes text old result new
sent_at_last text empty b old mid new result none first last =
    let all : first.sent ++ b ≡ text = sym first.splits ∙ ap (λ l. l ++ text) none in
    subst (λ l. Writes l old result new) all (writes_behind first.sent b old mid new result first.wrote last)

-- the pieces of a set's line are its text
set_pieces : (key flags exptime size noreply : List ℕ) → codes "set " ++ (key ++ (32 ∷ (flags ++ (32 ∷ (exptime ++ (32 ∷ (size ++ (noreply ++ line_end))))))))
    ≡ codes "set" ++ spaced key ++ spaced flags ++ spaced exptime ++ spaced size ++ noreply ++ line_end
set_pieces key flags exptime size noreply = grind (arith, common_steps)

pub set_line_pieces : (key flags exptime size noreply word key' space flags' space' exptime' space'' size' noreply' : List ℕ) → word ≡ codes "set " → key' ≡ key
    → space ≡ 32 ∷ [] → flags' ≡ flags → space' ≡ 32 ∷ [] → exptime' ≡ exptime → space'' ≡ 32 ∷ [] → size' ≡ size → noreply' ≡ noreply
    → word ++ (key' ++ (space ++ (flags' ++ (space' ++ (exptime' ++ (space'' ++ (size' ++ (noreply' ++ line_end))))))))
    ≡ codes "set" ++ spaced key ++ spaced flags ++ spaced exptime ++ spaced size ++ noreply ++ line_end
set_line_pieces key flags exptime size noreply word key' space flags' space' exptime' space'' size' noreply' a b c d e f g h i =
    rw (a, b, c, d, e, f, g, h, i) (set_pieces key flags exptime size noreply)

-- the pieces of a get of one key are its text, which fits the buffer
pub get_pieces : (key key' : List ℕ) → key' ≡ key → codes "get " ++ (key' ++ line_end) ≡ codes "get" ++ flat_map spaced (key ∷ []) ++ line_end
get_pieces key key' same = ap (λ k. codes "get " ++ (k ++ line_end)) (same ∙ sym (append-nil key))

pub get_fits : (key : List ℕ) → length key ≤ 250 → length (codes "get " ++ (key ++ line_end)) ≤ FIXED_BUFFER
get_fits key short = let size = length-append key line_end in omega arith

-- what a text that fits an empty buffer leaves, when it stops and when it is sent
module _ (pieces text empty : List ℕ) (old : SinkView) (none : empty ≡ []) (are : pieces ≡ text) where
  pub stopped_first : (new : SinkView) → HasStopped (empty ++ pieces) old new → HasStopped text old new
  stopped_first new = subst (λ l. HasStopped l old new) (ap (λ l. l ++ pieces) none ∙ are)

  pub few_at_fault : (new : SinkView) → length pieces ≤ FIXED_BUFFER → IsFewAtFault (length pieces) (length empty) old.calls new.calls → TakesFewCalls text 1 old new
  few_at_fault new fits (over, few) = absurd (let size = ap length none in omega arith)

  pub few_when_sent : (b : List ℕ) (mid new : SinkView) → length pieces ≤ FIXED_BUFFER → 0 < length pieces → HasGathered pieces empty old b mid
      → (0 < length b → new.calls ≡ mid.calls + 1) → TakesFewCalls text 1 old new
  few_when_sent b mid new fits some first sent = go first.few
    where
      size : length empty ≡ 0
      size = ap length none

      go : IsFew (length pieces) (length empty) old.calls (length b) mid.calls → TakesFewCalls text 1 old new
      go (inl (within, same, grown)) = let zero = size in let once = sent (omega arith) in record { at_once = λ short. once ∙ ap (λ n. n + 1) same; few = omega arith }
      go (inr (over, small)) = absurd (let zero = size in omega arith)
