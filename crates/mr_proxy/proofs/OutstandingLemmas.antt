-- How a map by name and the numbers of the requests under way stand for the list of them.
use Rattle.std.proofs.Common.{◌≡◌, ◌≢◌, ◌∙◌, ℕ, zero, suc, ◌+◌, ◌<◌, ◌≤◌, ◌⊎◌, inl, inr, ◌==◌, ◌&&◌, ◌||◌, Bool, true, false, cond, List, [], ◌∷◌, ◌++◌, length, take, drop, get_or, remove, slice_get, slice_set, Option, Some, None, IsSome, Result, Ok, Err, IsOk, OnOk, refl, sym, ap, subst, arith, append_assoc, eqb-true, eq-eqb}
use Rattle.std.specs.Option.{option_to_list, OnSome}
use Rattle.std.specs.List.{AllByRecursion, list_any}
use Rattle.std.proofs.lemmas.Bool.{false_from_ne_true, cases_lt}
use Rattle.std.proofs.lemmas.List.{append-nil}
use Rattle.std.proofs.lemmas.List.Folds.{list_any-append}
use Rattle.std.proofs.lemmas.Option.{slice_get_past}
use Rattle.std.proofs.Math.Bool.{and_assoc}
use Rattle.mr_history.specs.OpIds.{is_same_op}
use Rattle.mr_history.specs.declared.op_id.OpId.{OpId}
use Rattle.mr_proxy.specs.Pending.{PendingView}
use Rattle.mr_proxy.specs.Transitions.{place_of_op, pending_with}
use Rattle.mr_proxy.specs.steps.Outstanding.{is_equal, named, listed, IsFound, Rise, IsKept}

-- names are equal where they compare so

both_hold : (a b : Bool) → (a && b) ≡ true → (a ≡ true) × (b ≡ true)
both_hold true true e = (refl, refl)
both_hold true false e = cc
both_hold false b e = cc

pub same_op_is : (a b : OpId) → is_same_op a b ≡ true → a ≡ b
same_op_is a b e =
    let (front, number) = both_hold ((a.proxy == b.proxy) && (a.incarnation == b.incarnation)) (a.number == b.number) e in
    let (proxy, incarnation) = both_hold (a.proxy == b.proxy) (a.incarnation == b.incarnation) front in
    ap (λ x. named x a.incarnation a.number) (eqb-true a.proxy b.proxy proxy)
    ∙ ap (λ x. named b.proxy x a.number) (eqb-true a.incarnation b.incarnation incarnation)
    ∙ ap (λ x. named b.proxy b.incarnation x) (eqb-true a.number b.number number)

equal_same : (a b : OpId) → is_same_op a b ≡ is_equal a b
equal_same a b = and_assoc (a.proxy == b.proxy) (a.incarnation == b.incarnation) (a.number == b.number)

equal_is : (a b : OpId) → is_equal a b ≡ true → a ≡ b
equal_is a b e = same_op_is a b (equal_same a b ∙ e)

equal_itself : (a : OpId) → is_equal a a ≡ true
equal_itself a =
    let proxy : (a.proxy == a.proxy) ≡ true = eq-eqb a.proxy a.proxy refl in
    let incarnation : (a.incarnation == a.incarnation) ≡ true = eq-eqb a.incarnation a.incarnation refl in
    let number : (a.number == a.number) ≡ true = eq-eqb a.number a.number refl in
    rw (proxy, incarnation, number) refl

same_as : (a b : OpId) → a ≡ b → is_same_op a b ≡ true
same_as a b e = ap (is_same_op a) (sym e) ∙ equal_same a a ∙ equal_itself a

differ : (a b : OpId) → a ≢ b → is_same_op a b ≡ false
differ a b apart = false_from_ne_true (is_same_op a b) (λ e. apart (same_op_is a b e))

unequal : (a b : OpId) → a ≢ b → is_equal a b ≡ false
unequal a b apart = false_from_ne_true (is_equal a b) (λ e. apart (equal_is a b e))

-- lists in parts

all_weaker : {X : Type 0} (P Q : X → Type 0) → ((x : X) → P x → Q x) → (xs : List X) → AllByRecursion P xs → AllByRecursion Q xs
all_weaker P Q so [] all = tt
all_weaker P Q so (x ∷ xs) all = (so x all.0, all_weaker P Q so xs all.1)

all_left : {X : Type 0} (P : X → Type 0) (xs ys : List X) → AllByRecursion P (xs ++ ys) → AllByRecursion P xs
all_left P [] ys all = tt
all_left P (x ∷ xs) ys all = (all.0, all_left P xs ys all.1)

all_right : {X : Type 0} (P : X → Type 0) (xs ys : List X) → AllByRecursion P (xs ++ ys) → AllByRecursion P ys
all_right P [] ys all = all
all_right P (x ∷ xs) ys all = all_right P xs ys all.1

all_both : {X : Type 0} (P : X → Type 0) (xs ys : List X) → AllByRecursion P xs → AllByRecursion P ys → AllByRecursion P (xs ++ ys)
all_both P [] ys left right = right
all_both P (x ∷ xs) ys left right = (left.0, all_both P xs ys left.1 right)

split_at : (xs : List ℕ) (k : ℕ) → k < length xs → xs ≡ take k xs ++ get_or xs k 0 ∷ drop (suc k) xs
split_at [] k below = absurd (omega arith)
split_at (x ∷ xs) zero below = refl
split_at (x ∷ xs) (suc k) below = ap (λ l. x ∷ l) (split_at xs k (omega arith))

get_middle : {X : Type 0} (xs ys : List X) (x : X) → slice_get (xs ++ x ∷ ys) (length xs) ≡ Some x
get_middle [] ys x = refl
get_middle (y ∷ xs) ys x = get_middle xs ys x

set_middle : {X : Type 0} (xs ys : List X) (x z : X) → slice_set (xs ++ x ∷ ys) (length xs) z ≡ xs ++ z ∷ ys
set_middle [] ys x z = refl
set_middle (y ∷ xs) ys x z = ap (λ l. y ∷ l) (set_middle xs ys x z)

remove_middle : {X : Type 0} (xs ys : List X) (x : X) → remove (xs ++ x ∷ ys) (length xs) ≡ xs ++ ys
remove_middle [] ys x = refl
remove_middle (y ∷ xs) ys x = ap (λ l. y ∷ l) (remove_middle xs ys x)

pub remove_none : {X : Type 0} (xs : List X) (k : ℕ) → slice_get xs k ≡ None → remove xs k ≡ xs
remove_none [] zero e = refl
remove_none [] (suc k) e = refl
remove_none (x ∷ xs) zero e = cc
remove_none (x ∷ xs) (suc k) e = ap (λ l. x ∷ l) (remove_none xs k e)

any_in : (test : ℕ → Bool) (x : ℕ) (xs : List ℕ) (t : Bool) → test x ≡ t → (t || list_any test xs) ≡ true
    → (list_any test xs ≡ true → (k : ℕ) × (k < length xs) × (test (get_or xs k 0) ≡ true))
    → (k : ℕ) × (k < length (x ∷ xs)) × (test (get_or (x ∷ xs) k 0) ≡ true)
any_in test x xs true is e later = (zero, omega arith, is)
any_in test x xs false is e later =
    let (k, below, passes) = later e in
    (suc k, omega arith, passes)

any_at : (test : ℕ → Bool) (xs : List ℕ) → list_any test xs ≡ true → (k : ℕ) × (k < length xs) × (test (get_or xs k 0) ≡ true)
any_at test [] e = cc
any_at test (x ∷ xs) e = any_in test x xs (test x) refl e (any_at test xs)

-- numbers that rise

rise_parts : (xs : List ℕ) (n : ℕ) (ys : List ℕ) → Rise (xs ++ n ∷ ys)
    → AllByRecursion (λ m. m < n) xs × AllByRecursion (λ m. n < m) ys × Rise (xs ++ ys)
rise_parts [] n ys up = (tt, up.0, up.1)
rise_parts (x ∷ xs) n ys up =
    let (below, above, rise) = rise_parts xs n ys up.1 in
    let behind = all_right (λ m. x < m) xs (n ∷ ys) up.0 in
    let before = all_left (λ m. x < m) xs (n ∷ ys) up.0 in
    ((behind.0, below), above, (all_both (λ m. x < m) xs ys before behind.1, rise))

rise_pushed : (xs : List ℕ) (n : ℕ) → Rise xs → AllByRecursion (λ m. m < n) xs → Rise (xs ++ n ∷ [])
rise_pushed [] n up below = (tt, tt)
rise_pushed (x ∷ xs) n up below = (all_both (λ m. x < m) xs (n ∷ []) up.0 (below.0, tt), rise_pushed xs n up.1 below.1)

all_at : (P : ℕ → Type 0) (xs : List ℕ) (k : ℕ) → AllByRecursion P xs → k < length xs → P (get_or xs k 0)
all_at P [] k all below = absurd (omega arith)
all_at P (x ∷ xs) zero all below = all.0
all_at P (x ∷ xs) (suc k) all below = all_at P xs k all.1 (omega arith)

-- each number is at most the next ones
pub rise_between : (xs : List ℕ) → Rise xs → (i j : ℕ) → i ≤ j → j < length xs → get_or xs i 0 ≤ get_or xs j 0
rise_between [] up i j order below = absurd (omega arith)
rise_between (x ∷ xs) up zero zero order below = omega arith
rise_between (x ∷ xs) up zero (suc j) order below = let less = all_at (λ m. x < m) xs j up.0 (omega arith) in omega arith
rise_between (x ∷ xs) up (suc i) zero order below = absurd (omega arith)
rise_between (x ∷ xs) up (suc i) (suc j) order below = rise_between xs up.1 i j (omega arith) (omega arith)

-- the list that is stood for

module _ (proxy incarnation : ℕ) where
  abbrev name : ℕ → OpId
  name = named proxy incarnation

  abbrev There : (OpId → Option PendingView) → List ℕ → Type 0
  There find numbers = AllByRecursion (λ number. IsFound find (name number)) numbers

  abbrev list_of : (OpId → Option PendingView) → List ℕ → List PendingView
  list_of find numbers = listed find proxy incarnation numbers

  listed_append : (find : OpId → Option PendingView) (xs ys : List ℕ) → list_of find (xs ++ ys) ≡ list_of find xs ++ list_of find ys
  listed_append find [] ys = refl
  listed_append find (x ∷ xs) ys =
      ap (λ l. option_to_list (find (name x)) ++ l) (listed_append find xs ys)
      ∙ sym (append_assoc (option_to_list (find (name x))) (list_of find xs) (list_of find ys))

  listed_there : (find : OpId → Option PendingView) (x : ℕ) (xs : List ℕ) (pending : PendingView) → find (name x) ≡ Some pending
      → list_of find (x ∷ xs) ≡ pending ∷ list_of find xs
  listed_there find x xs pending e = ap (λ o. option_to_list o ++ list_of find xs) e

  pub length_listed : (find : OpId → Option PendingView) (xs : List ℕ) → There find xs → length (list_of find xs) ≡ length xs
  length_listed find [] all = refl
  length_listed find (x ∷ xs) all =
      let here = all.0 in
      ap length (listed_there find x xs here.pending here.there) ∙ ap suc (length_listed find xs all.1)

  agree : (find other : OpId → Option PendingView) (xs : List ℕ) → AllByRecursion (λ number. other (name number) ≡ find (name number)) xs
      → list_of other xs ≡ list_of find xs
  agree find other [] all = refl
  agree find other (x ∷ xs) all =
      ap (λ o. option_to_list o ++ list_of other xs) all.0 ∙ ap (λ l. option_to_list (find (name x)) ++ l) (agree find other xs all.1)

  moved : (find other : OpId → Option PendingView) (xs : List ℕ) → AllByRecursion (λ number. other (name number) ≡ find (name number)) xs
      → There find xs → There other xs
  moved find other [] same all = tt
  moved find other (x ∷ xs) same all =
      let here = all.0 in
      (record { pending = here.pending; there = same.0 ∙ here.there; own = here.own }, moved find other xs same.1 all.1)

  step_past : (pending : PendingView) (op : OpId) (list : List PendingView) → is_same_op pending.op op ≡ false
      → place_of_op (pending ∷ list) op ≡ 1 + place_of_op list op
  step_past pending op list e = rw e refl

  stops : (pending : PendingView) (op : OpId) (list : List PendingView) → is_same_op pending.op op ≡ true → place_of_op (pending ∷ list) op ≡ 0
  stops pending op list e = rw e refl

  -- behind requests of other names
  place_behind : (find : OpId → Option PendingView) (op : OpId) (xs : List ℕ) (ys : List PendingView) → There find xs
      → AllByRecursion (λ number. name number ≢ op) xs → place_of_op (list_of find xs ++ ys) op ≡ length xs + place_of_op ys op
  place_behind find op [] ys all others = omega arith
  place_behind find op (x ∷ xs) ys all others =
      let here = all.0 in
      let apart = others.0 in
      let past = step_past here.pending op (list_of find xs ++ ys) (differ here.pending.op op (λ e. apart (sym here.own ∙ e))) in
      let later = place_behind find op xs ys all.1 others.1 in
      ap (λ l. place_of_op (l ++ ys) op) (listed_there find x xs here.pending here.there) ∙ past ∙ omega arith

  -- a request that is found stands between those of the numbers before its own and of those behind it
  pub record Stands (find : OpId → Option PendingView) (numbers : List ℕ) (op : OpId) (pending : PendingView) (before behind : List ℕ) : Type 0 where
    pub is : numbers ≡ before ++ op.number ∷ behind
    pub own : name op.number ≡ op
    pub there : find op ≡ Some pending
    pub named : pending.op ≡ op
    pub found_before : There find before
    pub found_behind : There find behind
    pub below : AllByRecursion (λ number. name number ≢ op) before
    pub above : AllByRecursion (λ number. name number ≢ op) behind
    pub rise : Rise (before ++ behind)

  less_apart : (op : OpId) (number : ℕ) → number < op.number → name number ≢ op
  less_apart op number less e = let same = ap (λ (o : OpId). o.number) e in absurd (omega arith)

  more_apart : (op : OpId) (number : ℕ) → op.number < number → name number ≢ op
  more_apart op number more e = let same = ap (λ (o : OpId). o.number) e in absurd (omega arith)

  module _ (find : OpId → Option PendingView) (numbers : List ℕ) (kept : IsKept find proxy incarnation numbers) where
    pub spot : (op : OpId) → IsSome (find op) → (k : ℕ) × (k < length numbers) × (name (get_or numbers k 0) ≡ op)
    spot op some =
        let (k, below, passes) = any_at (λ number. is_same_op (name number) op) numbers (kept.known op some) in
        (k, below, same_op_is (name (get_or numbers k 0)) op passes)

    pub stands : (op : OpId) (pending : PendingView) → find op ≡ Some pending → (k : ℕ) → k < length numbers → get_or numbers k 0 ≡ op.number
        → Stands find numbers op pending (take k numbers) (drop (suc k) numbers)
    stands op pending there k below at =
        let (other, inside, own_at) = spot op (subst IsSome (sym there) refl) in
        let own : name op.number ≡ op = ap name (sym (ap (λ (o : OpId). o.number) own_at)) ∙ own_at in
        let is : numbers ≡ take k numbers ++ op.number ∷ drop (suc k) numbers =
        split_at numbers k below ∙ ap (λ n. take k numbers ++ n ∷ drop (suc k) numbers) at in
        let all : There find (take k numbers ++ op.number ∷ drop (suc k) numbers) = subst (There find) is kept.found in
        let (here, later) = all_right (λ number. IsFound find (name number)) (take k numbers) (op.number ∷ drop (suc k) numbers) all in
        let same : Some here.pending ≡ Some pending = sym here.there ∙ ap find own ∙ there in
        let pending_is : here.pending ≡ pending = cc in
        let (less, more, rise) = rise_parts (take k numbers) op.number (drop (suc k) numbers) (subst Rise is kept.rise) in
        record {
          is = is;
          own = own;
          there = there;
          named = ap (λ (x : PendingView). x.op) (sym pending_is) ∙ here.own ∙ own;
          found_before = all_left (λ number. IsFound find (name number)) (take k numbers) (op.number ∷ drop (suc k) numbers) all;
          found_behind = later;
          below = all_weaker (λ n. n < op.number) (λ n. name n ≢ op) (less_apart op) (take k numbers) less;
          above = all_weaker (λ n. op.number < n) (λ n. name n ≢ op) (more_apart op) (drop (suc k) numbers) more;
          rise = rise;
        }

  module _ (find : OpId → Option PendingView) (numbers : List ℕ) (op : OpId) (pending : PendingView) (before behind : List ℕ)
      (s : Stands find numbers op pending before behind) where
    listed_is : list_of find numbers ≡ list_of find before ++ pending ∷ list_of find behind
    listed_is =
        ap (list_of find) s.is ∙ listed_append find before (op.number ∷ behind)
        ∙ ap (λ l. list_of find before ++ l) (listed_there find op.number behind pending (ap find s.own ∙ s.there))

    pub place_is : place_of_op (list_of find numbers) op ≡ length (list_of find before)
    place_is =
        let behind_others = place_behind find op before (pending ∷ list_of find behind) s.found_before s.below in
        let first = stops pending op (list_of find behind) (same_as pending.op op s.named) in
        let same = length_listed find before s.found_before in
        ap (λ l. place_of_op l op) listed_is ∙ behind_others ∙ omega arith

    pub found_is : pending_with (list_of find numbers) op ≡ Some pending
    found_is =
        ap (slice_get (list_of find numbers)) place_is ∙ ap (λ l. slice_get l (length (list_of find before))) listed_is
        ∙ get_middle (list_of find before) (list_of find behind) pending

    module _ (other : OpId → Option PendingView) (w : Option PendingView) (changes : (q : OpId) → other q ≡ cond (is_equal op q) w (find q)) where
      off : (q : OpId) → q ≢ op → other q ≡ find q
      off q apart = changes q ∙ ap (λ b. cond b w (find q)) (unequal op q (λ e. apart (sym e)))

      on : other op ≡ w
      on = changes op ∙ ap (λ b. cond b w (find op)) (equal_itself op)

      same_before : AllByRecursion (λ number. other (name number) ≡ find (name number)) before
      same_before = all_weaker (λ n. name n ≢ op) (λ n. other (name n) ≡ find (name n)) (λ n apart. off (name n) apart) before s.below

      same_behind : AllByRecursion (λ number. other (name number) ≡ find (name number)) behind
      same_behind = all_weaker (λ n. name n ≢ op) (λ n. other (name n) ≡ find (name n)) (λ n apart. off (name n) apart) behind s.above

      abbrev test : OpId → ℕ → Bool
      test q number = is_same_op (name number) q

      any_before : (q : OpId) → list_any (test q) numbers ≡ (list_any (test q) before || (test q op.number || list_any (test q) behind))
      any_before q = ap (list_any (test q)) s.is ∙ list_any-append (test q) before (op.number ∷ behind)

      -- taken out of both
      pub removed : w ≡ None → list_of other (before ++ behind) ≡ remove (list_of find numbers) (place_of_op (list_of find numbers) op)
      removed none =
          listed_append other before behind
          ∙ ap (λ l. l ++ list_of other behind) (agree find other before same_before)
          ∙ ap (λ l. list_of find before ++ l) (agree find other behind same_behind)
          ∙ sym (remove_middle (list_of find before) (list_of find behind) pending)
          ∙ sym (ap (remove (list_of find numbers)) place_is ∙ ap (λ l. remove l (length (list_of find before))) listed_is)

      known_removed : (q : OpId) (t : Bool) → is_equal op q ≡ t → w ≡ None → (IsSome (find q) → list_any (test q) numbers ≡ true) → IsSome (other q)
          → list_any (test q) (before ++ behind) ≡ true
      known_removed q true e none known some =
          let gone : other q ≡ None = changes q ∙ ap (λ b. cond b w (find q)) e ∙ none in
          let both : false ≡ true = subst IsSome gone some in cc
      known_removed q false e none known some =
          let same : other q ≡ find q = changes q ∙ ap (λ b. cond b w (find q)) e in
          let apart : op ≢ q = λ is. (let both : false ≡ true = sym e ∙ ap (is_equal op) (sym is) ∙ equal_itself op in cc) in
          let fails : test q op.number ≡ false = differ (name op.number) q (λ is. apart (sym s.own ∙ is)) in
          list_any-append (test q) before behind
          ∙ sym (any_before q ∙ ap (λ b. list_any (test q) before || (b || list_any (test q) behind)) fails)
          ∙ known (subst IsSome same some)

      pub kept_removed : w ≡ None → IsKept find proxy incarnation numbers → IsKept other proxy incarnation (before ++ behind)
      kept_removed none kept = record {
        found = all_both (λ number. IsFound other (name number)) before behind
            (moved find other before same_before s.found_before) (moved find other behind same_behind s.found_behind);
        known = λ q some. known_removed q (is_equal op q) refl none (kept.known q) some;
        rise = s.rise;
      }

      -- written in the map, it is written at its place
      pub noted : (new : PendingView) → w ≡ Some new
          → list_of other numbers ≡ slice_set (list_of find numbers) (place_of_op (list_of find numbers) op) new
      noted new is =
          ap (list_of other) s.is ∙ listed_append other before (op.number ∷ behind)
          ∙ ap (λ l. list_of other before ++ l) (listed_there other op.number behind new (ap other s.own ∙ on ∙ is))
          ∙ ap (λ l. l ++ new ∷ list_of other behind) (agree find other before same_before)
          ∙ ap (λ l. list_of find before ++ new ∷ l) (agree find other behind same_behind)
          ∙ sym (set_middle (list_of find before) (list_of find behind) pending new)
          ∙ sym (ap (λ n. slice_set (list_of find numbers) n new) place_is ∙ ap (λ l. slice_set l (length (list_of find before)) new) listed_is)

      known_noted : (q : OpId) (t : Bool) → is_equal op q ≡ t → ((r : OpId) → IsSome (find r) → list_any (test r) numbers ≡ true) → IsSome (other q)
          → list_any (test q) numbers ≡ true
      known_noted q true e known some =
          subst (λ r. list_any (test r) numbers ≡ true) (equal_is op q e) (known op (subst IsSome (sym s.there) refl))
      known_noted q false e known some =
          let same : other q ≡ find q = changes q ∙ ap (λ b. cond b w (find q)) e in
          known q (subst IsSome same some)

      pub kept_noted : (new : PendingView) → w ≡ Some new → new.op ≡ op → IsKept find proxy incarnation numbers → IsKept other proxy incarnation numbers
      kept_noted new is same kept =
          let here : IsFound other (name op.number) = record { pending = new; there = ap other s.own ∙ on ∙ is; own = same ∙ sym s.own } in
          let found : There other (before ++ op.number ∷ behind) =
          all_both (λ number. IsFound other (name number)) before (op.number ∷ behind)
          (moved find other before same_before s.found_before) (here, moved find other behind same_behind s.found_behind) in
          record {
            found = subst (There other) (sym s.is) found;
            known = λ q some. known_noted q (is_equal op q) refl kept.known some;
            rise = kept.rise;
          }

  absent_apart : (find : OpId → Option PendingView) (op : OpId) → find op ≡ None → (number : ℕ) → IsFound find (name number) → name number ≢ op
  absent_apart find op none number here e =
      let there = here.there in
      let found : find op ≡ Some here.pending = ap find (sym e) ∙ there in
      cc

  found_in : (find : OpId → Option PendingView) (numbers : List ℕ) → IsKept find proxy incarnation numbers → (op : OpId) (o : Option PendingView) → find op ≡ o
      → pending_with (list_of find numbers) op ≡ o
  found_in find numbers kept op None e =
      let others = all_weaker (λ n. IsFound find (name n)) (λ n. name n ≢ op) (absent_apart find op e) numbers kept.found in
      let behind = place_behind find op numbers [] kept.found others in
      let same = ap (λ l. place_of_op l op) (append-nil (list_of find numbers)) in
      let count = length_listed find numbers kept.found in
      slice_get_past (list_of find numbers) (place_of_op (list_of find numbers) op) (omega arith)
  found_in find numbers kept op (Some pending) e =
      let (k, below, own) = spot find numbers kept op (subst IsSome (sym e) refl) in
      found_is find numbers op pending (take k numbers) (drop (suc k) numbers)
      (stands find numbers kept op pending e k below (ap (λ (o : OpId). o.number) own))

  -- what is found by name in the map is found so in the list
  pub pending_found : (find : OpId → Option PendingView) (numbers : List ℕ) → IsKept find proxy incarnation numbers → (op : OpId)
      → pending_with (list_of find numbers) op ≡ find op
  pending_found find numbers kept op = found_in find numbers kept op (find op) refl

  -- a number that isn't found isn't that of a request
  pub missing : (find : OpId → Option PendingView) (numbers : List ℕ) → IsKept find proxy incarnation numbers → (op : OpId) (place : ℕ) → IsSome (find op)
      → ((k : ℕ) → k < place → get_or numbers k 0 < op.number) → ((k : ℕ) → place ≤ k → k < length numbers → op.number < get_or numbers k 0) → ⊥
  missing find numbers kept op place some lower higher =
      let (k, below, own) = spot find numbers kept op some in
      beside k below (ap (λ (o : OpId). o.number) own) (cases_lt k place)
    where
      beside : (k : ℕ) → k < length numbers → get_or numbers k 0 ≡ op.number → (k < place) ⊎ (place ≤ k) → ⊥
      beside k below same (inl less) = let low = lower k less in omega arith
      beside k below same (inr more) = let high = higher k more below in omega arith

  -- the request of a place
  pub listed_at : (find : OpId → Option PendingView) (xs : List ℕ) (k : ℕ) → There find xs → k < length xs
      → slice_get (list_of find xs) k ≡ find (name (get_or xs k 0))
  listed_at find [] k all below = absurd (omega arith)
  listed_at find (x ∷ xs) zero all below =
      let here = all.0 in
      ap (λ l. slice_get l 0) (listed_there find x xs here.pending here.there) ∙ sym here.there
  listed_at find (x ∷ xs) (suc k) all below =
      let here = all.0 in
      ap (λ l. slice_get l (suc k)) (listed_there find x xs here.pending here.there) ∙ listed_at find xs k all.1 (omega arith)

  -- where requests were issued before a number, so were their numbers
  pub earlier : (find : OpId → Option PendingView) (bound : ℕ) (xs : List ℕ) → There find xs
      → AllByRecursion (λ (pending : PendingView). pending.op.number < bound) (list_of find xs) → AllByRecursion (λ number. number < bound) xs
  earlier find bound [] all low = tt
  earlier find bound (x ∷ xs) all low =
      let here = all.0 in
      let whole = subst (AllByRecursion (λ (pending : PendingView). pending.op.number < bound)) (listed_there find x xs here.pending here.there) low in
      (subst (λ (o : OpId). o.number < bound) here.own whole.0, earlier find bound xs all.1 whole.1)

  -- one more request
  module _ (find other : OpId → Option PendingView) (numbers : List ℕ) (new : PendingView)
      (changes : (q : OpId) → other q ≡ cond (is_equal new.op q) (Some new) (find q)) (own : new.op ≡ name new.op.number)
      (later : AllByRecursion (λ number. number < new.op.number) numbers) where
    pushed_off : (number : ℕ) → number < new.op.number → other (name number) ≡ find (name number)
    pushed_off number less =
        changes (name number)
        ∙ ap (λ b. cond b (Some new) (find (name number)))
        (unequal new.op (name number) (λ e. (let same = ap (λ (o : OpId). o.number) e in absurd (omega arith))))

    pushed_on : other (name new.op.number) ≡ Some new
    pushed_on = ap other (sym own) ∙ changes new.op ∙ ap (λ b. cond b (Some new) (find new.op)) (equal_itself new.op)

    pushed_same : AllByRecursion (λ number. other (name number) ≡ find (name number)) numbers
    pushed_same = all_weaker (λ n. n < new.op.number) (λ n. other (name n) ≡ find (name n)) pushed_off numbers later

    pub pushed : list_of other (numbers ++ new.op.number ∷ []) ≡ list_of find numbers ++ new ∷ []
    pushed =
        listed_append other numbers (new.op.number ∷ [])
        ∙ ap (λ l. list_of other numbers ++ l) (listed_there other new.op.number [] new pushed_on)
        ∙ ap (λ l. l ++ new ∷ []) (agree find other numbers pushed_same)

    known_pushed : (q : OpId) (t : Bool) → is_equal new.op q ≡ t
        → (IsSome (find q) → list_any (λ number. is_same_op (name number) q) numbers ≡ true) → IsSome (other q)
        → list_any (λ number. is_same_op (name number) q) (numbers ++ new.op.number ∷ []) ≡ true
    known_pushed q true e known some =
        let here : is_same_op (name new.op.number) q ≡ true = same_as (name new.op.number) q (sym own ∙ equal_is new.op q e) in
        list_any-append (λ number. is_same_op (name number) q) numbers (new.op.number ∷ []) ∙ rw here (last (list_any (λ number. is_same_op (name number) q) numbers))
      where
        last : (b : Bool) → (b || true) ≡ true
        last true = refl
        last false = refl
    known_pushed q false e known some =
        let same : other q ≡ find q = changes q ∙ ap (λ b. cond b (Some new) (find q)) e in
        list_any-append (λ number. is_same_op (name number) q) numbers (new.op.number ∷ [])
        ∙ rw (known (subst IsSome same some)) refl

    pub kept_pushed : IsKept find proxy incarnation numbers → IsKept other proxy incarnation (numbers ++ new.op.number ∷ [])
    kept_pushed kept = record {
      found = all_both (λ number. IsFound other (name number)) numbers (new.op.number ∷ []) (moved find other numbers pushed_same kept.found)
          (record { pending = new; there = pushed_on; own = own }, tt);
      known = λ q some. known_pushed q (is_equal new.op q) refl (kept.known q) some;
      rise = rise_pushed numbers new.op.number kept.rise later;
    }

-- where each name is found alike
pub same_find : (find other : OpId → Option PendingView) → ((q : OpId) → other q ≡ find q) → other ≡ find
same_find find other same = λ i q. same q i

pub on_ok : {A E P : Type 0} (r : Result A E) → IsOk r → OnOk r P → P
on_ok (Ok x) is h = h
on_ok (Err e) is h = cc

pub on_some : {A P : Type 0} (o : Option A) → IsSome o → OnSome o P → P
on_some (Some x) is h = h
on_some None is h = cc

pub past : (place count : ℕ) → (place < count → IsSome {T = ℕ} None) → count ≤ place
past place count inside = by (cases_lt place count)
  where
    by : (place < count) ⊎ (count ≤ place) → count ≤ place
    by (inl less) = let some = inside less in cc
    by (inr more) = more
