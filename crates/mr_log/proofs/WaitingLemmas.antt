-- At most one line of each kind waits.
use Rattle.std.proofs.Common.{◌≡◌, ◌≢◌, ℕ, ◌+◌, ◌<◌, ◌≤◌, List, [], ◌∷◌, ◌++◌, length, map, drop, get_or, set, remove, Option, Some, true, inl, inr, refl, sym, ap, ◌∙◌, arith, append-nil, drop_of_length-le, length-append, length-set, get_or-set_same, get_or-set_other}
use Rattle.std.proofs.Math.Dec.{eqb}
use Rattle.std.specs.List.{IsDistinct, list_any}
use Rattle.std.proofs.lemmas.Bool.{ne_eqb}
use Rattle.std.proofs.lemmas.Bool.Decides.{eqb_tells}
use Rattle.std.proofs.lemmas.List.{get_or-map, get_or_default, length-map, take_all}
use Rattle.std.proofs.lemmas.List.Quantifiers.{all_pairs_push, all_pairs_remove}
use Rattle.std.specs.List.{refill}
use Rattle.std.proofs.lemmas.Option.{slice_get-get_or, slice_get_read}
use Rattle.std.proofs.lemmas.Map.Keys.{IsDistinct-from_apart}
use Rattle.std.proofs.lemmas.Map.Steps.{length-le_from_distinct_below}
use Rattle.mr_log.specs.Kinds.{kind_of, number_of_kind, most_kinds}
use Rattle.mr_log.specs.Log.{Notes, Says}
use Rattle.mr_log.specs.Waiting.{LogView, kind_in, no_line, with_one_more, AreOneEach, IsLog, IsNoneOfKind, IsAt, IsDue, IsFirstDue}
use Rattle.mr_log.specs.declared.happening.Happening.{Happening}
use Rattle.mr_log.specs.declared.kind.Kind.{Kind}
use Rattle.mr_log.specs.declared.log.Said.{Said}
use Rattle.mr_log.proofs.KindLemmas.{kind-from_number, number-lt}

-- the number of the kind of a line
abbrev number_in : Said → ℕ
number_in line = number_of_kind (kind_in line)

-- the numbers of lines of distinct kinds are distinct
distinct_numbers : (lines : List Said) → AreOneEach lines → IsDistinct eqb (map number_in lines)
distinct_numbers lines each = IsDistinct-from_apart eqb (map number_in lines) (λ i j d i<j j<n.
    let j<m : j < length lines = omega (arith, length-map lines number_in) in
    let i<m : i < length lines = omega arith in
    let at_i = get_or-map number_in lines i no_line d i<m in
    let at_j = get_or-map number_in lines j no_line d j<m in
    ne_eqb _ _ (λ same. each i j no_line i<j j<m (kind-from_number _ _ (sym at_i ∙ same ∙ at_j))))

-- a number among those of lines is the number of a kind
some_kind : (lines : List Said) (number : ℕ) → list_any (eqb number) (map number_in lines) ≡ true → number < most_kinds
some_kind [] number among = cc
some_kind (line ∷ lines) number among = elim (eqb_tells number (number_in line)) [
  | inl (_, same) ↦ omega (arith, number-lt (kind_in line), same)
  | inr (other, _) ↦ some_kind lines number (rw other at among)
]

-- no more lines wait than there are kinds
pub few_lines : (lines : List Said) → AreOneEach lines → length lines ≤ most_kinds
few_lines lines each =
    let few = length-le_from_distinct_below (map number_in lines) most_kinds (distinct_numbers lines each) (some_kind lines) in
    omega (arith, length-map lines number_in, few)

-- the first line of its kind may wait behind the others
pub one_more_kind : (lines : List Said) (line : Said) → AreOneEach lines → IsNoneOfKind (kind_in line) lines → AreOneEach (lines ++ line ∷ [])
one_more_kind lines line each none = all_pairs_push (λ a later. kind_in a ≢ kind_in later) lines line each none

-- and there is room for it
pub room_for_one : (lines : List Said) (line : Said) → AreOneEach lines → IsNoneOfKind (kind_in line) lines → length lines < most_kinds
room_for_one lines line each none =
    omega (arith, few_lines (lines ++ line ∷ []) (one_more_kind lines line each none), length-append lines (line ∷ []))

-- a line of the same kind in place of one changes no kind
kind_kept : (lines : List Said) (place : ℕ) (line : Said) (i : ℕ) (d : Said) → place < length lines
    → kind_in line ≡ kind_in (get_or lines place d) → kind_in (get_or (set lines place line) i d) ≡ kind_in (get_or lines i d)
kind_kept lines place line i d within same = elim (eqb_tells i place) [
  | inl (_, here) ↦ rw here (ap kind_in (get_or-set_same lines place line d within) ∙ same)
  | inr (_, apart) ↦ ap kind_in (get_or-set_other lines place i line d apart)
]

pub one_each_kept : (lines : List Said) (place : ℕ) (line : Said) → place < length lines
    → ((d : Said) → kind_in line ≡ kind_in (get_or lines place d)) → AreOneEach lines → AreOneEach (set lines place line)
one_each_kept lines place line within same each i j d i<j j<n alike =
    let j<m : j < length lines = omega (arith, length-set lines place line) in
    each i j d i<j j<m (sym (kind_kept lines place line i d within (same d)) ∙ alike ∙ kind_kept lines place line j d within (same d))

-- a line that waits no longer leaves the others
pub one_each_left : (lines : List Said) (place : ℕ) → place < length lines → AreOneEach lines → AreOneEach (remove lines place)
one_each_left lines place within each = all_pairs_remove (λ a later. kind_in a ≢ kind_in later) lines place within each

-- a whole list in place of one as long
refill_whole : {X : Type 0} (xs ws : List X) → length ws ≡ length xs → refill (length xs) xs ws ≡ ws
refill_whole xs ws same =
    let none : drop (length ws) xs ≡ [] = drop_of_length-le xs (omega arith) in
    let cut : length xs ≡ length ws = sym same in
    rw (none, append-nil, cut) (take_all (length ws) ws (omega arith))

-- what `count_one_more` leaves
pub one_more_written : (xs ys ws : List Said) (kind : Kind) (place : ℕ) → ys ≡ xs → IsAt kind xs place
    → ((d : Said) → ws ≡ set ys place (with_one_more (get_or ys place d)))
    → refill (length xs) xs ws ≡ set xs place (with_one_more (get_or xs place no_line))
one_more_written xs ys ws kind place same at written =
    let plain : ws ≡ set xs place (with_one_more (get_or xs place no_line)) = rw same at (written no_line) in
    refill_whole xs ws (ap length plain ∙ length-set xs place _) ∙ plain

-- a log whose line counts one more is one
pub counted_is_log : (xs : List Said) (said : List (Option ℕ)) (kind : Kind) (place : ℕ) → IsLog (record { waiting = xs; said = said }) → IsAt kind xs place
    → IsLog (record { waiting = set xs place (with_one_more (get_or xs place no_line)); said = said })
counted_is_log xs said kind place log at = record {
  one_each = one_each_kept xs place (with_one_more (get_or xs place no_line)) at.within (λ d. at.of_kind no_line ∙ sym (at.of_kind d)) log.one_each;
  counted = log.counted;
}

-- and counts what happened
pub counts_one_more : (old : LogView) (xs ws : List Said) (said : List (Option ℕ)) (happening : Happening) (place : ℕ)
    → record { waiting = xs; said = said } ≡ old → IsAt (kind_of happening) xs place → ws ≡ set xs place (with_one_more (get_or xs place no_line))
    → Notes old happening (record { waiting = ws; said = said })
counts_one_more old xs ws said happening place is_old at written =
    let waiting : xs ≡ old.waiting = ap (λ (log : LogView). log.waiting) is_old in
    let same : said ≡ old.said = ap (λ (log : LogView). log.said) is_old in
    inr (record {
      place = place;
      line = get_or xs place no_line;
      there = rw (← waiting) (slice_get-get_or xs place no_line at.within);
      of_kind = at.of_kind no_line;
      waiting = rw (← waiting) written;
      same = same;
    })

-- a log with one more line is one
pub begun_is_log : (xs ws : List Said) (said : List (Option ℕ)) (line : Said) → IsLog (record { waiting = xs; said = said })
    → IsNoneOfKind (kind_in line) xs → ws ≡ xs ++ line ∷ [] → IsLog (record { waiting = ws; said = said })
begun_is_log xs ws said line log none same = record { one_each = rw same (one_more_kind xs line log.one_each none); counted = log.counted }

-- a log from which a line is taken is one
pub taken_is_log : (xs ws : List Said) (said : List (Option ℕ)) (place n : ℕ) (now : Option ℕ) → IsLog (record { waiting = xs; said = said })
    → place < length xs → ws ≡ remove xs place → IsLog (record { waiting = ws; said = set said n now })
taken_is_log xs ws said place n now log within same = record {
  one_each = rw same (one_each_left xs place within log.one_each);
  counted = length-set said n now ∙ log.counted;
}

-- and says it
pub says_first : (old : LogView) (xs ws : List Said) (said : List (Option ℕ)) (now place n : ℕ) (kind : Kind) (line : Said)
    → record { waiting = xs; said = said } ≡ old → IsFirstDue said now xs place → line ≡ get_or xs place line
    → ws ≡ remove xs place → kind ≡ kind_in line → n ≡ number_of_kind kind → Says old now line (record { waiting = ws; said = set said n (Some now) })
says_first old xs ws said now place n kind line is_old first read left of_kind number =
    let waiting : xs ≡ old.waiting = ap (λ (log : LogView). log.waiting) is_old in
    let same : said ≡ old.said = ap (λ (log : LogView). log.said) is_old in
    let n_is : n ≡ number_of_kind (kind_in line) = number ∙ ap number_of_kind of_kind in
    record {
      place = place;
      there = rw (← waiting) (slice_get_read xs (length xs) place line refl first.within read);
      first = rw (← waiting, ← same) first;
      left = rw (← waiting) left;
      said = rw (← same) (ap (λ (number : ℕ). set said number (Some now)) n_is);
    }

-- none of the lines so far is due
pub none_due : (said : List (Option ℕ)) (now : ℕ) (lines : List Said) (place : ℕ) (e : Said) → place < length lines
    → ((k : ℕ) (d : Said) → k < place → ¬ IsDue said now (get_or lines k d)) → ¬ IsDue said now (get_or lines place e)
    → (k : ℕ) (d : Said) → k < place + 1 → ¬ IsDue said now (get_or lines k d)
none_due said now lines place e within before here k d k<n due = elim (eqb_tells k place) [
  | inl (_, same) ↦ here (rw (get_or_default lines place d e within) at (rw same at due))
  | inr (_, apart) ↦ before k d (omega arith) due
]
